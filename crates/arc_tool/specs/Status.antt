-- The status with which the program ends, and the line that it writes on standard error, which are this project's own choice.
use Rattle.std.specs.Prelude.{ℕ, List, ◌++◌, codes, decimal}
use Rattle.arc_code.specs.DeviceFaults as faulty
use Rattle.arc_machine.specs.FaultNames as stopped
use Rattle.arc_tool.specs.declared.run.ToolFault.{ToolFault}
use Rattle.arc_tool.specs.declared.run.ToolFault.TheVariants as tool_fault
use Rattle.arc_tool.specs.declared.report.Trouble.{Trouble}
use Rattle.arc_tool.specs.declared.report.Trouble.TheVariants.{Usage, Refused, Memory, Fault, NoHeap, StepsUsed, Io, File}

-- the kind of trouble, its number and its name
abbrev pub named : (kind : List ℕ) (number : ℕ) (name : List ℕ) → List ℕ
named kind number name = kind ++ decimal number ++ codes " " ++ name

-- the status of each trouble, and its line without `arcc: `
abbrev pub report : Trouble → ℕ × List ℕ
report Usage = (101, codes "usage: check, run, trace or code, and FILE")
report (Refused refusal) = (102, named (codes "refused ") refusal.number refusal.name.now ++ codes " at " ++ decimal refusal.at)
report Memory = (102, codes "no memory")
report (Fault fault) = (103, named (codes "fault ") (stopped.report fault).0 (stopped.report fault).1)
report NoHeap = (104, codes "no heap")
report StepsUsed = (105, codes "steps used")
report (Io fault) = (106, named (codes "io ") (faulty.report fault).0 (faulty.report fault).1)
report File = (106, named (codes "io ") 93 (codes "File"))

-- the whole line
abbrev pub line_of : Trouble → List ℕ
line_of trouble = codes "arcc: " ++ (report trouble).1 ++ codes "\n"

-- what a fault of `run_text` or `trace_text` is for `serve`
abbrev pub trouble_of : ToolFault → Trouble
trouble_of (tool_fault.Refused r) = Refused r
trouble_of tool_fault.Memory = Memory
trouble_of (tool_fault.Io f) = Io f
