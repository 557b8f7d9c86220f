-- What the whole program does with its words and the bytes of its file. The lines and statuses are this project's own choice.
use Rattle.std.specs.Prelude.{◌≡◌, ◌⊎◌, ℕ, ℤ, List, codes, Option, Some, None, Result, Ok, Err, OnOk, string_bytes}
use denote.Bor.{Bor}
use Rattle.arc_spec.specs.Number.{low_byte}
use Rattle.arc_code.specs.CountedDevices.{failures_of, left_in, held_by}
use Rattle.arc_code.specs.declared.code.IoFault.{IoFault}
use Rattle.arc_code.specs.declared.code.IoFault.TheVariants as io_fault
use Rattle.arc_code.specs.declared.counted.Counted.{Counted}
use Rattle.arc_code.specs.Listing.{listing}
use Rattle.arc_code.specs.CodeSteps.{Program}
use Rattle.arc_code.specs.WrittenBytes.{WrittenAndFlushed}
use Rattle.arc_file.specs.declared.file.FileFault.{FileFault}
use Rattle.arc_file.specs.declared.file.FileFault.TheVariants as file_fault
use Rattle.arc_machine.specs.declared.stop.Stop.{Stop}
use Rattle.arc_machine.specs.declared.stop.Stop.TheVariants as stop
use Rattle.arc_words.specs.declared.request.Command.{Command}
use Rattle.arc_words.specs.declared.request.Command.TheVariants.{Check, Run, Trace, Code}
use Rattle.arc_words.specs.declared.request.Words.{Words}
use Rattle.arc_words.specs.declared.request.WordsFault.{WordsFault}
use Rattle.arc_words.specs.declared.request.WordsFault.TheVariants as words_fault
use Rattle.arc_tool.specs.declared.run.ToolFault.{ToolFault}
use Rattle.arc_tool.specs.declared.run.ToolFault.TheVariants as tool_fault
use Rattle.arc_tool.specs.declared.report.Trouble.{Trouble}
use Rattle.arc_tool.specs.declared.report.Trouble.TheVariants.{Usage, Refused, Memory, Fault, NoHeap, StepsUsed, Io, File}
use Rattle.arc_tool.specs.CompiledCode.{Compiles}
use Rattle.arc_tool.specs.RefusalStages.{IsCompilable, IsRefusal}
use Rattle.arc_tool.specs.RunAnswers.{Answered}
use Rattle.arc_tool.specs.Reports.{Names}
use Rattle.arc_tool.specs.TraceAnswers.{AnsweredTrace}
use Rattle.arc_tool.specs.Status as outcome
use Rattle.arc_tool.specs.Status.{line_of}

-- This text was printed and flushed; or the writer failed, and has some first bytes of it, or all before the flush.
abbrev pub Prints : {W : Type 0} → (contents : W → Option (List ℕ)) → (writer_failed : Type 0) → Result (Unit {0}) IoFault → List ℕ → (o0 o1 : Counted W) → Type 0
Prints contents failed answer text o0 o1 = WrittenAndFlushed answer text (held_by contents o0) (held_by contents o1) (failures_of o0) (failures_of o1) failed

-- This text is the answer, with the status 0, or the writer failed.
abbrev pub Says : {W : Type 0} → (contents : W → Option (List ℕ)) → (writer_failed : Type 0) → List ℕ → Result ℕ Trouble → (o0 o1 : Counted W) → Type 0
Says contents failed text (Ok s) o0 o1 = (s ≡ 0) × Prints contents failed (Ok tt) text o0 o1
Says contents failed text (Err (Io f)) o0 o1 = Prints contents failed (Err f) text o0 o1
Says contents failed text (Err _) o0 o1 = ⊥

-- `run` and `trace` answer what `run_text` and `trace_text` do, with the low 8 bits of the number with which the program ends as the status
abbrev pub RunsTo : Result ℕ Trouble → (answered : Result Stop ToolFault → Type 0) → Type 0
RunsTo (Ok s) answered = (n : ℤ) × (s ≡ low_byte n) × answered (Ok (stop.Ended n))
RunsTo (Err (Fault f)) answered = answered (Ok (stop.Fault f))
RunsTo (Err NoHeap) answered = answered (Ok stop.NoHeap)
RunsTo (Err StepsUsed) answered = answered (Ok stop.StepsUsed)
RunsTo (Err (Io f)) answered = answered (Err (tool_fault.Io f))
RunsTo (Err _) answered = ⊥

-- Where the source is refused, or memory was, which is no refusal of the source, the devices are kept as they were; else this is done with it.
abbrev pub UnlessRefused : List ℕ → Result ℕ Trouble → (kept done : Type 0) → Type 0
UnlessRefused source (Err (Refused r)) kept done = IsRefusal source r × (Names (codes "Memory") r → ⊥) × kept
UnlessRefused source (Err Memory) kept done = kept
UnlessRefused source _ kept done = done

-- the status of an end, or the trouble
abbrev pub ended_with : Stop → Result ℕ Trouble
ended_with (stop.Ended n) = Ok (low_byte n)
ended_with (stop.Fault f) = Err (Fault f)
ended_with stop.NoHeap = Err NoHeap
ended_with stop.StepsUsed = Err StepsUsed

-- what each command does: `check` says `ok` of a program, `run` and `trace` run it (`RunsTo`), and `code` lists its code
abbrev pub Obeyed : {R W : Type 0} → (remaining : R → Option (List ℕ)) → (contents : W → Option (List ℕ)) → (writer_failed : Type 0)
    → Command → List ℕ → (steps : ℕ) → Result ℕ Trouble → (i0 i1 : Counted R) → (o0 o1 : Counted W) → Type 0
Obeyed remaining contents failed Check source steps answer i0 i1 o0 o1 = UnlessRefused source answer (o1 ≡ o0) (IsCompilable source × Says contents failed (codes "ok\n") answer o0 o1) × (i1 ≡ i0)
Obeyed remaining contents failed Run source steps answer i0 i1 o0 o1 =
    UnlessRefused source answer ((i1 ≡ i0) × (o1 ≡ o0)) (RunsTo answer (λ a. Answered source steps a (left_in remaining i0) (left_in remaining i1) (held_by contents o0) (held_by contents o1)))
Obeyed remaining contents failed Trace source steps answer i0 i1 o0 o1 =
    UnlessRefused source answer ((i1 ≡ i0) × (o1 ≡ o0))
    (RunsTo answer (λ a. AnsweredTrace source steps a (left_in remaining i0) (left_in remaining i1) (held_by contents o0) (held_by contents o1) (failures_of o0) (failures_of o1) failed))
Obeyed remaining contents failed Code source steps answer i0 i1 o0 o1 =
    UnlessRefused source answer (o1 ≡ o0) ((code : Program) × Compiles source code × Says contents failed (listing code.instrs) answer o0 o1) × (i1 ≡ i0)

-- this trouble, and nothing is read or printed
abbrev pub Only : {I O : Type 0} → Trouble → Result ℕ Trouble → (i0 i1 : I) → (o0 o1 : O) → Type 0
Only trouble answer i0 i1 o0 o1 = (answer ≡ Err trouble) × (i1 ≡ i0) × (o1 ≡ o0)

-- the bytes of the file, or why there are none
abbrev pub source_or : {B : Type 0} → Result B FileFault → Result B Trouble
source_or (Ok source) = Ok source
source_or (Err file_fault.Failed) = Err File
source_or (Err file_fault.NoMemory) = Err Memory

-- first the words are looked at, then the file, and then the source
abbrev pub Attempted : {R W : Type 0} → (remaining : R → Option (List ℕ)) → (contents : W → Option (List ℕ)) → (writer_failed : Type 0)
    → Result Words WordsFault → Result (Bor (List ℕ)) FileFault → Result ℕ Trouble → (i0 i1 : Counted R) → (o0 o1 : Counted W) → Type 0
Attempted remaining contents failed (Err words_fault.Usage) file answer i0 i1 o0 o1 = Only Usage answer i0 i1 o0 o1
Attempted remaining contents failed (Err words_fault.Memory) file answer i0 i1 o0 o1 = Only Memory answer i0 i1 o0 o1
Attempted remaining contents failed (Err (words_fault.Help text)) file answer i0 i1 o0 o1 = Says contents failed (string_bytes text) answer o0 o1 × (i1 ≡ i0)
Attempted remaining contents failed (Ok words) (Err file_fault.Failed) answer i0 i1 o0 o1 = Only File answer i0 i1 o0 o1
Attempted remaining contents failed (Ok words) (Err file_fault.NoMemory) answer i0 i1 o0 o1 = Only Memory answer i0 i1 o0 o1
Attempted remaining contents failed (Ok words) (Ok source) answer i0 i1 o0 o1 = Obeyed remaining contents failed words.command source.now words.steps answer i0 i1 o0 o1

-- Where the command was done, what it wrote on standard output is passed on, whether its answer is a status, a fault of the program or the end of its room or
-- its steps; where standard input failed, it is as well, or standard output has failed, too. Else nothing was written, or standard output failed.
abbrev pub Flushed : Result ℕ Trouble → (passed_on writer_failed : Type 0) → Type 0
Flushed (Ok s) passed failed = passed
Flushed (Err (Fault f)) passed failed = passed
Flushed (Err NoHeap) passed failed = passed
Flushed (Err StepsUsed) passed failed = passed
Flushed (Err (Io io_fault.Read)) passed failed = passed ⊎ failed
Flushed (Err _) passed failed = Unit {0}

-- the device that an answer blames, if it does
abbrev pub device_of : Result ℕ Trouble → Option IoFault
device_of (Err (Io fault)) = Some fault
device_of _ = None

-- the status, and what is written on standard error: nothing, or trouble in one line, which is passed on, and of which a failing device may take some first
-- bytes alone
abbrev pub Reported : {E : Type 0} → (contents : E → Option (List ℕ)) → (passed_on teller_failed : Type 0) → Result ℕ Trouble → (status : ℕ) → (e0 e1 : Counted E) → Type 0
Reported contents passed failed (Ok s) status e0 e1 = (status ≡ s) × (e1 ≡ e0)
Reported contents passed failed (Err t) status e0 e1 =
    (status ≡ (outcome.report t).0) × ((answer : Result (Unit {0}) IoFault) × Prints contents failed answer (line_of t) e0 e1 × OnOk answer passed)
