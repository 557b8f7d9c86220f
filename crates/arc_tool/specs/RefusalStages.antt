-- When a source is refused, and by which stage: the first one that finds something to refuse.
use Rattle.std.specs.Prelude.{◌≡◌, ℕ, ◌<◌, ◌≤◌, List, [], codes}
use Rattle.arc_lex.specs.Tokens.{Tok}
use Rattle.arc_lex.specs.Source.{Tokens}
use Rattle.arc_lex.specs.declared.fault.LexFault.{LexFault}
use Rattle.arc_lex.specs.Faults as lexing
use Rattle.arc_ast.specs.Tree.{UnitTree}
use Rattle.arc_fault.specs.declared.parse.ParseFault.{ParseFault}
use Rattle.arc_fault.specs.Parse as parse_fault
use Rattle.arc_parse.specs.Refusal as parsing
use Rattle.arc_fault.specs.declared.class.ClassFault.{ClassFault}
use Rattle.arc_fault.specs.Class as class_fault
use Rattle.arc_class.specs.ClassRules.{broken}
use Rattle.arc_class.specs.Fault as building
use Rattle.arc_fault.specs.declared.check.CheckFault.{CheckFault}
use Rattle.arc_fault.specs.Check as check_fault
use Rattle.arc_judge.specs.Rules.{broken_unit}
use Rattle.arc_judge.specs.Fault as checking
use Rattle.arc_fault.specs.declared.own.OwnFault.{OwnFault}
use Rattle.arc_fault.specs.Own as own_fault
use Rattle.arc_family.specs.Fault as owning
use Rattle.arc_family.specs.Rules as ownership
use Rattle.arc_spec.specs.Resolved as resolved
use Rattle.arc_lower.specs.Size.{program_size}
use Rattle.arc_emit.specs.declared.emit.TheConstants.{MOST_INSTRS}
use Rattle.arc_tool.specs.declared.refusal.Refusal.{Refusal}
use Rattle.arc_source.specs.Accepted.{Spelled, Accepted, program_meant}
use Rattle.arc_tool.specs.Reports.{Reports}

-- the program becomes more actions than code may have instructions
abbrev pub IsTooLarge : resolved.Program → Type 0
IsTooLarge P = MOST_INSTRS < program_size P

-- the program becomes no more actions than that
abbrev pub IsSmall : resolved.Program → Type 0
IsSmall P = program_size P ≤ MOST_INSTRS

-- the source is a program that isn't too large
abbrev pub IsCompilable : List ℕ → Type 0
IsCompilable source = (program : Accepted source) × IsSmall (program_meant program)

-- The refusal reports the fault of a stage, all stages before which have nothing to refuse. Where tokens pass a limit, that is reported (`ReportsLimit`). A stage to which memory is refused has a fault of its own for that,
-- which says no more of the source.
pub data IsRefusal (source : List ℕ) (r : Refusal) : Type 0 where
  in_lexing : (f : LexFault) → lexing.IsLexFault source f → Reports (record { number = (lexing.report f).0; name = (lexing.report f).1; at = (lexing.report f).2 }) r → IsRefusal source r
  in_parsing : (f : ParseFault) (tokens : List Tok) → Tokens source tokens → parsing.IsRefused tokens f → parsing.ReportsLimit tokens f → Reports (parse_fault.report f) r → IsRefusal source r
  in_building : (f : ClassFault) (tree : UnitTree) → Spelled source tree → building.Refuses (broken tree) f → Reports (class_fault.report f) r → IsRefusal source r
  in_checking : (f : CheckFault) (tree : UnitTree) → Spelled source tree → broken tree ≡ [] → checking.Refuses (broken_unit tree) f → Reports (check_fault.report f) r → IsRefusal source r
  in_owning : (f : OwnFault) (tree : UnitTree) → Spelled source tree → broken tree ≡ [] → broken_unit tree ≡ [] → owning.Refuses (ownership.broken tree) f → Reports (own_fault.report f) r → IsRefusal source r
  too_large : (program : Accepted source) → IsTooLarge (program_meant program) → Reports (record { number = 71; name = codes "TooLarge"; at = 0 }) r → IsRefusal source r
  no_memory : (program : Accepted source) → Reports (record { number = 72; name = codes "Memory"; at = 0 }) r → IsRefusal source r
