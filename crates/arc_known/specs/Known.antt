-- What a source shows when it runs, and why one is refused, from its bytes on.
use Rattle.std.specs.Prelude.{◌≡◌, ℕ, List, Option, Some}
use Rattle.arc_lex.specs.Tokens.{Tok}
use Rattle.arc_lex.specs.Source.{Tokens}
use Rattle.arc_lex.specs.Faults as lexing
use Rattle.arc_lex.specs.Faults.{fault_of, IsFirst}
use Rattle.arc_lex.specs.declared.piece.Rule.{Rule}
use Rattle.arc_ast.specs.Tree.{UnitTree}
use Rattle.arc_fault.specs.declared.parse.ParseFault.TheVariants.{Unexpected, TooDeep}
use Rattle.arc_fault.specs.Parse.{report}
use Rattle.arc_parse.specs.Refusal.{FitsNoneAt, TooDeepAt}
use Rattle.arc_sites.specs.declared.violation.Violation.{Violation}
use Rattle.arc_class.specs.BrokenRules.{first}
use Rattle.std.specs.Option.{option_or}
use Rattle.arc_class.specs.ClassRules.{broken}
use Rattle.arc_judge.specs.Rules.{broken_unit}
use Rattle.arc_family.specs.Rules as ownership
use Rattle.arc_spec.specs.declared.event.Event.{Event}
use Rattle.arc_spec.specs.Correctness.{Stop}
use Rattle.arc_source.specs.Accepted.{Spelled, Accepted, meant}

-- The source is a program, and with so many turns of each loop its meaning on this input shows these events, and then stops so.
pub record HasTrace (source input : List ℕ) (turns : ℕ) (events : List Event) (stop : Stop) : Type 0 where
  pub program : Accepted source
  pub shows : meant program input turns ≡ record { trace = events; stop = Some stop }

-- the violation that is reported: the first of those of the first stage that has some
abbrev pub reported : UnitTree → Option Violation
reported tree = option_or (first (broken tree)) (option_or (first (broken_unit tree)) (first (ownership.broken tree)))

-- The source is refused by the rule of this number, at this position: at the first byte where it breaks a rule for tokens; at the first token that doesn't fit, or
-- that passes a limit; or because the tree that it spells breaks a rule, of which this one is reported.
-- That no limit is passed before a token that doesn't fit isn't said here (`ReportsLimit` of arc_parse says it).
pub data IsRefused (source : List ℕ) (number at : ℕ) : Type 0 where
  in_tokens : (rule : Rule) → IsFirst source at rule → (lexing.report (fault_of rule at)).0 ≡ number → IsRefused source number at
  in_tree : (tokens : List Tok) → Tokens source tokens → FitsNoneAt tokens at → (report (Unexpected at)).number ≡ number → IsRefused source number at
  in_depth : (tokens : List Tok) → Tokens source tokens → TooDeepAt tokens at → (report (TooDeep at)).number ≡ number → IsRefused source number at
  in_rules : (tree : UnitTree) → Spelled source tree → reported tree ≡ Some (record { at = at; number = number }) → IsRefused source number at
