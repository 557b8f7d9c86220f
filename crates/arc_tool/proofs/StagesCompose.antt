-- The stages compose: a source that passes all of them becomes code that does what it means.
use Rattle.std.proofs.Common.{◌≡◌, ℕ, suc, ◌+◌, ◌<◌, ◌≤◌, List, [], ◌∷◌, length, refl, sym, ap, subst, ◌∙◌}
use Rattle.std.proofs.lemmas.List.{length-map}
use Rattle.arc_lex.specs.declared.token.Token.{Token}
use Rattle.arc_lex.specs.Tokens.{toks}
use Rattle.arc_lex.specs.Source.{Tokens}
use Rattle.arc_ast.specs.declared.tree.TranslationUnit.{TranslationUnit}
use Rattle.arc_ast.specs.Tree.{unit_tree}
use Rattle.arc_class.specs.ClassRules.{broken}
use Rattle.arc_checked.specs.declared.program.Checked.{Checked}
use Rattle.arc_checked.specs.Checked.{program_of}
use Rattle.arc_judge.specs.Rules.{broken_unit}
use Rattle.arc_resolve.specs.SourceResolution.{resolved_unit}
use Rattle.arc_family.specs.Rules as ownership
use Rattle.arc_spec.specs.Resolved as resolved
use Rattle.arc_spec.specs.Correctness.{Refines, Steady}
use Rattle.arc_spec.proofs.Composition.{composed}
use Rattle.arc_ir.specs.ActionSteps as acting
use Rattle.arc_lower.specs.PlainActions as plain
use Rattle.arc_lower.specs.PlainActions.{plain_actions}
use Rattle.arc_lower.specs.Lowered.{lowered}
use Rattle.arc_lower.specs.Size.{program_size}
use Rattle.arc_lower.specs.LoweringContract.{Performs, IsLowered}
use Rattle.arc_lower.proofs.ActionCount.{actions_counted}
use Rattle.arc_emit.specs.declared.fault.EmitFault.{EmitFault}
use Rattle.arc_emit.specs.declared.fault.EmitFault.TheVariants as f
use Rattle.arc_emit.specs.Faults as emitting
use Rattle.arc_emit.specs.EmittedCode.{IsLarge, code_of, instrs_of, text_of}
use Rattle.arc_code.specs.CodeSteps.{Program, seen, IsSound}
use Rattle.arc_tool.specs.declared.refusal.Refusal.{Refusal}
use Rattle.arc_source.specs.Accepted.{Spelled, Accepted, program_meant, meant}
use Rattle.arc_tool.specs.CompiledCode.{Compiles, CompilesNamed, class_names}
use Rattle.arc_tool.specs.RefusalStages.{IsTooLarge, IsSmall, IsCompilable, IsRefusal, too_large, no_memory}
use Rattle.arc_tool.specs.Reports.{Reports}
use Rattle.arc_tool.specs.private.CheckedProgram.{IsChecked}
use Rattle.arc_emit.specs.declared.emit.TheConstants.{MOST_INSTRS}

-- the tokens of the source, as they were passed on
pub passed : (source : List ℕ) (items these_tokens : List Token) → these_tokens ≡ items → Tokens source (toks items) → Tokens source (toks these_tokens)
passed source items these_tokens same h = subst (λ ts. Tokens source (toks ts)) (sym same) h

-- ---- how large a program is

too_many : (P : resolved.Program) (actions : acting.Program) → plain_actions actions.actions ≡ lowered P → IsLarge actions → IsTooLarge P
too_many P actions is large = subst (λ n. MOST_INSTRS < n) (sym (length-map actions.actions plain.plain_action) ∙ ap length is ∙ actions_counted P) large

-- there are as many instructions as actions
instrs_counted : (p : acting.Program) (at from : ℕ) (actions : List acting.Action) → length (instrs_of p at from actions) ≡ length actions
instrs_counted p at from [] = refl
instrs_counted p at from (a ∷ rest) = ap suc (instrs_counted p (at + 1) (from + length (text_of a)) rest)

pub as_many : (P : resolved.Program) (actions : acting.Program) (code : Program) → plain_actions actions.actions ≡ lowered P → code ≡ code_of actions → length code.instrs ≡ program_size P
as_many P actions code is emits = ap (λ (c : Program). length c.instrs) emits ∙ instrs_counted actions 0 0 actions.actions
    ∙ sym (length-map actions.actions plain.plain_action) ∙ ap length is ∙ actions_counted P

-- a program that becomes so many actions, where there is no room for them
pub too_long : (source : List ℕ) (program : Accepted source) (count : ℕ) → count ≡ length (lowered (program_meant program)) → (e : EmitFault) (r : Refusal)
    → (e ≡ f.TooLarge) × (MOST_INSTRS < count) → Reports (record { number = emitting.fault_number e; name = emitting.fault_name e; at = 0 }) r → IsRefusal source r
too_long source program count is f.TooLarge r large reports = too_large program (subst (λ n. MOST_INSTRS < n) (is ∙ actions_counted (program_meant program)) large.1) reports
too_long source program count is f.Memory r large reports = no_memory program reports

-- a program that becomes so many actions, for which there is room
pub small_enough : (source : List ℕ) (program : Accepted source) (count : ℕ) → count ≡ length (lowered (program_meant program)) → count ≤ MOST_INSTRS → IsCompilable source
small_enough source program count is few = (program, subst (λ n. n ≤ MOST_INSTRS) (is ∙ actions_counted (program_meant program)) few)

-- ---- the stages

-- a program that `check` gave
pub checked : (source : List ℕ) (unit : TranslationUnit) (program : Checked) → Spelled source (unit_tree unit) → broken (unit_tree unit) ≡ []
    → broken_unit (unit_tree unit) ≡ [] → program_of program ≡ resolved_unit (unit_tree unit) → program.unit.now ≡ unit → IsChecked source program
checked source unit program spelled declared unbroken means same = record {
  spelled = subst (λ u. Spelled source (unit_tree u)) (sym same) spelled;
  declared = subst (λ u. broken (unit_tree u) ≡ []) (sym same) declared;
  checked = subst (λ u. broken_unit (unit_tree u) ≡ []) (sym same) unbroken;
  resolved = subst (λ u. program_of program ≡ resolved_unit (unit_tree u)) (sym same) means;
}

module _ (source : List ℕ) (program : Checked) (of : IsChecked source program) (ruled : ownership.broken (unit_tree program.unit.now) ≡ []) where
  abbrev pub accepted : Accepted source
  accepted = record { tree = unit_tree program.unit.now; spelled = of.spelled; declared = of.declared; checked = of.checked; owned = ruled }

  module _ (owned : Checked) (actions : acting.Program) (same : owned ≡ program)
      (performs : Performs (program_of owned) actions) (exact : IsLowered (program_of owned) actions) where
    pub performed : Performs (program_meant accepted) actions
    performed = subst (λ P. Performs P actions) (ap program_of same ∙ of.resolved) performs

    pub lowers : IsLowered (program_meant accepted) actions
    lowers = subst (λ P. IsLowered P actions) (ap program_of same ∙ of.resolved) exact

    abbrev pub compiled : (code : Program) → code ≡ code_of actions → length code.instrs ≤ MOST_INSTRS → IsSound code → Refines (acting.seen actions) (seen code) → Steady (seen code) → Compiles source code
    compiled code emits few sound refines steady = record {
      program = accepted;
      small = subst (λ n. n ≤ MOST_INSTRS) (as_many (program_meant accepted) actions code lowers.actions emits) few;
      counted = as_many (program_meant accepted) actions code lowers.actions emits;
      behaves = composed (meant accepted) (acting.seen actions) (seen code) performed.behaves performed.steady refines;
      steady = steady;
      sound = sound;
    }

    pub compiled_named : (code : Program) → code ≡ code_of actions → length code.instrs ≤ MOST_INSTRS → IsSound code → Refines (acting.seen actions) (seen code) → Steady (seen code)
        → CompilesNamed source code (class_names (unit_tree program.unit.now))
    compiled_named code emits few sound refines steady = record { compiled = compiled code emits few sound refines steady; named = refl }

    pub not_emitted : (e : EmitFault) (r : Refusal) → (e ≡ f.TooLarge → IsLarge actions) → Reports (record { number = emitting.fault_number e; name = emitting.fault_name e; at = 0 }) r → IsRefusal source r
    not_emitted f.TooLarge r large reports = too_large accepted (too_many (program_meant accepted) actions lowers.actions (large refl)) reports
    not_emitted f.Memory r large reports = no_memory accepted reports
