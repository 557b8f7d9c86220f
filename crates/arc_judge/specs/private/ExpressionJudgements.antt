-- The judgements on expressions: kinds, first broken rules, and how many objects are taken.
use Rattle.std.specs.Prelude.{◌≡◌, ℕ, zero, suc, List, [], ◌∷◌, ◌++◌, flat_map, Option, Some, None, true, false, is_none, option_map, nat_eq, if◌then◌else◌}
use Rattle.std.specs.Option.{option_map_or}
use Rattle.arc_ast.specs.declared.tree.Kind.{Kind}
use Rattle.arc_ast.specs.Tree.{ExprTree, ExprTrees, InterfaceTree, ImplementationTree}
use Rattle.arc_class.specs.BrokenRules.{Broken, broken_if, first}
use Rattle.arc_class.specs.declared.table.FoundField.{FoundField}
use Rattle.arc_class.specs.Table.{number_of_class}
use Rattle.arc_scope.specs.declared.callee.Callee.{Callee}
use Rattle.arc_scope.specs.declared.callee.Callee.TheVariants.{Printf, GetChar, Defined, Unknown}
use Rattle.arc_scope.specs.declared.format.Part.{Part}
use Rattle.arc_judge.specs.declared.judge.Judged.{Judged}
use Rattle.arc_judge.specs.declared.judge.Arguments.{Arguments}
use Rattle.arc_judge.specs.declared.taken.Taken.{Taken}
use Rattle.arc_judge.specs.Fault.{reported}
use Rattle.arc_scope.specs.Formats.{fits}
use Rattle.arc_scope.specs.ParameterKinds.{wanted_by}
use Rattle.arc_judge.specs.Rules.{place_if, call_rule, kind_if, kind_of, kinds, is_assignable, broken, broken_head, broken_method, no_field, broken_whole, broken_arguments, taken, unread, all_taken, unless_so}
use Rattle.arc_scope.specs.Kinds.{is_object}
use Rattle.arc_scope.specs.Scopes.{Known, Scope, result_kind, is_printf, class_of}
use Rattle.arc_judge.specs.declared.taken.TheConstants.{MOST_TAKEN}

-- ---- counts of objects that are taken

-- one place more is counted: as one of those that are left, or else as the first past them
abbrev pub counted_by : (left : ℕ) → (past : Option ℕ) → ℕ → Taken
counted_by (suc n) past at = record { left = n; past = past }
counted_by zero None at = record { left = zero; past = Some at }
counted_by zero (Some p) at = record { left = zero; past = Some p }

abbrev pub one_counted : Taken → ℕ → Taken
one_counted t at = counted_by t.left t.past at

-- places are counted, in their order
abbrev pub counted : Taken → List ℕ → Taken
counted t [] = t
counted t (at ∷ others) = counted (one_counted t at) others

abbrev pub none_counted : Taken
none_counted = record { left = MOST_TAKEN; past = None }

-- ---- expressions

-- the violation of the rule with a number, if there is one, at a place
abbrev pub broken_at : ℕ → Option ℕ → List Broken
broken_at at rule = option_map_or (broken_if true at) rule []

-- the field of an expression of a kind, which has to be an object
abbrev pub broken_field : Scope → Option Kind → Option FoundField → ℕ → List Broken
broken_field s kind f at = if is_object kind then no_field s f at else []

-- the number of the rule that a call with so many arguments breaks, but for printf, for which this is never asked
abbrev pub other_rule : Callee → (arguments : ℕ) → Option ℕ
other_rule Printf arguments = unless_so (nat_eq arguments 0) 45
other_rule GetChar arguments = unless_so (nat_eq arguments 0) 45
other_rule (Defined result wanted body) arguments = unless_so (nat_eq arguments wanted) 45
other_rule Unknown arguments = Some 41

-- an expression's kind, where it has one, its static class, the first rule that is broken in it, how many objects are taken after it, and how many where it is assigned
-- to
pub record Judges (s : Scope) (before : Taken) (a : ExprTree) (judged : Judged) : Type 0 where
  pub kind : judged.kind ≡ kind_of s a
  pub class : option_map number_of_class judged.class ≡ class_of s a
  pub fault : option_map reported judged.fault ≡ first (broken s a)
  pub taken : judged.taken ≡ counted before (taken s a)
  pub unread : is_assignable a ≡ true → judged.unread ≡ counted before (unread s a)

-- the kind of a full-expression, and the first rule that is broken in it
pub record JudgesWhole (s : Scope) (a : ExprTree) (judged : Judged) : Type 0 where
  pub kind : judged.kind ≡ kind_of s a
  pub fault : option_map reported judged.fault ≡ first (broken_whole s a)

-- whether arguments suit these conversions, the first rule that is broken in them, where none may be a text, and how many objects are taken after them
pub record JudgesAll (s : Scope) (before : Taken) (passed : Option (List Kind)) (wanted : List Part) (all : ExprTrees) (judged : Arguments) : Type 0 where
  pub fit : judged.fit ≡ fits wanted (kinds s all)
  pub fault : option_map reported judged.fault ≡ first (broken_arguments s passed false all)
  pub taken : judged.taken ≡ counted before (all_taken s all)

-- the same of a call
pub record JudgesCall (s : Scope) (before : Taken) (at : ℕ) (callee : Callee) (given : Option ℕ) (parameters : List Kind) (arguments : ExprTrees) (judged : Judged) : Type 0 where
  pub kind : judged.kind ≡ kind_if (is_none (call_rule callee arguments (kinds s arguments))) (result_kind callee)
  pub class : option_map number_of_class judged.class ≡ given
  pub fault : option_map reported judged.fault
      ≡ first (broken_at at (call_rule callee arguments (kinds s arguments)) ++ broken_arguments s (wanted_by callee parameters) (is_printf callee) arguments)
  pub taken : judged.taken
      ≡ counted before (place_if (is_object (kind_if (is_none (call_rule callee arguments (kinds s arguments))) (result_kind callee))) at ++ all_taken s arguments)

-- ---- classes

abbrev pub broken_interface : InterfaceTree → List Broken
broken_interface i = flat_map broken_head i.methods

abbrev pub broken_implementation : Known → ImplementationTree → List Broken
broken_implementation known i = flat_map (broken_method known (known.class i.name)) i.methods
