-- From what is known of the functions of a source to an answer, which reports the first violation.
use Rattle.std.proofs.Common.{◌≡◌, true, List, [], ◌++◌, ◌⊎◌, inl, inr, Option, Some, None, is_some, option_map, append_assoc, refl, sym, ap, subst, ◌∙◌, true≢false}
use Rattle.arc_ast.specs.Tree.{UnitTree, unit_tree}
use Rattle.arc_ast.specs.declared.tree.TranslationUnit.{TranslationUnit}
use Rattle.arc_sites.specs.FoundViolations.{violations_of}
use Rattle.arc_sites.specs.Sites.{unit_sites}
use Rattle.arc_fault.specs.declared.class.ClassFault.{ClassFault}
use Rattle.arc_fault.specs.declared.class.ClassFault.TheVariants as f
use Rattle.arc_class.specs.declared.kept.Source.{Source}
use Rattle.arc_class.specs.declared.look.Seen.{Seen}
use Rattle.arc_class.specs.BrokenRules.{Broken, first, earlier_of}
use Rattle.arc_class.specs.FunctionNames.{number_of, is_main}
use Rattle.arc_class.specs.ClassRules.{broken}
use Rattle.arc_class.specs.BrokenRules.{in_order}
use Rattle.arc_class.specs.Fault.{reported, Refuses}
use Rattle.arc_class.specs.FunctionRules.{duplicate, missing_main}
use Rattle.arc_class.specs.KeptNames.{Knows}
use Rattle.arc_class.specs.private.FunctionSummary.{Sums}
use Rattle.arc_class.specs.private.RuleGroups.{before_classes, in_classes}
use Rattle.arc_class.specs.SiteRules.{violations}
use Rattle.arc_class.proofs.FirstBrokenRule.{first_both, none_broken}

pub refuses : (all : List Broken) (fault : ClassFault) → first all ≡ Some (reported fault) → Refuses all fault
refuses all (f.Duplicate at) h = h
refuses all (f.UnknownClass at) h = h
refuses all (f.SelectorKinds at) h = h
refuses all (f.NoImplementation at) h = h
refuses all (f.TooManyFields at) h = h
refuses all (f.HookMethod at) h = h
refuses all f.NoMain h = h
refuses all (f.UndefinedFunction at) h = h
refuses all f.Memory h = tt

-- all that is broken at sites
abbrev pub at_sites : UnitTree → List Broken
at_sites u = violations_of (violations u) (unit_sites u)

-- the first that functions and sites break, from what is seen of them
pub functions_seen : (u : UnitTree) (seen : Seen) (own gone sites functions : Option Broken) → Sums u.functions seen → gone ≡ first (missing_main seen.main) → own ≡ earlier_of (option_map reported seen.fault) gone
    → sites ≡ first (at_sites u) → functions ≡ earlier_of own sites → functions ≡ first (before_classes u)
functions_seen u seen own gone sites functions h m o s f =
    let A = in_order duplicate [] u.functions in
    let B = missing_main (number_of is_main u.functions) in
    let both : own ≡ first (A ++ B) = first_both A B (option_map reported seen.fault) gone own h.fault (m ∙ ap (λ o. first (missing_main o)) h.main) o in
    first_both (A ++ B) (at_sites u) own sites functions both s f ∙ ap first (append_assoc A B (at_sites u))

-- the first of all broken rules, from those before the classes' and those of classes
pub whole_known : (u : UnitTree) (functions classes all : Option Broken) → functions ≡ first (before_classes u) → classes ≡ first (in_classes u) → all ≡ earlier_of functions classes → all ≡ first (broken u)
whole_known u functions classes all f k a = first_both (before_classes u) (in_classes u) functions classes all f k a

-- a source knows its own names
pub own_known : (t : TranslationUnit) (source : Source) → source.unit.now ≡ t → Knows (unit_tree t) source → Knows (unit_tree source.unit.now) source
own_known t source e = subst (λ s. Knows (unit_tree s) source) (sym e)

pub nothing : (all : List Broken) → None ≡ first all → all ≡ []
nothing all e = none_broken all (sym e)

-- what is reported of two is something, where one of them is
either_reported : (a b : Option Broken) → (is_some a ≡ true) ⊎ (is_some b ≡ true) → is_some (earlier_of a b) ≡ true
either_reported None None (inl h) = h
either_reported None None (inr h) = h
either_reported None (Some b) h = refl
either_reported (Some a) None h = refl
either_reported (Some a) (Some b) h = refl

-- the first of two is found
first_of : (A B : List Broken) → first (A ++ B) ≡ earlier_of (first A) (first B)
first_of A B = sym (first_both A B (first A) (first B) (earlier_of (first A) (first B)) refl refl refl)

-- where there is no `main`, a fault is found
pub main_reported : (u : UnitTree) (functions classes all : Option Broken) → number_of is_main u.functions ≡ None → functions ≡ first (before_classes u)
    → all ≡ earlier_of functions classes → all ≡ None → ⊥
main_reported u functions classes all none f a nothing =
    let A = in_order duplicate [] u.functions in
    let B = missing_main (number_of is_main u.functions) in
    let is_gone : is_some (first B) ≡ true = ap (λ m. is_some (first (missing_main m))) none in
    let is_rest : is_some (first (B ++ at_sites u)) ≡ true = ap is_some (first_of B (at_sites u)) ∙ either_reported (first B) (first (at_sites u)) (inl is_gone) in
    let is_functions : is_some functions ≡ true = ap is_some (f ∙ first_of A (B ++ at_sites u)) ∙ either_reported (first A) (first (B ++ at_sites u)) (inr is_rest) in
    let is_all : is_some all ≡ true = ap is_some a ∙ either_reported functions classes (inl is_functions) in
    true≢false (sym is_all ∙ ap is_some nothing)
