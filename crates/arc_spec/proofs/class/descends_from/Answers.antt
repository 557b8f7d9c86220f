use Rattle.std.proofs.Common.{◌≡◌, ℕ, ◌∙◌, ◌-◌, ◌||◌, ◌+◌, None, Some, refl, sym, ap, length, nat_eq, slice_get}
use Rattle.std.specs.List.{list_any}
use Rattle.std.proofs.lemmas.Option.{slice_get_past, slice_get_read}
use Rattle.std.proofs.lemmas.Bool.{ltb-false, ltb-true, ne_eqb}
use Rattle.std.proofs.lemmas.Bool.Decides.{Decides-eqb}
use Rattle.arc_spec.specs.Classes.{classes_of, superclasses, ancestry_within}
use Rattle.arc_spec.proofs.Ancestry.{no_class, in_class, superclass_there, all_classes}
use Rattle.arc_spec.proofs.class.descends_from.Goals as goal

pub loop-passed-init : goal.loop-passed-init
loop-passed-init c = ap (list_any (λ class. nat_eq class c.args.other)) (all_classes c.args.classes.now c.args.from)

pub returns-in_default-get : goal.returns-in_default-get
returns-in_default-get c =
    let all = c.args.classes.now in
    let number = c.in-Some.number in
    let chain = superclasses (classes_of all) in
    let is = λ (class : ℕ). nat_eq class c.args.other in
    let none : slice_get chain number ≡ None = superclass_there all number None (slice_get_past all number (ltb-false _ _ (sym (c.in_default-get.ensures.lookup.0)))) in
    sym (c.loop-passed.invariant ∙ ap (λ n. list_any is (ancestry_within (length all - c.loop-passed._passed) chain n)) c.in-Some.is
    ∙ ap (list_any is) (no_class chain (length all) c.loop-passed._passed number c.loop-passed-test.true none))

pub returns-then-number-other : goal.returns-then-number-other
returns-then-number-other c =
    let all = c.args.classes.now in
    let number = c.in-Some.number in
    let class = c.in-Some-get.class.now in
    let passed = c.loop-passed._passed in
    let chain = superclasses (classes_of all) in
    let is = λ (class : ℕ). nat_eq class c.args.other in
    let there : slice_get all number ≡ Some class = slice_get_read all (length all) number class refl (ltb-true _ _ (sym c.in-Some-get.ensures.lookup.0)) (c.in-Some-get.ensures.lookup.1) in
    sym (c.loop-passed.invariant ∙ ap (λ n. list_any is (ancestry_within (length all - passed) chain n)) c.in-Some.is
    ∙ ap (list_any is) (in_class chain (length all) passed number class.superclass c.loop-passed-test.true (superclass_there all number (Some class) there))
    ∙ ap (λ b. b || list_any is (ancestry_within (length all - (passed + 1)) chain class.superclass)) ((Decides-eqb number c.args.other).1 c.if-number-other.true))

pub loop-passed-preserved : goal.loop-passed-preserved
loop-passed-preserved c =
    let all = c.args.classes.now in
    let number = c.in-Some.number in
    let class = c.in-Some-get.class.now in
    let passed = c.loop-passed._passed in
    let chain = superclasses (classes_of all) in
    let is = λ (class : ℕ). nat_eq class c.args.other in
    let there : slice_get all number ≡ Some class = slice_get_read all (length all) number class refl (ltb-true _ _ (sym c.in-Some-get.ensures.lookup.0)) (c.in-Some-get.ensures.lookup.1) in
    c.loop-passed.invariant ∙ ap (λ n. list_any is (ancestry_within (length all - passed) chain n)) c.in-Some.is
    ∙ ap (list_any is) (in_class chain (length all) passed number class.superclass c.loop-passed-test.true (superclass_there all number (Some class) there))
    ∙ ap (λ b. b || list_any is (ancestry_within (length all - (passed + 1)) chain class.superclass)) (ne_eqb number c.args.other c.if-number-other.false)
