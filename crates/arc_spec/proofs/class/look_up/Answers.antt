use Rattle.std.proofs.Common.{◌≡◌, ℕ, ◌∙◌, ◌-◌, None, Some, refl, sym, ap, length, slice_get}
use Rattle.std.proofs.lemmas.Option.{slice_get_past, slice_get_read}
use Rattle.std.proofs.lemmas.Bool.{ltb-false, ltb-true}
use Rattle.arc_spec.specs.Classes.{classes_of, superclasses, ancestry_within, first_that_has, found, own_methods}
use Rattle.arc_spec.proofs.Ancestry.{no_class, in_class, class_there, superclass_there, all_classes, own_first, above_next}
use Rattle.arc_spec.proofs.class.look_up.Goals as goal

pub loop-passed-init : goal.loop-passed-init
loop-passed-init c =
    ap (first_that_has (λ class. found c.args.sign c.args.selector c.args.takes c.args.objects c.args.gives (own_methods (slice_get (classes_of c.args.classes.now) class)))) (all_classes c.args.classes.now c.args.from)

pub returns-in_default : goal.returns-in_default
returns-in_default c =
    let all = c.args.classes.now in
    let has = λ (class : ℕ). found c.args.sign c.args.selector c.args.takes c.args.objects c.args.gives (own_methods (slice_get (classes_of all) class)) in
    let left = length all - c.loop-passed._passed in
    sym (c.loop-passed.invariant ∙ ap (λ n. first_that_has has (ancestry_within left (superclasses (classes_of all)) n)) c.in_default.is)

pub returns-in_default-get : goal.returns-in_default-get
returns-in_default-get c =
    let all = c.args.classes.now in
    let number = c.in-Some.number in
    let has = λ (class : ℕ). found c.args.sign c.args.selector c.args.takes c.args.objects c.args.gives (own_methods (slice_get (classes_of all) class)) in
    let left = length all - c.loop-passed._passed in
    let none : slice_get (superclasses (classes_of all)) number ≡ None = superclass_there all number None (slice_get_past all number (ltb-false _ _ (sym (c.in_default-get.ensures.lookup.0)))) in
    sym (c.loop-passed.invariant ∙ ap (λ n. first_that_has has (ancestry_within left (superclasses (classes_of all)) n)) c.in-Some.is
    ∙ ap (first_that_has has) (no_class (superclasses (classes_of all)) (length all) c.loop-passed._passed number c.loop-passed-test.true none))

pub returns-then-is_some : goal.returns-then-is_some
returns-then-is_some c =
    let all = c.args.classes.now in
    let number = c.in-Some.number in
    let class = c.in-Some-get.class.now in
    let has = λ (class : ℕ). found c.args.sign c.args.selector c.args.takes c.args.objects c.args.gives (own_methods (slice_get (classes_of all) class)) in
    let left = length all - c.loop-passed._passed in
    let there : slice_get all number ≡ Some class = slice_get_read all (length all) number class refl (ltb-true _ _ (sym c.in-Some-get.ensures.lookup.0)) (c.in-Some-get.ensures.lookup.1) in
    own_first c.find-own.result _ _ (sym c.is_some.ensures ∙ c.if-is_some.true) (has number)
    (c.find-own.ensures ∙ ap (found c.args.sign c.args.selector c.args.takes c.args.objects c.args.gives) (c.deref.ensures.value ∙ sym (ap own_methods (class_there all number (Some class) there))))
    (c.loop-passed.invariant ∙ ap (λ n. first_that_has has (ancestry_within left (superclasses (classes_of all)) n)) c.in-Some.is
    ∙ ap (first_that_has has) (in_class (superclasses (classes_of all)) (length all) c.loop-passed._passed number class.superclass c.loop-passed-test.true (superclass_there all number (Some class) there)))

pub loop-passed-preserved : goal.loop-passed-preserved
loop-passed-preserved c =
    let all = c.args.classes.now in
    let number = c.in-Some.number in
    let class = c.in-Some-get.class.now in
    let has = λ (class : ℕ). found c.args.sign c.args.selector c.args.takes c.args.objects c.args.gives (own_methods (slice_get (classes_of all) class)) in
    let left = length all - c.loop-passed._passed in
    let there : slice_get all number ≡ Some class = slice_get_read all (length all) number class refl (ltb-true _ _ (sym c.in-Some-get.ensures.lookup.0)) (c.in-Some-get.ensures.lookup.1) in
    above_next c.find-own.result _ _ (sym c.is_some.ensures ∙ c.if-is_some.false) (has number)
    (c.find-own.ensures ∙ ap (found c.args.sign c.args.selector c.args.takes c.args.objects c.args.gives) (c.deref.ensures.value ∙ sym (ap own_methods (class_there all number (Some class) there))))
    (c.loop-passed.invariant ∙ ap (λ n. first_that_has has (ancestry_within left (superclasses (classes_of all)) n)) c.in-Some.is
    ∙ ap (first_that_has has) (in_class (superclasses (classes_of all)) (length all) c.loop-passed._passed number class.superclass c.loop-passed-test.true (superclass_there all number (Some class) there)))
