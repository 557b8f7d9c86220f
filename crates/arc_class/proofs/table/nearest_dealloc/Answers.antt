use Rattle.std.proofs.Common.{◌≡◌, ℕ, ◌∙◌, ◌-◌, ◌+◌, refl, sym, ap, length, slice_get, None, Some}
use Rattle.std.proofs.lemmas.Option.{slice_get_past, slice_get_read}
use Rattle.std.proofs.lemmas.Bool.{ltb-false, ltb-true}
use Rattle.arc_spec.specs.Classes.{classes_of, superclasses, ancestry_within, first_that_has, own_dealloc}
use Rattle.arc_spec.proofs.Ancestry.{all_classes, no_class, in_class, class_there, superclass_there}
use Rattle.arc_class.proofs.FirstDeclaration.{own_first, above_next}
use Rattle.arc_class.proofs.table.nearest_dealloc.Goals as goal
use Rattle.std.specs.Option.{option_or}

pub loop-passed-init : goal.loop-passed-init
loop-passed-init c = ap (first_that_has (λ class. own_dealloc (slice_get (classes_of c.args.classes.now) class))) (all_classes c.args.classes.now c.args.class)

pub returns-in-Some-dealloc : goal.returns-in-Some-dealloc
returns-in-Some-dealloc c =
    let all = c.args.classes.now in
    let known = c.in-Some-get.known.now in
    let number = c.in-Some.number in
    let passed = c.loop-passed._passed in
    let above = superclasses (classes_of all) in
    let own = λ (class : ℕ). own_dealloc (slice_get (classes_of all) class) in
    let further = first_that_has own (ancestry_within (length all - (passed + 1)) above known.superclass) in
    let there : slice_get all number ≡ Some known =
    slice_get_read all (length all) number known refl (ltb-true _ _ (sym c.in-Some-get.ensures.lookup.0)) c.in-Some-get.ensures.lookup.1 in
    own_first known.dealloc c.in-Some-dealloc.function _ _ c.in-Some-dealloc.is
    (c.loop-passed.invariant ∙ ap (λ n. first_that_has own (ancestry_within (length all - passed) above n)) c.in-Some.is
    ∙ ap (first_that_has own) (in_class above (length all) passed number known.superclass c.loop-passed-test.true (superclass_there all number (Some known) there))
    ∙ ap (λ o. option_or (own_dealloc o) further) (class_there all number (Some known) there))

pub loop-passed-preserved : goal.loop-passed-preserved
loop-passed-preserved c =
    let all = c.args.classes.now in
    let known = c.in-Some-get.known.now in
    let number = c.in-Some.number in
    let passed = c.loop-passed._passed in
    let above = superclasses (classes_of all) in
    let own = λ (class : ℕ). own_dealloc (slice_get (classes_of all) class) in
    let further = first_that_has own (ancestry_within (length all - (passed + 1)) above known.superclass) in
    let there : slice_get all number ≡ Some known =
    slice_get_read all (length all) number known refl (ltb-true _ _ (sym c.in-Some-get.ensures.lookup.0)) c.in-Some-get.ensures.lookup.1 in
    above_next known.dealloc _ _ c.in_default-dealloc.is
    (c.loop-passed.invariant ∙ ap (λ n. first_that_has own (ancestry_within (length all - passed) above n)) c.in-Some.is
    ∙ ap (first_that_has own) (in_class above (length all) passed number known.superclass c.loop-passed-test.true (superclass_there all number (Some known) there))
    ∙ ap (λ o. option_or (own_dealloc o) further) (class_there all number (Some known) there))

pub returns-in_default-get : goal.returns-in_default-get
returns-in_default-get c =
    let all = c.args.classes.now in
    let number = c.in-Some.number in
    let passed = c.loop-passed._passed in
    let above = superclasses (classes_of all) in
    let own = λ (class : ℕ). own_dealloc (slice_get (classes_of all) class) in
    let none : slice_get all number ≡ None = slice_get_past all number (ltb-false _ _ (sym c.in_default-get.ensures.lookup.0)) in
    sym (c.loop-passed.invariant ∙ ap (λ n. first_that_has own (ancestry_within (length all - passed) above n)) c.in-Some.is
    ∙ ap (first_that_has own) (no_class above (length all) passed number c.loop-passed-test.true (superclass_there all number None none)))
