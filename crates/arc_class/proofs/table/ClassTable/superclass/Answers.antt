use Rattle.std.proofs.Common.{◌≡◌, refl, sym, ap, ◌∙◌, length, slice_get, Some}
use Rattle.std.proofs.lemmas.Option.{slice_get_read}
use Rattle.std.proofs.lemmas.Bool.{ltb-true}
use Rattle.arc_class.specs.Table.{superclass_among}
use Rattle.arc_class.proofs.table.ClassTable.superclass.Goals as goal

pub returns-in-Some : goal.returns-in-Some
returns-in-Some c =
    let entries = c.args.self.now.entries.items in
    let all = c.deref.result.now in
    let number = c.args.class.0 in
    let entry = c.in-Some.entry.now in
    let there : slice_get entries number ≡ Some entry = ap (λ es. slice_get es number) (sym c.deref.ensures.value)
    ∙ slice_get_read all (length all) number entry refl (ltb-true _ _ (sym c.in-Some.ensures.lookup.0)) c.in-Some.ensures.lookup.1 in
    let above : superclass_among entries number ≡ entry.superclass = rw there refl in
    c.class_id.ensures ∙ sym above
