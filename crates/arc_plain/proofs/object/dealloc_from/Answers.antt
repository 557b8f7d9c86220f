use Rattle.std.proofs.Common.{suc, length, slice_get, Some, refl, ◌≡◌, ap, sym, ◌∙◌}
use Rattle.std.proofs.lemmas.Bool.{ltb-true}
use Rattle.std.proofs.lemmas.Option.{slice_get_read}
use Rattle.arc_checked.specs.Checked.{program_of}
use Rattle.arc_spec.specs.Classes.{superclasses, ancestry_within}
use Rattle.arc_spec.specs.Meaning.{deallocs_run}
use Rattle.arc_plain.proofs.CallsAndEndsReported.{dealloc_here}
use Rattle.arc_plain.proofs.object.dealloc_from.Goals as goal

pub returns : goal.returns
returns c = λ D bound n o w.
    let P = program_of c.args.context.now.program.now in
    let all = c.args.context.now.program.now.classes.items in
    let these = c.deref.result.now in
    let number = c.in-Some.number in
    let class = c.in-Some-get.found.now in
    let lookup = c.in-Some-get.ensures.lookup in
    let there : slice_get all number ≡ Some class =
    ap (λ l. slice_get l number) (sym c.deref.ensures.value) ∙ slice_get_read these (length these) number class refl (ltb-true number (length these) (sym lookup.0)) lookup.1 in
    ap (λ x. deallocs_run P D bound (ancestry_within (suc n) (superclasses P.classes) x) o w) c.in-Some.is ∙ dealloc_here P D bound all o refl (suc n) n number class w refl there
