use Rattle.std.proofs.Common.{ap, sym, ◌∙◌}
use Rattle.std.proofs.lemmas.Result.{on_ok_weaker}
use Rattle.arc_ast.specs.Tree.{field_trees}
use Rattle.std.specs.Option.{option_or}
use Rattle.arc_class.specs.ClassRules.{field_place}
use Rattle.arc_class.proofs.TablePartsGrow.{kept_none}
use Rattle.arc_class.proofs.ClassViolations.{field_place-append}
use Rattle.arc_class.proofs.fields.keep_own_places.Goals as goal

pub returns : goal.returns
returns c =
    let xs = field_trees c.args.own.now.earlier.now in
    let ys = field_trees c.args.own.now.later.now in
    on_ok_weaker c.keep_places-2.result (λ kept sought. kept sought
    ∙ ap (λ o. option_or o (field_place sought ys)) (c.in_ok-keep_places.ensures sought ∙ ap (λ o. option_or o (field_place sought xs)) (kept_none c.args.places.now sought c.requires))
    ∙ sym (field_place-append sought xs ys)) c.keep_places-2.ensures
