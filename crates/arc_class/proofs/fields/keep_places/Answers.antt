use Rattle.std.proofs.Common.{◌+◌, drop, ap, ◌∙◌, arith}
use Rattle.std.proofs.lemmas.Grind.{common_steps}
use Rattle.arc_ast.specs.Tree.{field_trees}
use Rattle.std.specs.Option.{option_or}
use Rattle.arc_class.specs.ClassRules.{field_place}
use Rattle.arc_class.specs.KeptNames.{one_at}
use Rattle.arc_class.specs.Table.{at_name}
use Rattle.arc_class.proofs.FirstDeclaration.{kept_turn, or_one}
use Rattle.arc_class.proofs.ListSuffixes.{drop_turn}
use Rattle.arc_class.proofs.fields.keep_places.Goals as goal

pub loop-field-preserved : goal.loop-field-preserved
loop-field-preserved c sought =
    let xs = c.args.fields.now in
    let k = c.loop-field.field-index in
    let x = c.field-item.result in
    let old = at_name c.loop-field.places sought in
    let rest = field_place sought (field_trees (drop (k + 1) xs)) in
    kept_turn old (one_at x.name.items x.at sought) _ rest _ (c.in_ok-keep_first.ensures sought ∙ ap (λ n. option_or old (one_at n x.at sought)) c.deref.ensures.value)
    (c.loop-field.invariant sought ∙ ap (option_or old) (ap (λ us. field_place sought (field_trees us)) (drop_turn xs k x c.loop-field-test.true c.field-item.is) ∙ or_one x.name.items x.at rest sought))

pub returns : goal.returns
returns c = grind (arith, common_steps)
