use Rattle.std.proofs.Common.{◌+◌, ◌++◌, map, drop, refl, ap, ◌∙◌, arith}
use Rattle.std.proofs.lemmas.Grind.{common_steps}
use Rattle.arc_ast.specs.Tree as tree
use Rattle.arc_ast.specs.Tree.{field_trees}
use Rattle.arc_class.specs.Fields.{owned}
use Rattle.arc_class.specs.Table.{field_tree, number_of_class}
use Rattle.arc_class.proofs.ListSuffixes.{drop_turn}
use Rattle.arc_class.proofs.TablePartsGrow.{made_turn}
use Rattle.arc_class.proofs.fields.add_fields.Goals as goal

pub loop-field-preserved : goal.loop-field-preserved
loop-field-preserved c =
    let xs = c.args.fields.now in
    let k = c.loop-field.field-index in
    let x = c.field-item.result in
    let owner = number_of_class c.args.owner in
    made_turn field_tree c.loop-field.all.items c.push.new.self.items _ (owned owner (tree.field_tree x)) (map (owned owner) (field_trees (drop (k + 1) xs))) _
    c.in_ok-push.ensures.items (rw (c.field_sort.ensures, c.kind.ensures, c.deref.ensures.value) refl)
    (c.loop-field.invariant ∙ ap (λ us. map field_tree c.loop-field.all.items ++ map (owned owner) (field_trees us)) (drop_turn xs k x c.loop-field-test.true c.field-item.is))

pub returns : goal.returns
returns c = grind (arith, common_steps)
