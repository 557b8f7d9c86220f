use Rattle.std.proofs.Common.{◌++◌, map, append_assoc, sym, ap, ◌∙◌}
use Rattle.arc_ast.specs.Tree.{field_trees}
use Rattle.arc_class.specs.Fields.{owned}
use Rattle.arc_class.specs.Table.{field_tree}
use Rattle.arc_class.proofs.TablePartsGrow.{map_append}
use Rattle.arc_class.proofs.kept.Source.fields_with.Goals as goal

pub returns : goal.returns
returns c =
    let class = c.args.class in
    let inherited = map field_tree c.args.inherited.items in
    let own = c.own_fields-own.result in
    let xs = field_trees own.earlier.now in
    let ys = field_trees own.later.now in
    c.in_ok-add_fields-2.ensures ∙ ap (λ fs. fs ++ map (owned class) ys) c.in_ok-add_fields.ensures
    ∙ append_assoc inherited (map (owned class) xs) (map (owned class) ys) ∙ ap (λ fs. inherited ++ fs) (sym (map_append (owned class) xs ys) ∙ ap (map (owned class)) c.own_fields-own.ensures)
