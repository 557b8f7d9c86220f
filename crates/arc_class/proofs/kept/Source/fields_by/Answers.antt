use Rattle.std.proofs.Common.{option_map, sym, ap, ◌∙◌}
use Rattle.arc_ast.specs.Tree.{unit_tree, field_trees}
use Rattle.arc_class.specs.Classes.{bodies}
use Rattle.arc_class.specs.KeptNames.{implemented_tree}
use Rattle.arc_class.proofs.TablePartsGrow.{fields_at, fields_kept}
use Rattle.arc_class.proofs.kept.Source.fields_by.Goals as goal

pub returns-in-None : goal.returns-in-None
returns-in-None c =
    let u = unit_tree c.args.self.now.unit.now in
    let name = c.args.name.now in
    sym (fields_kept (bodies u.functions) u.implementations name ∙ ap fields_at (sym (c.requires.implementations name) ∙ ap (option_map implemented_tree) (sym c.at_name.ensures ∙ c.in-None.is)))

pub returns-in-Some : goal.returns-in-Some
returns-in-Some c =
    let u = unit_tree c.args.self.now.unit.now in
    let name = c.args.name.now in
    ap field_trees c.deref.ensures.value
    ∙ sym (fields_kept (bodies u.functions) u.implementations name ∙ ap fields_at (sym (c.requires.implementations name) ∙ ap (option_map implemented_tree) (sym c.at_name.ensures ∙ c.in-Some.is)))
