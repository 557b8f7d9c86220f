use Rattle.std.proofs.Common.{option_map, sym, ap, ◌∙◌}
use Rattle.arc_ast.specs.Tree.{unit_tree, method_trees}
use Rattle.arc_class.specs.Classes.{bodies}
use Rattle.arc_class.specs.KeptNames.{implemented_tree}
use Rattle.arc_class.proofs.TablePartsGrow.{methods_at, defined_kept}
use Rattle.arc_class.proofs.kept.Source.defined_methods.Goals as goal

pub returns-in-None : goal.returns-in-None
returns-in-None c =
    let u = unit_tree c.args.self.now.unit.now in
    let name = c.args.name.now in
    sym (defined_kept (bodies u.functions) u.implementations name ∙ ap methods_at (sym (c.requires.implementations name) ∙ ap (option_map implemented_tree) (sym c.at_name.ensures ∙ c.in-None.is)))

pub returns-in-Some : goal.returns-in-Some
returns-in-Some c =
    let u = unit_tree c.args.self.now.unit.now in
    let name = c.args.name.now in
    ap method_trees c.deref.ensures.value
    ∙ sym (defined_kept (bodies u.functions) u.implementations name ∙ ap methods_at (sym (c.requires.implementations name) ∙ ap (option_map implemented_tree) (sym c.at_name.ensures ∙ c.in-Some.is)))
