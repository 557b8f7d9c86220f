use Rattle.std.proofs.Common.{option_map, sym, ap, ◌∙◌}
use Rattle.arc_ast.specs.Tree.{unit_tree}
use Rattle.arc_class.specs.Classes.{bodies}
use Rattle.arc_class.specs.KeptNames.{implemented_tree}
use Rattle.arc_class.proofs.TablePartsGrow.{before_at, before_kept}
use Rattle.arc_class.proofs.kept.Source.implemented_before.Goals as goal

pub returns-in-None : goal.returns-in-None
returns-in-None c =
    let u = unit_tree c.args.self.now.unit.now in
    let name = c.args.name.now in
    let at = c.args.at in
    sym (before_kept (bodies u.functions) u.implementations name at
    ∙ ap (λ o. before_at o at) (sym (c.requires.implementations name) ∙ ap (option_map implemented_tree) (sym c.at_name.ensures ∙ c.in-None.is)))

pub returns-in-Some : goal.returns-in-Some
returns-in-Some c =
    let u = unit_tree c.args.self.now.unit.now in
    let name = c.args.name.now in
    let at = c.args.at in
    sym (before_kept (bodies u.functions) u.implementations name at
    ∙ ap (λ o. before_at o at) (sym (c.requires.implementations name) ∙ ap (option_map implemented_tree) (sym c.at_name.ensures ∙ c.in-Some.is)))
