use Rattle.std.proofs.Common.{◌≡◌, ◌||◌, false, sym, ap, ◌∙◌}
use Rattle.arc_ast.specs.Tree.{unit_tree}
use Rattle.arc_class.specs.SiteRules.{interface_before}
use Rattle.arc_class.specs.Classes.{is_root}
use Rattle.arc_class.specs.KeptNames.{place_before}
use Rattle.arc_class.proofs.ClassViolations.{before_places}
use Rattle.arc_class.proofs.kept.Source.class_before.Goals as goal

pub returns-else-is_root : goal.returns-else-is_root
returns-else-is_root c knows =
    let u = unit_tree c.args.self.now.unit.now in
    let name = c.args.name.now in
    let at = c.args.at in
    let other : false ≡ is_root name = sym c.if-is_root.false ∙ c.is_root.ensures in
    c.place_before.ensures ∙ ap (λ o. place_before o at) (c.at_name.ensures ∙ knows.class_places name) ∙ before_places 1 u.interfaces name at
    ∙ ap (λ b. b || interface_before u.interfaces name at) other
