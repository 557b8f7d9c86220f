use Rattle.std.proofs.Common.{None, ◌∙◌, arith}
use Rattle.std.proofs.lemmas.Grind.{common_steps}
use Rattle.arc_ast.specs.Tree.{unit_tree}
use Rattle.arc_sites.specs.Sites.{unit_sites}
use Rattle.arc_sites.proofs.FoundIsFirst.{found_is}
use Rattle.arc_class.specs.SiteRules.{violations}
use Rattle.arc_class.proofs.kept.Source.sites_fault.Goals as goal

pub returns : goal.returns
returns c =
    let u = unit_tree c.args.self.now.unit.now in
    c.in_ok-walk.ensures.found ∙ found_is (violations u) None (unit_sites u)

pub invariant_of-rules : goal.invariant_of-rules
invariant_of-rules c = grind (arith, common_steps)
