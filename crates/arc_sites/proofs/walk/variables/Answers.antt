use Rattle.std.proofs.Common.{◌+◌, ◌++◌, drop, option_map, refl, ◌∙◌}
use Rattle.std.proofs.Common.{arith}
use Rattle.std.proofs.lemmas.Grind.{common_steps}
use Rattle.arc_ast.specs.Tree.{expr_tree, type_tree, variable_tree, variable_trees}
use Rattle.arc_sites.specs.Sites.{Variable, site, maybe_sites, variable_sites}
use Rattle.arc_sites.specs.FoundViolations.{enclosing_of}
use Rattle.arc_sites.proofs.FoundIsFirst.{found_both, turn}
use Rattle.arc_sites.proofs.walk.variables.Goals as goal

pub returns-clause-found : goal.returns-clause-found
returns-clause-found g c = grind (arith, common_steps)

pub loop-variable-preserved : goal.loop-variable-preserved
loop-variable-preserved g c =
    let m = enclosing_of c.args.enclosing in
    let qualifiers = c.args.qualifiers in
    let type = type_tree c.args.type_name.now in
    let v = c.variable-item.result in
    let rest = drop (c.loop-variable.variable-index + 1) c.args.all.now in
    let here = site m (Variable qualifiers type (variable_tree v)) in
    let initial = maybe_sites m (option_map expr_tree v.initial) in
    (c.in_ok-maybe.ensures.same ∙ c.in_ok-visit.ensures.same ∙ c.loop-variable.invariant.0, turn (g.V.Visitor.violations c.args.visitor.now) _ (λ xs. variable_sites m qualifiers type (variable_trees xs)) (here ++ initial) (variable_sites m qualifiers type (variable_trees rest)) c.args.all.now c.loop-variable.variable-index v _ _ _ refl c.loop-variable.invariant.0 c.loop-variable-test.true c.variable-item.is (found_both _ _ _ _ _ here initial c.in_ok-visit.ensures.same c.in_ok-visit.ensures.found c.in_ok-maybe.ensures.found) c.loop-variable.invariant.1)
