use Rattle.std.proofs.Common.{◌+◌, flat_map, map, option_map, drop, ap, ◌∙◌, arith}
use Rattle.std.proofs.lemmas.Grind.{common_steps}
use Rattle.arc_ast.specs.Tree.{unit_tree, type_tree, parameter_trees}
use Rattle.arc_class.specs.BrokenRules.{first, earlier_of}
use Rattle.arc_class.specs.Fault.{reported}
use Rattle.arc_class.specs.SiteRules.{unknown_class}
use Rattle.arc_class.proofs.FirstBrokenRule.{first_turn}
use Rattle.arc_class.proofs.ListSuffixes.{drop_turn}
use Rattle.arc_class.proofs.types.parameters_fault.Goals as goal

pub loop-parameter-preserved : goal.loop-parameter-preserved
loop-parameter-preserved c knows =
    let missing = unknown_class (unit_tree c.args.source.now.unit.now) in
    let xs = c.args.parameters.now in
    let i = c.loop-parameter.parameter-index in
    let x = c.parameter-item.result in
    first_turn (missing (type_tree x.type_name)) (flat_map missing (map (λ p. p.type) (parameter_trees (drop (i + 1) xs)))) _ _ _ _ (c.type_fault.ensures knows) c.earlier-fault.ensures
    (c.loop-parameter.invariant knows ∙ ap (λ us. earlier_of (option_map reported c.loop-parameter.fault) (first (flat_map missing (map (λ p. p.type) (parameter_trees us))))) (drop_turn xs i x c.loop-parameter-test.true c.parameter-item.is))

pub returns : goal.returns
returns c = grind (arith, common_steps)
