use Rattle.std.proofs.Common.{◌≡◌, flat_map, map, option_map, drop}
use Rattle.arc_ast.specs.Tree.{unit_tree, parameter_trees}
use Rattle.arc_class.specs.BrokenRules.{first, earlier_of}
use Rattle.arc_class.specs.Fault.{reported}
use Rattle.arc_class.specs.KeptNames.{Knows}
use Rattle.arc_class.specs.SiteRules.{unknown_class}
use Rattle.arc_class.proofs.types.parameters_fault.Given as goal

-- what is reported so far and what is reported of the rest is reported of all
abbrev pub invariant-loop-parameter : goal.invariant-loop-parameter
invariant-loop-parameter l =
    let broken = flat_map (unknown_class (unit_tree l.source.unit.now)) in
    Knows (unit_tree l.source.unit.now) l.source → first (broken (map (λ p. p.type) (parameter_trees l.parameters))) ≡ earlier_of (option_map reported l.fault) (first (broken (map (λ p. p.type) (parameter_trees (drop l.parameter-index l.parameters)))))
