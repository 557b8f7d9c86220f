use Rattle.std.proofs.Common.{◌≡◌, drop}
use Rattle.arc_ast.specs.Tree.{parameter_trees}
use Rattle.arc_family.specs.Rules as rules
use Rattle.arc_family.proofs.rules.misqualified_among.Given as goal

-- none of the parameters so far has wrong qualifiers
abbrev pub invariant-loop-parameter : goal.invariant-loop-parameter
invariant-loop-parameter l = rules.misqualified_among (parameter_trees l.all) ≡ rules.misqualified_among (parameter_trees (drop l.parameter-index l.all))
