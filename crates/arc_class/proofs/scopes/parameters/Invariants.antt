use Rattle.std.proofs.Common.{◌≡◌, map, option_map, drop}
use Rattle.arc_ast.specs.Tree.{parameter_trees}
use Rattle.arc_class.specs.BrokenRules.{first, earlier_of}
use Rattle.arc_class.specs.Fault.{reported}
use Rattle.arc_class.specs.SiteRules.{as_variable, repeated}
use Rattle.arc_class.specs.private.Scopes.{names_with, holds}
use Rattle.arc_class.proofs.scopes.parameters.Given as goal

-- what is reported so far and what is reported of the rest is reported of all
abbrev pub invariant-loop-parameter : goal.invariant-loop-parameter
invariant-loop-parameter l = record {
  fault : first (repeated (holds l.initial.scope) (map as_variable (parameter_trees l.all))) ≡ earlier_of (option_map reported l.fault) (first (repeated (holds l.scope) (map as_variable (parameter_trees (drop l.parameter-index l.all)))));
  scope : names_with (holds l.initial.scope) (map as_variable (parameter_trees l.all)) ≡ names_with (holds l.scope) (map as_variable (parameter_trees (drop l.parameter-index l.all)));
}
