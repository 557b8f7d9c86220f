use Rattle.std.proofs.Common.{◌≡◌, option_map, drop}
use Rattle.arc_ast.specs.Tree.{variable_trees}
use Rattle.arc_class.specs.BrokenRules.{first, earlier_of}
use Rattle.arc_class.specs.Fault.{reported}
use Rattle.arc_class.specs.SiteRules.{repeated}
use Rattle.arc_class.specs.private.Scopes.{names_with, holds}
use Rattle.arc_class.proofs.scopes.variables.Given as goal

-- what is reported so far and what is reported of the rest is reported of all
abbrev pub invariant-loop-variable : goal.invariant-loop-variable
invariant-loop-variable l = record {
  fault : first (repeated (holds l.initial.scope) (variable_trees l.all)) ≡ earlier_of (option_map reported l.fault) (first (repeated (holds l.scope) (variable_trees (drop l.variable-index l.all))));
  scope : names_with (holds l.initial.scope) (variable_trees l.all) ≡ names_with (holds l.scope) (variable_trees (drop l.variable-index l.all));
}
