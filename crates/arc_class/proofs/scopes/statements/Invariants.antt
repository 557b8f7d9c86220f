use Rattle.std.proofs.Common.{◌≡◌, option_map, drop}
use Rattle.arc_ast.specs.Tree.{stmt_trees}
use Rattle.arc_class.specs.BrokenRules.{first, earlier_of}
use Rattle.arc_class.specs.Fault.{reported}
use Rattle.arc_class.specs.SiteRules.{all_declared, repeated}
use Rattle.arc_class.specs.private.Scopes.{holds}
use Rattle.arc_class.proofs.scopes.statements.Given as goal

-- what is reported so far and what is reported of the rest is reported of all
abbrev pub invariant-loop-stmt : goal.invariant-loop-stmt
invariant-loop-stmt l = first (repeated (holds l.initial.scope) (all_declared (stmt_trees l.all))) ≡ earlier_of (option_map reported l.fault) (first (repeated (holds l.scope) (all_declared (stmt_trees (drop l.stmt-index l.all)))))
