use Rattle.std.proofs.Common.{◌≡◌, drop}
use Rattle.arc_ast.specs.Tree.{implementation_trees}
use Rattle.arc_class.specs.Classes.{numbers_after}
use Rattle.arc_class.proofs.kept.numbers_after.Given as goal

-- after those so far there are the rest
abbrev pub invariant-loop-implementation : goal.invariant-loop-implementation
invariant-loop-implementation l = numbers_after l.fn.first (implementation_trees l.implementations) ≡ numbers_after l.count (implementation_trees (drop l.implementation-index l.implementations))
