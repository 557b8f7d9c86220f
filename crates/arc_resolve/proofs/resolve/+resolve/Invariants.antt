use Rattle.std.proofs.Common.{◌≡◌, ◌+◌, ◌*◌, max, drop}
use denote.Param.Weighed.{most}
use Rattle.arc_ast.specs.declared.tree.Expr.{size-Expr}
use Rattle.arc_ast.specs.Tree.{expr_trees}
use Rattle.arc_resolve.specs.private.ResolvedNodes.{in_front}
use Rattle.arc_resolve.specs.SourceResolution.{resolved_all}
use Rattle.arc_scope.specs.Views.{kinds_wanted, seen}
use Rattle.arc_resolve.proofs.resolve.+resolve.Given as goal

-- the deepest of what is still to be resolved, and in front of it what calls what
abbrev pub decreases-expression : goal.decreases-expression
decreases-expression l = 8 * goal.size-expression l

abbrev pub decreases-assigned : goal.decreases-assigned
decreases-assigned l = 8 * goal.size-assigned l + 3

abbrev pub decreases-class_in : goal.decreases-class_in
decreases-class_in l = 8 * size-Expr l.expr.now + 2

abbrev pub decreases-to_field : goal.decreases-to_field
decreases-to_field l = 8 * size-Expr l.base.now + 1

abbrev pub decreases-resolved_part : goal.decreases-resolved_part
decreases-resolved_part l = 8 * goal.size-resolved_part l + 1

abbrev pub decreases-signed : goal.decreases-signed
decreases-signed l = 8 * size-Expr l.operand.now + 2

abbrev pub decreases-cast : goal.decreases-cast
decreases-cast l = 8 * size-Expr l.operand.now + 1

abbrev pub decreases-operation : goal.decreases-operation
decreases-operation l = 8 * max (size-Expr l.left.now) (size-Expr l.right.now) + 2

abbrev pub decreases-update : goal.decreases-update
decreases-update l = 8 * max (size-Expr l.left.now) (size-Expr l.right.now) + 2

abbrev pub decreases-choice : goal.decreases-choice
decreases-choice l = 8 * max (size-Expr l.test.now) (max (size-Expr l.first.now) (size-Expr l.second.now)) + 2

abbrev pub decreases-arrow : goal.decreases-arrow
decreases-arrow l = 8 * size-Expr l.base.now + 1

abbrev pub decreases-assignment : goal.decreases-assignment
decreases-assignment l = 8 * max (size-Expr l.left.now) (size-Expr l.right.now) + 4

abbrev pub decreases-argument : goal.decreases-argument
decreases-argument l = 8 * goal.size-argument l + 2

abbrev pub decreases-resolved_arguments : goal.decreases-resolved_arguments
decreases-resolved_arguments l = 8 * goal.size-resolved_arguments l + 3

abbrev pub decreases-print : goal.decreases-print
decreases-print l = 8 * goal.size-print l + 4

abbrev pub decreases-super_message : goal.decreases-super_message
decreases-super_message l = 8 * goal.size-super_message l + 4

abbrev pub decreases-call : goal.decreases-call
decreases-call l = 8 * goal.size-call l + 5

abbrev pub decreases-message : goal.decreases-message
decreases-message l = 8 * max (size-Expr l.receiver.now) (most size-Expr l.arguments.now) + 4

-- the values so far and those of the rest are all
abbrev pub invariant-resolved_arguments-loop-one : goal.invariant-resolved_arguments-loop-one
invariant-resolved_arguments-loop-one l =
    let s = seen l.table l.visible in resolved_all s (kinds_wanted l.wanted) (expr_trees l.arguments) ≡ in_front l.all.items (resolved_all s (kinds_wanted l.rest) (expr_trees (drop l.one-index l.arguments)))
