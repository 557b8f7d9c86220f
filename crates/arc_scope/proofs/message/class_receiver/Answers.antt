use Rattle.std.proofs.Common.{ap, ◌∙◌}
use Rattle.arc_ast.specs.Tree.{expr_tree}
use Rattle.arc_scope.specs.Scopes.{itself_in}
use Rattle.arc_scope.specs.Views.{seen}
use Rattle.arc_scope.proofs.message.class_receiver.Goals as goal

pub returns-in-Paren : goal.returns-in-Paren
returns-in-Paren c =
    rw c.in-Paren.is (c.itself_in.ensures c.args.table.now ∙ ap (λ e. itself_in (seen c.args.table.now c.args.visible.now) (expr_tree e)) c.deref-in-Paren.ensures)

pub returns-in-Itself : goal.returns-in-Itself
returns-in-Itself c = rw c.in-Itself.is (c.class_itself.ensures c.args.table.now)
