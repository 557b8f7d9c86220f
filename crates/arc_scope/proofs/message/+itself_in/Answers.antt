use Rattle.std.proofs.Common.{ap, ◌∙◌}
use Rattle.arc_ast.specs.Tree.{expr_tree}
use Rattle.arc_scope.specs.Scopes.{itself_in}
use Rattle.arc_scope.specs.Views.{seen}
use Rattle.arc_scope.proofs.message.+itself_in.Goals as goal

pub returns-in-Paren : goal.returns-in-Paren
returns-in-Paren t c = λ table. rw c.in-Paren.is (c.itself_in.ensures table ∙ ap (λ e. itself_in (seen table c.args.visible.now) (expr_tree e)) c.deref.ensures)

pub returns-in-Itself : goal.returns-in-Itself
returns-in-Itself t c = λ table. rw c.in-Itself.is (c.class_itself.ensures table)
