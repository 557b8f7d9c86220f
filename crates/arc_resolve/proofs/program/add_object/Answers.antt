use Rattle.std.proofs.Common.{ap, ◌∙◌}
use Rattle.arc_ast.specs.Tree.{expr_tree}
use Rattle.arc_spec.specs.Resolved.{InitVariable}
use Rattle.arc_checked.specs.Checked.{reference}
use Rattle.arc_checked.specs.declared.program.Command as command
use Rattle.arc_resolve.specs.SourceResolution.{object_in, resolved}
use Rattle.arc_scope.specs.Views.{seen}
use Rattle.arc_resolve.proofs.StatementResolution.{one_more}
use Rattle.arc_resolve.proofs.program.add_object.Goals as goal

pub returns-in_ok-push : goal.returns-in_ok-push
returns-in_ok-push c =
    let named = object_in (resolved (seen c.args.table.now c.args.visible.now) (expr_tree c.in-Some.expr)) in
    rw c.in-Some.is (λ others. one_more c.args.all.now.items c.push.new.self.items (command.InitVariable c.from.result c.in_ok-object.object) (InitVariable c.args.number named) others c.in_ok-push.ensures.items
    (ap (λ n. InitVariable n (reference c.in_ok-object.object)) c.from.ensures ∙ ap (InitVariable c.args.number) c.in_ok-object.ensures))
