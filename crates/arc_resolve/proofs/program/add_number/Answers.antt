use Rattle.std.proofs.Common.{pos, ap, ◌∙◌}
use Rattle.arc_ast.specs.Tree.{expr_tree}
use Rattle.arc_spec.specs.Resolved.{Number, and_command}
use Rattle.arc_resolve.specs.SourceResolution.{put, converted, resolved}
use Rattle.arc_scope.specs.Views.{seen}
use Rattle.arc_resolve.proofs.StatementResolution.{one_more}
use Rattle.arc_resolve.proofs.program.add_number.Goals as goal

-- it begins at 0, and then takes its value
pub returns-in_ok-push-2 : goal.returns-in_ok-push-2
returns-in_ok-push-2 c =
    let zero = put c.args.number (Number (pos 0)) in
    let value = put c.args.number (converted c.args.kind (resolved (seen c.args.table.now c.args.visible.now) (expr_tree c.in-Some.expr))) in
    rw c.in-Some.is (λ others.
    one_more c.push.new.self.items c.push-in-Some.new.self.items c.in_ok-put-2.field-0 value others c.in_ok-push-2.ensures.items (c.in_ok-put-2.ensures ∙ ap (put c.args.number) c.in_ok-value.ensures)
    ∙ one_more c.args.all.now.items c.push.new.self.items c.in_ok-put.field-0 zero (and_command value others) c.in_ok-push.ensures.items c.in_ok-put.ensures)

-- it begins at 0
pub returns-in_default : goal.returns-in_default
returns-in_default c =
    rw c.in_default.is (λ others. one_more c.args.all.now.items c.push.new.self.items c.in_ok-put.field-0 (put c.args.number (Number (pos 0))) others c.in_ok-push.ensures.items c.in_ok-put.ensures)
