use Rattle.std.proofs.Common.{sym, ap, ◌∙◌}
use Rattle.arc_spec.specs.Resolved.{Send, ObjectSend}
use Rattle.arc_checked.specs.Checked as checked
use Rattle.arc_resolve.specs.SourceResolution.{Gives, Refers}
use Rattle.arc_checked.proofs.NodeParts.{sent_value, object_sent_reference}
use Rattle.arc_resolve.proofs.resolution.sent_to.Goals as goal

pub returns-then-is_object : goal.returns-then-is_object
returns-then-is_object c =
    let all = checked.arguments c.args.all.items in
    rw (sym c.is_object.ensures ∙ c.if-is_object.true)
    (ap Refers (object_sent_reference c.in_ok-receiver.receiver c.args.selector c.args.all ∙ ap (λ r. ObjectSend (checked.receiver r) c.args.selector all) c.in_ok-receiver.ensures.ok))

pub returns : goal.returns
returns c =
    let all = checked.arguments c.args.all.items in
    rw (sym c.is_object.ensures ∙ c.if-is_object.false)
    (ap (Gives c.kind_or_int.result) (sent_value c.in_ok-receiver.receiver c.args.selector c.args.all ∙ ap (λ r. Send (checked.receiver r) c.args.selector all) c.in_ok-receiver.ensures.ok)
    ∙ ap (λ k. Gives k (Send (checked.receiver c.args.receiver) c.args.selector all)) c.kind_or_int.ensures)
