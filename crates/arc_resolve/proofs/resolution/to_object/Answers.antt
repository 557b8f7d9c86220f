use Rattle.std.proofs.Common.{ap, ◌∙◌}
use Rattle.std.proofs.lemmas.Result.{IfOk-weaker}
use Rattle.arc_spec.specs.Resolved.{ObjectValue}
use Rattle.arc_checked.specs.Checked as checked
use Rattle.arc_resolve.specs.SourceResolution.{sent_to}
use Rattle.arc_resolve.proofs.resolution.to_object.Goals as goal

pub returns : goal.returns
returns c =
    IfOk-weaker c.sent_to.result _ _ (λ new h. h ∙ ap (λ v. sent_to c.args.kind (ObjectValue (checked.reference v)) c.args.selector (checked.arguments c.args.all.items)) c.in_ok-object.ensures.ok) c.sent_to.ensures
