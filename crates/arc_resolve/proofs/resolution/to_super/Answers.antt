use Rattle.std.proofs.Common.{ap, ◌∙◌}
use Rattle.std.proofs.lemmas.Result.{IfOk-weaker}
use Rattle.arc_spec.specs.Resolved.{ObjectSuper}
use Rattle.arc_checked.specs.Checked as checked
use Rattle.arc_resolve.specs.SourceResolution.{sent_to}
use Rattle.arc_resolve.proofs.resolution.to_super.Goals as goal

pub returns-in-Class : goal.returns-in-Class
returns-in-Class c = rw c.in-Class.is c.to_class.ensures

pub returns-in_ok-object-in-Instance : goal.returns-in_ok-object-in-Instance
returns-in_ok-object-in-Instance c =
    let kind = c.args.kind in
    let from = c.args.site.from in
    let selector = c.args.selector in
    let all = checked.arguments c.args.all.items in
    rw c.in-Instance.is (IfOk-weaker c.sent_to.result _ _ (λ new h. h ∙ ap (λ o. sent_to kind (ObjectSuper (checked.reference o) from) selector all) c.in_ok-object-in-Instance.ensures.ok
    ∙ ap (λ r. sent_to kind (ObjectSuper r from) selector all) c.itself.ensures) c.sent_to.ensures)
