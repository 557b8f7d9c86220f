use Rattle.std.proofs.Common.{ap, ◌∙◌}
use Rattle.std.proofs.lemmas.Result.{IfOk-weaker}
use Rattle.arc_resolve.specs.SourceResolution.{converted}
use Rattle.arc_resolve.proofs.resolve.number_as.Goals as goal

pub returns : goal.returns
returns c = IfOk-weaker c.converted.result _ _ (λ new h. h ∙ ap (converted c.args.kind) c.in_ok-typed.ensures.value) c.converted.ensures
