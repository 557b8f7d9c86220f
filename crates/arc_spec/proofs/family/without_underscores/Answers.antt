use Rattle.std.proofs.Common.{ap, drop, ◌∙◌}
use Rattle.std.proofs.lemmas.List.{take_rest}
use Rattle.arc_spec.proofs.SelectorComponents.{rest_is}
use Rattle.arc_spec.proofs.family.without_underscores.Goals as goal

pub returns : goal.returns
returns c = take_rest c.args.name.now c.leading_underscores.result ∙ ap (λ n. drop n c.args.name.now) c.leading_underscores.ensures.count ∙ rest_is c.args.name.now
