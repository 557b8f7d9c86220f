use Rattle.std.proofs.Common.{ap, take, ◌∙◌}
use Rattle.arc_spec.proofs.SelectorComponents.{component_is}
use Rattle.arc_spec.proofs.family.first_component.Goals as goal

pub returns : goal.returns
returns c = ap (λ n. take n c.args.selector.now) c.component_length.ensures ∙ component_is c.args.selector.now
