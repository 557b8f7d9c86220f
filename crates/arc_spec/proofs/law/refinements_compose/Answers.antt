use Rattle.arc_spec.proofs.Composition.{composed}
use Rattle.arc_spec.proofs.law.refinements_compose.Goals as goal

pub returns : goal.returns
returns c = λ meant a b means steady refines. composed meant a b means steady refines
