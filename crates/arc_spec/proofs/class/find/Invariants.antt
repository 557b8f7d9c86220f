use Rattle.std.proofs.Common.{◌≡◌, drop}
use Rattle.arc_spec.specs.Classes.{found}
use Rattle.arc_spec.proofs.class.find.Given as goal

-- none before it answers
abbrev pub invariant-loop-method : goal.invariant-loop-method
invariant-loop-method l = found l.sign l.selector l.takes l.objects l.gives l.methods ≡ found l.sign l.selector l.takes l.objects l.gives (drop l.method-index l.methods)
