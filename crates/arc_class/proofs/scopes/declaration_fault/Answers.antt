use Rattle.std.proofs.Common.{ap, sym}
use Rattle.arc_class.specs.BrokenRules.{first}
use Rattle.arc_class.proofs.ScopeNames.{few-repeated}
use Rattle.arc_class.proofs.scopes.declaration_fault.Goals as goal

pub returns-then-all-lt2 : goal.returns-then-all-lt2
returns-then-all-lt2 c = sym (ap first (few-repeated c.args.all.now c.if-all-lt2.true))
