use Rattle.std.proofs.Common.{is_none, sym, ap}
use Rattle.arc_class.specs.BrokenRules.{broken_if, first}
use Rattle.arc_judge.proofs.judge.unknown_method.Goals as goal

pub returns-in-Some : goal.returns-in-Some
returns-in-Some c = ap (λ k. first (broken_if (is_none k) c.args.part 42)) (sym c.in-Some.is)

pub returns-in-None : goal.returns-in-None
returns-in-None c = ap (λ k. first (broken_if (is_none k) c.args.part 42)) (sym c.in-None.is)
