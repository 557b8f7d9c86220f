use Rattle.std.proofs.Common.{sym, ap, ◌∙◌}
use Rattle.arc_class.specs.BrokenRules.{broken_if, first}
use Rattle.arc_judge.proofs.body.place_fault.Goals as goal

pub returns-then-is_full : goal.returns-then-is_full
returns-then-is_full c = λ table. ap (λ b. first (broken_if b c.args.at 50)) (sym c.if-is_full.true ∙ c.is_full.ensures table)

pub returns-else-is_full : goal.returns-else-is_full
returns-else-is_full c = λ table. ap (λ b. first (broken_if b c.args.at 50)) (sym c.if-is_full.false ∙ c.is_full.ensures table)
