use Rattle.std.proofs.Common.{arith}
use Rattle.std.proofs.lemmas.Grind.{common_steps}
use Rattle.arc_parse.proofs.Bound.{then_over, then_fits}
use Rattle.arc_parse.proofs.full.full.Goals as goal

pub after-reader-requires : goal.after-reader-requires
after-reader-requires c = omega (arith, c.front-ahead.ensures.fits, c.if-taken-gt-MOST_TOKENS.true)

pub returns-then-taken-gt-MOST_TOKENS-clause-gives : goal.returns-then-taken-gt-MOST_TOKENS-clause-gives
returns-then-taken-gt-MOST_TOKENS-clause-gives c = then_over _ _ c.expr.new.reader.rest.now _ c.front-ahead.ensures.first _ c.in-Ok.ensures.gives c.if-taken-gt-MOST_TOKENS.true c.after-reader.ensures

pub after-reader-requires-in-Ok : goal.after-reader-requires-in-Ok
after-reader-requires-in-Ok c = omega (arith, c.front-ahead.ensures.fits)

pub returns-else-taken-gt-MOST_TOKENS-clause-gives : goal.returns-else-taken-gt-MOST_TOKENS-clause-gives
returns-else-taken-gt-MOST_TOKENS-clause-gives c = then_fits _ _ c.expr.new.reader.rest.now _ c.front-ahead.ensures.first _ c.in-Ok.ensures.gives (omega (arith, c.if-taken-gt-MOST_TOKENS.false)) c.after-reader-in-Ok.ensures

pub returns-else-taken-gt-MOST_TOKENS-clause-shorter : goal.returns-else-taken-gt-MOST_TOKENS-clause-shorter
returns-else-taken-gt-MOST_TOKENS-clause-shorter c = grind (arith, common_steps)

pub refuse-requires-clause-first : goal.refuse-requires-clause-first
refuse-requires-clause-first c = c.front-ahead.ensures.first

pub refuse-requires-in-Err-TooDeep-clause-first : goal.refuse-requires-in-Err-TooDeep-clause-first
refuse-requires-in-Err-TooDeep-clause-first c = c.front-ahead.ensures.first
