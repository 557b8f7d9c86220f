use Rattle.std.proofs.Common.{length, ap, arith}
use Rattle.arc_parse.proofs.Bound.{rest_short, fails_over, fails_fits}
use Rattle.arc_form.proofs.Front.{take_short}
use Rattle.arc_parse.proofs.full.refuse.Goals as goal

pub overflow_sub-taken : goal.overflow_sub-taken
overflow_sub-taken c = rest_short c.args.reader.now.rest.now c.args.ahead.now c.args.left.now c.args.left.now c.requires.first _ c.requires.fails.1

pub after-reader-requires : goal.after-reader-requires
after-reader-requires c = omega (arith, ap length c.requires.first, take_short 1001 c.args.reader.now.rest.now)

pub after-reader-requires-else-ahead-gt-MOST_TOKENS : goal.after-reader-requires-else-ahead-gt-MOST_TOKENS
after-reader-requires-else-ahead-gt-MOST_TOKENS c = omega (arith, ap length c.requires.first, take_short 1001 c.args.reader.now.rest.now)

pub returns-then-taken-ge-MOST_TOKENS : goal.returns-then-taken-ge-MOST_TOKENS
returns-then-taken-ge-MOST_TOKENS c = fails_over _ _ c.args.left.now _ c.requires.first _ c.requires.fails.1 c.if-ahead-gt-MOST_TOKENS.true c.if-taken-ge-MOST_TOKENS.true c.after-reader.ensures

pub returns-else-ahead-gt-MOST_TOKENS : goal.returns-else-ahead-gt-MOST_TOKENS
returns-else-ahead-gt-MOST_TOKENS c = fails_fits _ _ c.args.left.now _ c.requires.first _ c.requires.fails.1 c.else-ahead-gt-MOST_TOKENS.either c.after-reader-else-ahead-gt-MOST_TOKENS.ensures
