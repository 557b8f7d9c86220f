use Rattle.std.proofs.Common.{◌+◌, ◌*◌, length}
use Rattle.arc_parse.proofs.expr.+exprs.Given as goal

abbrev pub decreases-expr : goal.decreases-expr
decreases-expr l = 16 * length l.reader.now.rest.now + 7

abbrev pub decreases-operation : goal.decreases-operation
decreases-operation l = 16 * length l.reader.now.rest.now + 13

abbrev pub decreases-continued : goal.decreases-continued
decreases-continued l = 16 * length l.reader.now.rest.now + 12

abbrev pub decreases-condition : goal.decreases-condition
decreases-condition l = 16 * length l.reader.now.rest.now + 4

abbrev pub decreases-up_to : goal.decreases-up_to
decreases-up_to l = 16 * length l.reader.now.rest.now + 1 + l.level

abbrev pub decreases-binary : goal.decreases-binary
decreases-binary l = 16 * length l.reader.now.rest.now + 4

abbrev pub decreases-prefixed : goal.decreases-prefixed
decreases-prefixed l = 16 * length l.reader.now.rest.now + 3

abbrev pub decreases-parenthesized : goal.decreases-parenthesized
decreases-parenthesized l = 16 * length l.reader.now.rest.now + 1

abbrev pub decreases-cast_or_product : goal.decreases-cast_or_product
decreases-cast_or_product l = 16 * length l.reader.now.rest.now + 1

abbrev pub decreases-cast : goal.decreases-cast
decreases-cast l = 16 * length l.reader.now.rest.now + 4

abbrev pub decreases-postfix : goal.decreases-postfix
decreases-postfix l = 16 * length l.reader.now.rest.now + 2

abbrev pub decreases-primary : goal.decreases-primary
decreases-primary l = 16 * length l.reader.now.rest.now + 1

abbrev pub decreases-named : goal.decreases-named
decreases-named l = 16 * length l.reader.now.rest.now

abbrev pub decreases-given : goal.decreases-given
decreases-given l = 16 * length l.reader.now.rest.now + 9

abbrev pub decreases-arguments : goal.decreases-arguments
decreases-arguments l = 16 * length l.reader.now.rest.now + 8

abbrev pub decreases-message : goal.decreases-message
decreases-message l = 16 * length l.reader.now.rest.now

abbrev pub decreases-sent : goal.decreases-sent
decreases-sent l = 16 * length l.reader.now.rest.now + 1

abbrev pub decreases-parts : goal.decreases-parts
decreases-parts l = 16 * length l.reader.now.rest.now + 1
