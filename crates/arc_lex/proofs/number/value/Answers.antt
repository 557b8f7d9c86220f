use Rattle.std.proofs.Common.{◌<◌, sym, ◌∙◌, arith}
use Rattle.std.proofs.lemmas.Grind.{common_steps}
use Rattle.std.proofs.lemmas.Bool.Decides.{nat_tests}
use Rattle.arc_lex.specs.Texts.{number_after}
use Rattle.arc_lex.specs.private.Bases.{factor}
use Rattle.arc_lex.specs.declared.number.TheConstants.{LARGEST}
use Rattle.arc_lex.proofs.Numbers.{number_over}
use Rattle.arc_lex.proofs.number.value.Goals as goal

pub returns-in-None : goal.returns-in-None
returns-in-None c =
    let base = c.args.base in
    let ds = c.args.digits.now in
    let over : LARGEST < number_after (factor base) 0 ds = number_over base c.loop-digit.n ds c.loop-digit.digit-index (omega arith) c.loop-digit.invariant (sym c.shifted.ensures ∙ c.in-None.is) in
    grind (arith, nat_tests)

pub loop-digit-preserved : goal.loop-digit-preserved
loop-digit-preserved c = grind (arith, common_steps)
