use Rattle.std.proofs.Common.{◌≡◌, rules, ap, sym, ◌∙◌, to_z, of_z, w32}
use Rattle.arc_steps.specs.declared.answer.Answer.TheVariants as answer
use Rattle.arc_machine.specs.RunAnswer.{said}
use Rattle.arc_machine.proofs.machine.said_of.Goals as goal

pub returns-in-Going : goal.returns-in-Going
returns-in-Going c = ap said (sym c.in-Going.is)

pub returns-in-Ended : goal.returns-in-Ended
returns-in-Ended c =
    let same : c.in-Ended.number ≡ to_z w32 (of_z w32 c.in-Ended.number) = search rules in
    ap said (sym (c.in-Ended.is ∙ ap answer.Ended same))

pub returns-in-NoHeap : goal.returns-in-NoHeap
returns-in-NoHeap c = ap said (sym c.in-NoHeap.is)
