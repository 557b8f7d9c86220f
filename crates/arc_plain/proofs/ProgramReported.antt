-- What the interpreter reports of the call of `main` is what it reports of the program.
use Rattle.std.proofs.Common.{◌≡◌, Result, sym, ap, ◌∙◌}
use Rattle.arc_spec.specs.World as worlds
use Rattle.arc_spec.specs.World.{Outcome}
use Rattle.arc_spec.specs.Correctness.{meaning_seen}
use Rattle.arc_plain.specs.declared.given.Answered.{Answered}
use Rattle.arc_plain.specs.declared.halt.Halt.{Halt}
use Rattle.arc_plain.specs.declared.interpret.Answer.{Answer}
use Rattle.arc_plain.specs.declared.progress.Progress.{Progress}
use Rattle.arc_plain.specs.Views.{answer_of, world, seen, Reports, Stops, as_int}

pub main_reported : (left : Result Answered Halt) (outcome : Outcome worlds.Answer) (after : Progress) (answer : Answer)
    → Reports answer_of left outcome (world after) → Stops left answer.stop → answer.trace ≡ after.trace
    → meaning_seen (as_int outcome) ≡ seen answer
main_reported left outcome after answer reported stops traced = stops outcome (world after) reported ∙ ap (λ t. seen (record answer { trace = t })) (sym traced)
