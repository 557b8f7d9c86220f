use Rattle.std.proofs.Common.{◌≡◌, ap, subst, ◌∙◌}
use Rattle.std.specs.Prelude.{IfOk}
use Rattle.arc_checked.specs.Checked.{program_of}
use Rattle.arc_spec.specs.declared.class.Gives.TheVariants.{Number}
use Rattle.arc_spec.specs.declared.limits.TheConstants.{MOST_LEVELS}
use Rattle.arc_spec.specs.Correctness.{meaning_seen}
use Rattle.arc_spec.specs.Meaning.{level}
use Rattle.arc_spec.specs.World.{first_world, nothing_given}
use Rattle.arc_plain.specs.Views.{as_int, seen}
use Rattle.arc_plain.proofs.interpret.interpret.Goals as goal

pub returns : goal.returns
returns c =
    let P = program_of c.args.program.now in
    subst (λ w. IfOk c.run-answer.result (λ answer. meaning_seen (as_int ((level P c.args.bound MOST_LEVELS).call Number c.args.program.now.main 0 nothing_given w)) ≡ seen answer))
    (c.in_ok-progress.ensures ∙ ap (λ l. first_world l c.args.program.now.strong_globals c.args.input.now) c.deref.ensures.value) c.run-answer.ensures
