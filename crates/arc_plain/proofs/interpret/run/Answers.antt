use Rattle.std.proofs.Common.{subst}
use Rattle.arc_spec.specs.declared.class.Gives.TheVariants.{Number}
use Rattle.arc_plain.specs.Views.{Reports, answer_of, deeper, world}
use Rattle.arc_plain.proofs.ProgramReported.{main_reported}
use Rattle.arc_plain.proofs.interpret.run.Goals as goal

pub returns : goal.returns
returns c =
    let call = (deeper c.args.context.now).call Number c.args.context.now.program.now.main 0 in
    let before = world c.args.progress.now in
    let after = c.call-left.new.progress in
    let reported = subst (λ g. Reports answer_of c.call-left.result (call g before) (world after)) c.nothing-none.ensures c.call-left.ensures in
    main_reported c.call-left.result _ after (record { trace = c.replace-trace.result; stop = c.in_ok-stop.stop }) reported c.in_ok-stop.ensures c.replace-trace.ensures.value
