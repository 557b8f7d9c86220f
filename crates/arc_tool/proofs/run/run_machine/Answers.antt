use Rattle.std.proofs.Common.{sym, ◌∙◌, arith, rules}
use Rattle.std.proofs.KnownBytes.{Keeps-refl}
use Rattle.std.proofs.lemmas.Result.{err_from_is_err_and}
use Rattle.arc_code.specs.CountedDevices.{left_in, held_by}
use Rattle.arc_tool.proofs.FlushAfterText.{passed_or_failed}
use Rattle.arc_tool.proofs.OutputAfterFailure.{write_prints}
use Rattle.arc_tool.proofs.RunOutput.{machine_stopped, machine_held, machine_broken, machine_unread}
use Rattle.arc_tool.proofs.run.run_machine.Goals as goal

pub returns-in_err-flush-in-Ok-clause-ran : goal.returns-in_err-flush-in-Ok-clause-ran
returns-in_err-flush-in-Ok-clause-ran g c =
    let p = err_from_is_err_and c.from_residual.result c.from_residual.ensures.1 in
    let s = c.requires.starts in
    rw p.1 (machine_held g.S.Store.out g.S.Store.stock g.S.Store.refuses s.1 s.0 s.2 c.args.steps (omega arith) c.args.machine.now c.run.new.self
    (left_in g.R.Input.remaining c.args.reader.now) (left_in g.R.Input.remaining c.run.new.reader) (held_by g.W.Output.contents c.args.writer.now) (held_by g.W.Output.contents c.run.new.writer) (held_by g.W.Output.contents c.flush.new.writer)
    s.3 c.run.ensures.moves c.run.ensures.used c.run.ensures.within c.run.ensures.lacks c.flush.ensures.kept p.0 (p.2 ∙ c.in_err-flush-in-Ok.ensures.fault) c.in-Ok.stop (sym c.in-Ok.ensures.answer))

pub returns-in_ok-flush-in-Ok-clause-ran : goal.returns-in_ok-flush-in-Ok-clause-ran
returns-in_ok-flush-in-Ok-clause-ran g c =
    let s = c.requires.starts in
    machine_stopped g.S.Store.out g.S.Store.stock g.S.Store.refuses s.1 s.0 s.2 c.args.steps (omega arith) c.args.machine.now c.run.new.self
    (left_in g.R.Input.remaining c.args.reader.now) (left_in g.R.Input.remaining c.run.new.reader) (held_by g.W.Output.contents c.args.writer.now) (held_by g.W.Output.contents c.run.new.writer) (held_by g.W.Output.contents c.flush.new.writer)
    s.3 c.run.ensures.moves c.run.ensures.used c.run.ensures.within c.run.ensures.lacks c.flush.ensures.kept c.in-Ok.stop (sym c.in-Ok.ensures.answer)

pub returns-in-Err-Read-clause-ran : goal.returns-in-Err-Read-clause-ran
returns-in-Err-Read-clause-ran g c =
    let s = c.requires.starts in
    machine_unread g.S.Store.out g.S.Store.stock g.S.Store.refuses s.1 s.0 s.2 c.args.steps (omega arith) c.args.machine.now c.run.new.self
    (left_in g.R.Input.remaining c.args.reader.now) (left_in g.R.Input.remaining c.run.new.reader) (held_by g.W.Output.contents c.args.writer.now) (held_by g.W.Output.contents c.run.new.writer) (held_by g.W.Output.contents c.flush-in-Err-Read.new.writer)
    s.3 c.run.ensures.moves c.run.ensures.used c.run.ensures.within c.run.ensures.lacks c.flush-in-Err-Read.ensures.kept (search rules)

pub returns-in-Err-Write-clause-ran : goal.returns-in-Err-Write-clause-ran
returns-in-Err-Write-clause-ran g c =
    let s = c.requires.starts in
    machine_broken g.S.Store.out g.S.Store.stock g.S.Store.refuses s.1 s.0 s.2 c.args.steps (omega arith) c.args.machine.now c.run.new.self
    (left_in g.R.Input.remaining c.args.reader.now) (left_in g.R.Input.remaining c.run.new.reader) (held_by g.W.Output.contents c.args.writer.now) (held_by g.W.Output.contents c.run.new.writer) (held_by g.W.Output.contents c.run.new.writer)
    s.3 c.run.ensures.moves c.run.ensures.used c.run.ensures.within c.run.ensures.lacks (Keeps-refl (held_by g.W.Output.contents c.run.new.writer)) (search rules)

pub returns-in_err-flush-in-Ok-clause-passed_on : goal.returns-in_err-flush-in-Ok-clause-passed_on
returns-in_err-flush-in-Ok-clause-passed_on g c =
    let p = err_from_is_err_and c.from_residual.result c.from_residual.ensures.1 in
    rw p.1 (write_prints _ _ p.0 (p.2 ∙ c.in_err-flush-in-Ok.ensures.fault))

pub returns-in-Err-Read-clause-passed_on : goal.returns-in-Err-Read-clause-passed_on
returns-in-Err-Read-clause-passed_on g c = passed_or_failed c.flush-in-Err-Read.result _ _ c.flush-in-Err-Read.ensures.passed_on c.flush-in-Err-Read.ensures.failed
