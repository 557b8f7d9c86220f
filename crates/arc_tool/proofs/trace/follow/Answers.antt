use Rattle.std.proofs.Common.{◌≡◌, ◌+◌, ◌<◌, ⊎_elim, map, Ok, Err, refl, sym, ap, ◌∙◌, arith, rules}
use Rattle.std.proofs.lemmas.Result.{err_from_is_err_and}
use Rattle.arc_code.specs.CountedDevices.{inner_of}
use Rattle.arc_code.specs.declared.code.IoFault.TheVariants.{Read, Write}
use Rattle.arc_machine.specs.declared.stop.Stop.TheVariants as stop
use Rattle.arc_machine.specs.RunAnswer.{said}
use Rattle.arc_tool.specs.CompiledCode.{bytes_of_name}
use Rattle.arc_tool.proofs.StepwiseRuns.{left_of, left_stopped, left_unread, going_on, no_room, unread, reader_kept, reader_stays, reader_failed, writer_failed, never_fails, within_stop}
use Rattle.arc_tool.proofs.StepEventsWritten.{shows_fresh, one_step, was_made, shows_on, shows_part, is_left}
use Rattle.arc_tool.proofs.trace.follow.Goals as goal

pub loop-init : goal.loop-init
loop-init g c =
    let s = c.requires.starts in
    let f = shows_fresh g.S.Store.out s.0 (map bytes_of_name c.args.classes.now) s.1 c.args.machine.now _ _ _ s.3 s.2 in
    (f.0, f.1, refl, f.2)

pub returns-in_err-begun-clause-interrupted : goal.returns-in_err-begun-clause-interrupted
returns-in_err-begun-clause-interrupted g c =
    let p = err_from_is_err_and c.from_residual.result c.from_residual.ensures.1 in
    let i = c.loop.invariant in
    let ran = c.run-answer.ensures.moves i.1 in
    let held = c.run-answer.ensures.within i.1 in
    let more = rw c.steps_done-before.ensures at c.in_err-begun.ensures.made in
    let part = rw c.steps_done-before.ensures at c.in_err-begun.ensures.broken in
    rw (p.1, p.2)
    (shows_part g.S.Store.out c.args.machine.now.program _ c.loop.machine c.run-answer.new.self _ _ _ _ _ _ _ _ i.3 i.1 ran held _ _ _ _ c.args.steps more (omega (arith, i.0)) (λ no. (c.run-answer.ensures.lacks i.1 no).op) part)

pub returns-in_err-begun-clause-reads : goal.returns-in_err-begun-clause-reads
returns-in_err-begun-clause-reads g c =
    let p = err_from_is_err_and c.from_residual.result c.from_residual.ensures.1 in
    let i = c.loop.invariant in
    let more = rw c.steps_done-before.ensures at c.in_err-begun.ensures.made in
    let on = was_made g.S.Store.out c.args.machine.now.program _ c.loop.machine c.run-answer.new.self _ _ _ _ _ _ _ _ i.3 i.1 (c.run-answer.ensures.moves i.1) (c.run-answer.ensures.within i.1) more in
    rw p.1 (reader_stays _ _ _ _ _ _ _ on (c.run-answer.ensures.cause i.1) ∙ i.2)

pub returns-then-ne-clause-followed : goal.returns-then-ne-clause-followed
returns-then-ne-clause-followed g c =
    let i = c.loop.invariant in
    let ran = c.run-answer.ensures.moves i.1 in
    let held = c.run-answer.ensures.within i.1 in
    let most = one_step g.S.Store.out c.args.machine.now.program _ c.loop.machine c.run-answer.new.self _ _ _ _ _ _ _ _ i.3 i.1 ran held in
    let written = rw c.steps_done-before.ensures at c.in_ok-begun.ensures.shown in
    let opens = rw c.steps_done-before.ensures at c.in_ok-begun.ensures.opens in
    let way = shows_on g.S.Store.out c.args.machine.now.program _ c.loop.machine c.run-answer.new.self _ _ _ _ _ _ _ _ i.3 i.1 ran held _ _ c.in_ok-begun.begun written opens in
    let said_so = sym c.run-answer.ensures.answer ∙ c.in-Ok.is in
    let reads = reader_kept _ _ _ _ _ _ _ _ said_so (c.run-answer.ensures.cause i.1) ∙ i.2 in
    let other : c.in-Ok.stop ≡ stop.StepsUsed → ⊥ = search rules in
    let within = within_stop c.in-Ok.stop c.run-answer.new.self.answer c.run-answer.new.self.steps c.args.steps said_so other (omega (arith, most, i.0)) (λ no. omega (arith, held no, i.0)) in
    is_left g.S.Store.out c.args.machine.now.program _ c.run-answer.new.self _ _ _ _ _ _ _ way c.args.steps _ _ _ _ (left_stopped _ _ said_so) (λ no. (c.run-answer.ensures.lacks i.1 no).op) within reads

pub returns-then-ne-clause-lacks : goal.returns-then-ne-clause-lacks
returns-then-ne-clause-lacks g c = λ is.
    let said_so = sym c.run-answer.ensures.answer ∙ c.in-Ok.is in
    let none : c.in-Ok.stop ≡ stop.NoHeap = cc in
    c.run-answer.ensures.lacks c.loop.invariant.1 (no_room _ (said_so ∙ ap Ok none))

pub returns-in-Err-Read-clause-followed : goal.returns-in-Err-Read-clause-followed
returns-in-Err-Read-clause-followed g c =
    let i = c.loop.invariant in
    let ran = c.run-answer.ensures.moves i.1 in
    let held = c.run-answer.ensures.within i.1 in
    let written = rw c.steps_done-before.ensures at c.in_ok-begun.ensures.shown in
    let opens = rw c.steps_done-before.ensures at c.in_ok-begun.ensures.opens in
    let way = shows_on g.S.Store.out c.args.machine.now.program _ c.loop.machine c.run-answer.new.self _ _ _ _ _ _ _ _ i.3 i.1 ran held _ _ c.in_ok-begun.begun written opens in
    let said_so : said c.run-answer.new.self.answer ≡ Err Read = search rules in
    let failed = reader_failed _ _ _ _ _ _ _ said_so (c.run-answer.ensures.cause i.1) in
    let fewer : c.run-answer.new.self.steps < c.args.steps = omega (arith, held (unread _ said_so), i.0) in
    is_left g.S.Store.out c.args.machine.now.program _ c.run-answer.new.self _ _ _ _ _ _ _ way c.args.steps _ _ _ _ (left_unread _ said_so) (λ no. (c.run-answer.ensures.lacks i.1 no).op) fewer
    (failed.0 ∙ ap (λ n. n + 1) i.2, failed.1)

pub unreachable-requires : goal.unreachable-requires
unreachable-requires g c =
    let i = c.loop.invariant in
    let said_so : said c.run-answer.new.self.answer ≡ Err Write = search rules in
    never_fails (inner_of c.run-answer.new.writer) (writer_failed _ _ _ _ _ _ _ said_so (c.run-answer.ensures.cause i.1))

pub loop-preserved : goal.loop-preserved
loop-preserved g c =
    let i = c.loop.invariant in
    let ran = c.run-answer.ensures.moves i.1 in
    let held = c.run-answer.ensures.within i.1 in
    let most = one_step g.S.Store.out c.args.machine.now.program _ c.loop.machine c.run-answer.new.self _ _ _ _ _ _ _ _ i.3 i.1 ran held in
    let written = rw c.steps_done-before.ensures at c.in_ok-begun.ensures.shown in
    let opens = rw c.steps_done-before.ensures at c.in_ok-begun.ensures.opens in
    let way = shows_on g.S.Store.out c.args.machine.now.program _ c.loop.machine c.run-answer.new.self _ _ _ _ _ _ _ _ i.3 i.1 ran held _ _ c.in_ok-begun.begun written opens in
    let said_so : said c.run-answer.new.self.answer ≡ Ok stop.StepsUsed = search rules in
    let reads = reader_kept _ _ _ _ _ _ _ _ said_so (c.run-answer.ensures.cause i.1) ∙ i.2 in
    let going = going_on _ said_so in
    let made : c.run-answer.new.self.steps ≡ c.loop.counter + 1 = ⊎_elim (λ e. omega (arith, e, i.0)) (λ e. omega (arith, e, i.0, most)) (c.run-answer.ensures.used going) in
    (made, going, reads, way)

pub returns-clause-followed : goal.returns-clause-followed
returns-clause-followed g c =
    let i = c.loop.invariant in
    is_left g.S.Store.out c.args.machine.now.program _ c.loop.machine c.loop.begun _ _ _ _ _ _ i.3 c.args.steps _ _ _ _ (ap left_of i.1) (λ full. absurd (let no = sym i.1 ∙ full in cc)) (omega arith) i.2
