use Rattle.arc_code.specs.Attempts.{HasFailedToWrite, HasPassedOn}
use Rattle.arc_code.specs.CountedDevices.{failures_of, inner_of, held_by}
use Rattle.arc_tool.specs.Status.{line_of}
use Rattle.arc_tool.proofs.FlushAfterText.{and_flushed}
use Rattle.arc_tool.proofs.serve.report.Goals as goal

pub returns-in-Ok : goal.returns-in-Ok
returns-in-Ok g c =
    let held = held_by g.E.Output.contents in
    let failed = HasFailedToWrite g.E.Output.writes g.E.Output.flushes (inner_of c.flush.new.writer) in
    let passed = HasPassedOn g.E.Output.flushes (inner_of c.flush.new.writer) in
    let all = and_flushed c.flush.result (line_of c.args.trouble.now) (held c.args.errors.now) (held c.print_trouble.new.errors) (held c.flush.new.writer)
    (failures_of c.args.errors.now) (failures_of c.print_trouble.new.errors) (failures_of c.flush.new.writer) passed failed c.in-Ok.ensures c.flush.ensures.kept c.flush.ensures.fine c.flush.ensures.cause c.flush.ensures.failed c.flush.ensures.passed_on in
    (c.status.ensures, all)
