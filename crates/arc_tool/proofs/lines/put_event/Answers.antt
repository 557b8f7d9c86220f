use Rattle.std.proofs.Common.{map}
use Rattle.std.proofs.lemmas.Result.{err_from_is_err_and}
use Rattle.arc_code.proofs.WritesCompose.{wider, then_written}
use Rattle.arc_tool.specs.CompiledCode.{bytes_of_name}
use Rattle.arc_tool.specs.TraceLines.{dealloc_line, closing}
use Rattle.arc_tool.proofs.lines.put_event.Goals as goal

pub returns-in_err-close-in-Dealloc : goal.returns-in_err-close-in-Dealloc
returns-in_err-close-in-Dealloc g c =
    let p = err_from_is_err_and c.from_residual.result c.from_residual.ensures.1 in
    rw (p.1, p.2, c.in-Dealloc.is) (wider _ _ _ _ _ _ (closing c.args.begun) (dealloc_line (map bytes_of_name c.args.classes.now) c.in-Dealloc.object c.in-Dealloc.class) c.in_err-close-in-Dealloc.ensures)

pub returns-in_ok-close-in-Dealloc : goal.returns-in_ok-close-in-Dealloc
returns-in_ok-close-in-Dealloc g c = rw c.in-Dealloc.is (then_written _ _ _ _ _ _ _ _ (closing c.args.begun) (dealloc_line (map bytes_of_name c.args.classes.now) c.in-Dealloc.object c.in-Dealloc.class) c.in_ok-close-in-Dealloc.ensures c.put_dealloc.ensures)
