use Rattle.std.proofs.Common.{inl, refl}
use Rattle.arc_code.proofs.WritesCompose.{front_part}
use Rattle.arc_tool.proofs.report.put.Goals as goal

pub returns-in-Err : goal.returns-in-Err
returns-in-Err g c =
    let e = c.in-Err.ensures in
    let (between, took, fails) = e.failed in
    (refl, front_part _ _ _ _ e.within e.err, e.cause, inl (between, _, fails))
