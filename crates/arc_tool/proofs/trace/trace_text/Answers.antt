use Rattle.std.proofs.Common.{map, sym, subst, ap}
use Rattle.std.proofs.lemmas.Result.{err_from_is_err_and}
use Rattle.arc_code.specs.CodeSteps.{Program}
use Rattle.arc_tool.specs.CompiledCode.{CompilesNamed, bytes_of_name}
use Rattle.arc_tool.proofs.OutputAfterFailure.{refused_passes, write_passes}
use Rattle.arc_tool.proofs.TraceMeaning.{was_interrupted, interrupted_blamed, ended, blamed, run_untouched, no_trace}
use Rattle.arc_tool.proofs.trace.trace_text.Goals as goal

pub returns-in_err-named-clause-answered : goal.returns-in_err-named-clause-answered
returns-in_err-named-clause-answered g c =
    let p = err_from_is_err_and c.from_residual.result c.from_residual.ensures.1 in
    rw p.1 (no_trace c.args.source.now c.args.steps _ _ _ _ _ _ _ c.in_err-named.field-0.0 p.0 c.in_err-named.ensures.refused p.2)

pub returns-in_err-left-clause-answered : goal.returns-in_err-left-clause-answered
returns-in_err-left-clause-answered g c =
    let p = err_from_is_err_and c.from_residual-in_err-left.result c.from_residual-in_err-left.ensures.1 in
    let names = map bytes_of_name c.in_ok-named.named.classes.items in
    let compiled = subst (λ (q : Program). CompilesNamed c.args.source.now q names) (sym (ap (λ m. m.program) c.in_ok-machine.ensures)) c.in_ok-named.ensures.compiled in
    let run = rw c.deref.ensures.value at c.in_err-left.ensures.interrupted in
    rw (p.1, p.2) (was_interrupted c.args.source.now c.in_ok-machine.machine.program names compiled c.args.steps _ _ _ _ _ _ _ c.in_err-left.field-0.0 run)

pub returns-in_err-left-clause-caused : goal.returns-in_err-left-clause-caused
returns-in_err-left-clause-caused g c =
    let p = err_from_is_err_and c.from_residual-in_err-left.result c.from_residual-in_err-left.ensures.1 in
    let names = map bytes_of_name c.in_ok-named.named.classes.items in
    let compiled = subst (λ (q : Program). CompilesNamed c.args.source.now q names) (sym (ap (λ m. m.program) c.in_ok-machine.ensures)) c.in_ok-named.ensures.compiled in
    let run = rw c.deref.ensures.value at c.in_err-left.ensures.interrupted in
    rw (p.1, p.2) (interrupted_blamed c.args.source.now c.in_ok-machine.machine.program names compiled c.args.steps _ _ _ _ _ _ _ c.in_err-left.field-0.0 _ _ _ c.in_err-left.ensures.reads run)

pub returns-clause-answered : goal.returns-clause-answered
returns-clause-answered g c =
    let names = map bytes_of_name c.in_ok-named.named.classes.items in
    let compiled = subst (λ (q : Program). CompilesNamed c.args.source.now q names) (sym (ap (λ m. m.program) c.in_ok-machine.ensures)) c.in_ok-named.ensures.compiled in
    let run = rw c.deref.ensures.value at c.in_ok-left.ensures.followed in
    ended c.args.source.now c.in_ok-machine.machine.program names compiled c.args.steps _ _ c.in_ok-left.begun _ _ _ _ _ _ _ _ _ _ c.in_ok-left.left c.end_trace.result run c.end_trace.ensures.ends

pub returns-clause-untouched : goal.returns-clause-untouched
returns-clause-untouched g c = run_untouched c.in_ok-left.left c.in_ok-left.begun c.end_trace.result _ _ _ _ _ _ _ _ _ c.end_trace.ensures.ends

pub returns-clause-caused : goal.returns-clause-caused
returns-clause-caused g c =
    let names = map bytes_of_name c.in_ok-named.named.classes.items in
    let compiled = subst (λ (q : Program). CompilesNamed c.args.source.now q names) (sym (ap (λ m. m.program) c.in_ok-machine.ensures)) c.in_ok-named.ensures.compiled in
    let run = rw c.deref.ensures.value at c.in_ok-left.ensures.followed in
    blamed c.args.source.now c.in_ok-machine.machine.program names compiled c.args.steps _ _ c.in_ok-left.begun _ _ _ _ _ _ _ _ _ _ c.in_ok-left.left c.end_trace.result run c.end_trace.ensures.ends

pub returns-in_err-named-clause-passed_on : goal.returns-in_err-named-clause-passed_on
returns-in_err-named-clause-passed_on g c =
    let p = err_from_is_err_and c.from_residual.result c.from_residual.ensures.1 in
    rw p.1 (refused_passes _ _ c.in_err-named.field-0.0 p.0 p.2)

pub returns-in_err-left-clause-passed_on : goal.returns-in_err-left-clause-passed_on
returns-in_err-left-clause-passed_on g c =
    let p = err_from_is_err_and c.from_residual-in_err-left.result c.from_residual-in_err-left.ensures.1 in
    rw (p.1, p.2) (write_passes _ _ c.in_err-left.field-0.0 c.in_err-left.ensures.interrupted.part.0)
