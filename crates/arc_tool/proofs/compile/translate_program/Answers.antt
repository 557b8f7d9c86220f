use Rattle.std.proofs.Common.{Err, ap}
use Rattle.std.proofs.lemmas.Result.{err_from_is_err_and}
use Rattle.arc_ast.specs.Tree.{unit_tree}
use Rattle.arc_ir.specs.ActionSteps as acting
use Rattle.arc_code.specs.CodeSteps.{program_of}
use Rattle.arc_tool.specs.RefusalStages.{in_owning, no_memory}
use Rattle.arc_tool.proofs.StagesCompose.{accepted, compiled_named, not_emitted}
use Rattle.arc_tool.proofs.compile.translate_program.Goals as goal

pub returns-in_err-owned-clause-refused : goal.returns-in_err-owned-clause-refused
returns-in_err-owned-clause-refused c =
    let p = err_from_is_err_and c.from_residual.result c.from_residual.ensures.1 in
    rw p.1 (λ source of. in_owning c.in_err-owned.field-0.0 (unit_tree c.args.program.now.unit.now) of.spelled
    of.declared of.checked c.in_err-owned.ensures.refused p.2)

pub returns-in_err-actions-clause-refused : goal.returns-in_err-actions-clause-refused
returns-in_err-actions-clause-refused c =
    let p = err_from_is_err_and c.from_residual-in_err-actions.result c.from_residual-in_err-actions.ensures.1 in
    rw p.1 (λ source of. no_memory (accepted source c.args.program.now of c.in_ok-owned.ensures.accepted) p.2)

pub returns-in_err-emitted-clause-refused : goal.returns-in_err-emitted-clause-refused
returns-in_err-emitted-clause-refused c =
    let p = err_from_is_err_and c.from_residual-in_err-emitted.result c.from_residual-in_err-emitted.ensures.1 in
    rw p.1 (λ source of. not_emitted source c.args.program.now of c.in_ok-owned.ensures.accepted
    c.in_ok-owned.owned.program.now (acting.program_of c.in_ok-actions.actions)
    c.in_ok-owned.ensures.same c.in_ok-actions.ensures.performs c.in_ok-actions.ensures.exact c.in_err-emitted.field-0.0 p.0 (λ e. c.in_err-emitted.ensures.large (ap Err e)) p.2)

pub returns-clause-compiled : goal.returns-clause-compiled
returns-clause-compiled c = λ source of.
    compiled_named source c.args.program.now of c.in_ok-owned.ensures.accepted
    c.in_ok-owned.owned.program.now (acting.program_of c.in_ok-actions.actions)
    c.in_ok-owned.ensures.same c.in_ok-actions.ensures.performs c.in_ok-actions.ensures.exact (program_of c.in_ok-emitted.field-0) c.in_ok-emitted.ensures.code c.in_ok-emitted.ensures.few_instrs c.in_ok-emitted.ensures.sound c.in_ok-emitted.ensures.refines c.in_ok-emitted.ensures.steady
