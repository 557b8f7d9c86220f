use Rattle.std.proofs.Common.{length, ap, sym, ◌∙◌}
use Rattle.std.proofs.lemmas.List.{length-map}
use Rattle.std.proofs.lemmas.Result.{err_from_is_err_and}
use Rattle.arc_ast.specs.Tree.{unit_tree}
use Rattle.arc_checked.specs.Checked.{program_of}
use Rattle.arc_lower.specs.PlainActions.{plain_action}
use Rattle.arc_lower.specs.Lowered.{lowered}
use Rattle.arc_tool.specs.RefusalStages.{in_owning, no_memory}
use Rattle.arc_tool.proofs.StagesCompose.{accepted, small_enough, too_long}
use Rattle.arc_tool.proofs.accept.accept_program.Goals as goal

pub returns-in_err-owned-clause-refused : goal.returns-in_err-owned-clause-refused
returns-in_err-owned-clause-refused c =
    let p = err_from_is_err_and c.from_residual.result c.from_residual.ensures.1 in
    rw p.1 (λ source of. in_owning c.in_err-owned.field-0.0 (unit_tree c.args.program.now.unit.now) of.spelled
    of.declared of.checked c.in_err-owned.ensures.refused p.2)

pub returns-in_err-actions-clause-refused : goal.returns-in_err-actions-clause-refused
returns-in_err-actions-clause-refused c =
    let p = err_from_is_err_and c.from_residual-in_err-actions.result c.from_residual-in_err-actions.ensures.1 in
    rw p.1 (λ source of. no_memory (accepted source c.args.program.now of c.in_ok-owned.ensures.accepted) p.2)

pub returns-in_err-fits-clause-refused : goal.returns-in_err-fits-clause-refused
returns-in_err-fits-clause-refused c =
    let p = err_from_is_err_and c.from_residual-in_err-fits.result c.from_residual-in_err-fits.ensures.1 in
    rw p.1 (λ source of.
    let program = accepted source c.args.program.now of c.in_ok-owned.ensures.accepted in
    let listed = c.in_ok-actions.ensures ∙ ap lowered (ap program_of c.in_ok-owned.ensures.same ∙ of.resolved) in
    let count = c.len-count.ensures ∙ c.in_ok-actions.actions.ok.0 ∙ sym (length-map c.in_ok-actions.actions.items plain_action) ∙ ap length listed in
    too_long source program c.len-count.result count c.in_err-fits.field-0.0 p.0 c.in_err-fits.ensures.large p.2)

pub returns-clause-accepted : goal.returns-clause-accepted
returns-clause-accepted c = λ source of.
    let program = accepted source c.args.program.now of c.in_ok-owned.ensures.accepted in
    let listed = c.in_ok-actions.ensures ∙ ap lowered (ap program_of c.in_ok-owned.ensures.same ∙ of.resolved) in
    let count = c.len-count.ensures ∙ c.in_ok-actions.actions.ok.0 ∙ sym (length-map c.in_ok-actions.actions.items plain_action) ∙ ap length listed in
    small_enough source program c.len-count.result count c.in_ok-fits.ensures.few
