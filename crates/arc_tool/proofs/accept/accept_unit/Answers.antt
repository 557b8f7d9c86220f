use Rattle.std.proofs.lemmas.Result.{err_from_is_err_and}
use Rattle.arc_ast.specs.Tree.{unit_tree}
use Rattle.arc_tool.specs.RefusalStages.{in_checking}
use Rattle.arc_tool.proofs.StagesCompose.{checked}
use Rattle.arc_tool.proofs.accept.accept_unit.Goals as goal

pub returns-clause-accepted : goal.returns-clause-accepted
returns-clause-accepted c = λ source s. c.accept_program-answer.ensures.accepted source (checked source c.args.unit.now c.in_ok-program.program s c.requires.unbroken
    c.in_ok-program.ensures.unbroken c.in_ok-program.ensures.resolved c.in_ok-program.ensures.source)

pub returns-clause-refused : goal.returns-clause-refused
returns-clause-refused c = λ source s. c.accept_program-answer.ensures.refused source (checked source c.args.unit.now c.in_ok-program.program s c.requires.unbroken
    c.in_ok-program.ensures.unbroken c.in_ok-program.ensures.resolved c.in_ok-program.ensures.source)

pub returns-in_err-program-clause-refused : goal.returns-in_err-program-clause-refused
returns-in_err-program-clause-refused c =
    let p = err_from_is_err_and c.from_residual.result c.from_residual.ensures.1 in
    rw p.1 (λ source s. in_checking c.in_err-program.field-0.0 (unit_tree c.args.unit.now) s
    c.requires.unbroken c.in_err-program.ensures.refused p.2)
