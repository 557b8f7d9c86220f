use Rattle.std.proofs.Common.{subst, IfOk}
use Rattle.std.proofs.lemmas.Result.{err_from_is_err_and}
use Rattle.arc_ast.specs.Tree.{unit_tree}
use Rattle.arc_code.specs.CodeSteps.{program_of}
use Rattle.arc_tool.specs.CompiledCode.{CompilesNamed, class_names}
use Rattle.arc_tool.specs.RefusalStages.{in_checking}
use Rattle.arc_tool.proofs.StagesCompose.{checked}
use Rattle.arc_tool.proofs.compile.translate_unit.Goals as goal

pub returns-in_err-program-clause-refused : goal.returns-in_err-program-clause-refused
returns-in_err-program-clause-refused c =
    let p = err_from_is_err_and c.from_residual.result c.from_residual.ensures.1 in
    rw p.1 (λ source s. in_checking c.in_err-program.field-0.0 (unit_tree c.args.unit.now) s
    c.requires.unbroken c.in_err-program.ensures.refused p.2)

pub returns-clause-compiled : goal.returns-clause-compiled
returns-clause-compiled c = λ source s.
    subst (λ u. IfOk c.translate_program.result (λ code. CompilesNamed source (program_of code) (class_names (unit_tree u)))) c.in_ok-program.ensures.source
    (c.translate_program.ensures.compiled source (checked source c.args.unit.now c.in_ok-program.program s c.requires.unbroken
    c.in_ok-program.ensures.unbroken c.in_ok-program.ensures.resolved c.in_ok-program.ensures.source))

pub returns-clause-refused : goal.returns-clause-refused
returns-clause-refused c = λ source s. c.translate_program.ensures.refused source (checked source c.args.unit.now c.in_ok-program.program s c.requires.unbroken
    c.in_ok-program.ensures.unbroken c.in_ok-program.ensures.resolved c.in_ok-program.ensures.source)
