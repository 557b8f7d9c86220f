use Rattle.std.proofs.Common.{sym, subst}
use Rattle.std.proofs.lemmas.Result.{err_from_is_err_and}
use Rattle.arc_code.specs.CodeSteps.{program_of}
use Rattle.arc_tool.specs.CompiledCode.{CompilesNamed}
use Rattle.arc_tool.specs.RefusalStages.{no_memory}
use Rattle.arc_tool.proofs.compile.compile_named.Goals as goal

pub returns-clause-compiled : goal.returns-clause-compiled
returns-clause-compiled c =
    subst (λ names. CompilesNamed c.args.source.now (program_of c.in_ok-code.code) names) (sym c.in_ok-classes.ensures)
    (c.in_ok-code.ensures.compiled c.args.source.now c.in_ok-unit.ensures.read)

pub returns-in_err-classes-clause-refused : goal.returns-in_err-classes-clause-refused
returns-in_err-classes-clause-refused c =
    let p = err_from_is_err_and c.from_residual-in_err-classes.result c.from_residual-in_err-classes.ensures.1 in
    rw p.1 (no_memory (c.in_ok-code.ensures.compiled c.args.source.now c.in_ok-unit.ensures.read).compiled.program p.2)
