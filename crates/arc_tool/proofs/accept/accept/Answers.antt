use Rattle.std.proofs.lemmas.Result.{err_from_is_err_and}
use Rattle.arc_lex.specs.Tokens.{toks}
use Rattle.arc_tool.specs.RefusalStages.{in_lexing, in_parsing}
use Rattle.arc_tool.proofs.StagesCompose.{passed}
use Rattle.arc_tool.proofs.accept.accept.Goals as goal

pub returns-in_err-tokens-clause-refused : goal.returns-in_err-tokens-clause-refused
returns-in_err-tokens-clause-refused c =
    let p = err_from_is_err_and c.from_residual.result c.from_residual.ensures.1 in
    rw p.1 (in_lexing c.in_err-tokens.field-0.0 c.in_err-tokens.ensures.fault p.2)

pub returns-in_err-unit-clause-refused : goal.returns-in_err-unit-clause-refused
returns-in_err-unit-clause-refused c =
    let p = err_from_is_err_and c.from_residual-in_err-unit.result c.from_residual-in_err-unit.ensures.1 in
    let cut = passed c.args.source.now c.in_ok-tokens.tokens.items c.deref.result.now c.deref.ensures.value c.in_ok-tokens.ensures.tokens in
    rw p.1 (in_parsing c.in_err-unit.field-0.0 (toks c.deref.result.now) cut c.in_err-unit.ensures.refused c.in_err-unit.ensures.reported p.2)

pub returns-clause-accepted : goal.returns-clause-accepted
returns-clause-accepted c =
    let cut = passed c.args.source.now c.in_ok-tokens.tokens.items c.deref.result.now c.deref.ensures.value c.in_ok-tokens.ensures.tokens in
    c.accept_tree-answer.ensures.accepted c.args.source.now (record { tokens = toks c.deref.result.now; cut = cut; spelled = c.in_ok-unit.ensures.within })

pub returns-clause-refused : goal.returns-clause-refused
returns-clause-refused c =
    let cut = passed c.args.source.now c.in_ok-tokens.tokens.items c.deref.result.now c.deref.ensures.value c.in_ok-tokens.ensures.tokens in
    c.accept_tree-answer.ensures.refused c.args.source.now (record { tokens = toks c.deref.result.now; cut = cut; spelled = c.in_ok-unit.ensures.within })
