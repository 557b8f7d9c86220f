use Rattle.std.proofs.Common.{◌≡◌, inl, sym, ap, subst, ◌∙◌}
use Rattle.arc_lex.specs.Tokens.{toks}
use Rattle.arc_ast.specs.Tree.{UnitTree}
use Rattle.arc_form.proofs.FormWhole.{whole_spelled, whole_alone, whole_accepted}
use Rattle.arc_grammar.specs.Grammar.{body, unit, these}
use Rattle.arc_grammar.proofs.Fits.{facts, sure, sure_unit}
use Rattle.arc_parse.specs.Refusal.{FitsNoneAt, TooDeepAt, place_of}
use Rattle.arc_parse.proofs.Unit.{within, refused, too_deep_at, passes, not_misfit, same_place}
use Rattle.arc_fault.specs.declared.parse.ParseFault.TheVariants as faults
use Rattle.arc_parse.proofs.parse.parse.Goals as goal

pub returns-in-Ok-clause-spelled : goal.returns-in-Ok-clause-spelled
returns-in-Ok-clause-spelled c = whole_spelled facts body sure UnitTree unit sure_unit these _ _ _ c.in-Ok.ensures.gives

pub returns-in-Ok-clause-within : goal.returns-in-Ok-clause-within
returns-in-Ok-clause-within c = within _ _ _ c.in-Ok.ensures.gives

pub returns-in-Ok-clause-alone : goal.returns-in-Ok-clause-alone
returns-in-Ok-clause-alone c = λ other h. whole_alone facts body sure UnitTree unit sure_unit these _ _ other _ c.in-Ok.ensures.gives h

pub returns-in-Ok-clause-kept : goal.returns-in-Ok-clause-kept
returns-in-Ok-clause-kept c = λ before rest e x. cc (passes _ before rest e x, c.in-Ok.ensures.gives)

pub returns-in-Err-Unexpected-clause-refused : goal.returns-in-Err-Unexpected-clause-refused
returns-in-Err-Unexpected-clause-refused c = subst (FitsNoneAt (toks c.args.tokens.now)) (sym c.place_of.ensures) (refused _ (toks c.unit.new.reader.rest.now) (rw c.in-Err-Unexpected.field-0-is at c.in-Err-Unexpected.ensures.gives))

pub returns-in-Err-Unexpected-clause-accepted : goal.returns-in-Err-Unexpected-clause-accepted
returns-in-Err-Unexpected-clause-accepted c = λ u h. absurd (whole_accepted facts body sure UnitTree unit sure_unit these _ u _ (rw c.in-Err-Unexpected.field-0-is at c.in-Err-Unexpected.ensures.gives) h)

pub returns-in-Err-Unexpected-clause-reported : goal.returns-in-Err-Unexpected-clause-reported
returns-in-Err-Unexpected-clause-reported c = λ before rest e x. absurd (not_misfit _ _ before rest (rw c.in-Err-Unexpected.field-0-is at c.in-Err-Unexpected.ensures.gives) e x)

pub returns-in-Err-TooDeep-clause-refused : goal.returns-in-Err-TooDeep-clause-refused
returns-in-Err-TooDeep-clause-refused c = subst (TooDeepAt (toks c.args.tokens.now)) (sym c.place_of-in-Err-TooDeep.ensures) (too_deep_at _ (toks c.unit.new.reader.rest.now) (rw c.in-Err-TooDeep.field-0-is at c.in-Err-TooDeep.ensures.gives))

pub returns-in-Err-TooDeep-clause-accepted : goal.returns-in-Err-TooDeep-clause-accepted
returns-in-Err-TooDeep-clause-accepted c = λ u h. absurd (whole_accepted facts body sure UnitTree unit sure_unit these _ u _ (rw c.in-Err-TooDeep.field-0-is at c.in-Err-TooDeep.ensures.gives) h)

pub returns-in-Err-TooDeep-clause-reported : goal.returns-in-Err-TooDeep-clause-reported
returns-in-Err-TooDeep-clause-reported c = λ before rest e x.
    let same : toks c.unit.new.reader.rest.now ≡ rest = same_place (toks c.args.tokens.now) _ before rest (rw c.in-Err-TooDeep.field-0-is at c.in-Err-TooDeep.ensures.gives) e x in
    inl (ap faults.TooDeep (c.place_of-in-Err-TooDeep.ensures ∙ ap (place_of (toks c.args.tokens.now)) same))
