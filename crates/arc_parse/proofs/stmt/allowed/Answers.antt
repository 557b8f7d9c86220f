use Rattle.std.proofs.Common.{◌≡◌, List, [], ◌∷◌, None, Some, Err, refl, sym, ap, ◌∙◌}
use Rattle.std.specs.List.{slice_get}
use Rattle.std.specs.Option.{option_copied}
use Rattle.arc_lex.specs.declared.token.Token.{Token}
use Rattle.arc_lex.specs.Tokens.{toks}
use Rattle.arc_form.specs.Reader.{misfit, too_deep, past}
use Rattle.arc_form.proofs.Local.{allowed_past}
use Rattle.arc_grammar.specs.declared.limits.TheConstants.{DEEPEST}
use Rattle.arc_parse.proofs.stmt.allowed.Goals as goal

-- src/stmt.rt:162:1
pub returns-in-None-clause-gives : goal.returns-in-None-clause-gives
returns-in-None-clause-gives c =
    allowed_past DEEPEST c.args.depth (toks c.args.reader.now.rest.now) c.if-depth-gt-DEEPEST.true ∙ go c.args.reader.now.rest.now (sym c.first.ensures.value ∙ ap option_copied c.in-None.is)
  where
    go : (l : List Token) → slice_get l 0 ≡ None → past {A = Unit {0}} (toks l) ≡ Err (misfit, toks l)
    go [] e = refl
    go (t ∷ l) e = cc

-- src/stmt.rt:162:1
pub returns-in-Some-clause-gives : goal.returns-in-Some-clause-gives
returns-in-Some-clause-gives c =
    allowed_past DEEPEST c.args.depth (toks c.args.reader.now.rest.now) c.if-depth-gt-DEEPEST.true ∙ go c.args.reader.now.rest.now (sym c.first.ensures.value ∙ ap option_copied c.in-Some.is)
  where
    go : {t : Token} (l : List Token) → slice_get l 0 ≡ Some t → past {A = Unit {0}} (toks l) ≡ Err (too_deep, toks l)
    go [] e = cc
    go (u ∷ l) e = refl
