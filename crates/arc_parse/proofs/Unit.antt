-- What is read of all tokens: where they are refused, and that a limit which is passed is reported.
use Rattle.std.proofs.Common.{◌≡◌, List, ◌++◌, Ok, Err, refl, sym, ap, ◌∙◌, arith}
use Rattle.arc_lex.specs.Tokens.{Tok}
use Rattle.arc_form.specs.Reader.{Read, misfit, too_deep}
use Rattle.arc_form.proofs.Local.{rest_of, fault_of}
use Rattle.arc_form.specs.Whole.{read_whole}
use Rattle.arc_form.specs.Places.{Passes}
use Rattle.arc_form.proofs.FormWhole.{whole_within, whole_misfit, whole_too_deep, whole_passes}
use Rattle.arc_form.proofs.FormBegins.{Positive}
use Rattle.arc_ast.specs.Tree.{UnitTree}
use Rattle.arc_grammar.specs.Grammar.{body, unit, these}
use Rattle.arc_grammar.proofs.Fits.{facts, sure, sure_unit}
use Rattle.arc_parse.specs.Refusal.{SpellsUnit, FitsNoneAt, TooDeepAt, place_of}

positive : Positive these
positive n e = let most : 1000 ≡ n = cc in omega (arith, most)

pub within : (ts : List Tok) (u : UnitTree) (r : List Tok) → read_whole body these unit ts ≡ Ok (u, r) → SpellsUnit these u ts
within ts u r e = whole_within facts body sure UnitTree unit sure_unit these ts u r e

pub refused : (ts rest : List Tok) → read_whole body these unit ts ≡ Err (misfit, rest) → FitsNoneAt ts (place_of ts rest)
refused ts rest e = let p = whole_misfit facts body sure UnitTree unit sure_unit these ts rest e in (p.0, rest, p.1, refl, p.2)

pub too_deep_at : (ts rest : List Tok) → read_whole body these unit ts ≡ Err (too_deep, rest) → TooDeepAt ts (place_of ts rest)
too_deep_at ts rest e = let p = whole_too_deep facts body sure UnitTree unit sure_unit these ts rest e in (p.0, rest, p.1, refl, p.2, p.3)

pub passes : (ts before rest : List Tok) → ts ≡ before ++ rest → Passes body these unit before rest → read_whole body these unit ts ≡ Err (too_deep, rest)
passes ts before rest c x = ap (read_whole body these unit) c ∙ whole_passes facts body sure these positive UnitTree unit sure_unit before rest x

pub not_misfit : (ts rest before r : List Tok) → read_whole body these unit ts ≡ Err (misfit, rest) → ts ≡ before ++ r → Passes body these unit before r → ⊥
not_misfit ts rest before r e c x = let same : misfit ≡ too_deep = ap (λ (z : Read UnitTree). fault_of z) (sym e ∙ passes ts before r c x) in cc

pub same_place : (ts rest before r : List Tok) → read_whole body these unit ts ≡ Err (too_deep, rest) → ts ≡ before ++ r → Passes body these unit before r → rest ≡ r
same_place ts rest before r e c x = ap (λ (z : Read UnitTree). rest_of z) (sym e ∙ passes ts before r c x)
