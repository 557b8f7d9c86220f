use Rattle.std.proofs.Common.{◌≡◌, ℕ, zero, suc, List, [], ◌∷◌, length, slice_get, option_map, refl, ap, ◌∙◌, arith}
use Rattle.std.proofs.lemmas.Option.{slice_get_read, slice_get_past}
use Rattle.arc_checked.specs.declared.program.CheckedFunction.{CheckedFunction}
use Rattle.arc_checked.specs.Checked.{functions}
use Rattle.arc_lower.specs.private.Definitions.{definition_of}
use Rattle.arc_lower.proofs.call.function_giving.Goals as goal

-- a program has its functions in the order of the checked one
functions_get : (all : List CheckedFunction) (f : ℕ) → slice_get (functions all) f ≡ option_map definition_of (slice_get all f)
functions_get [] f = refl
functions_get (g ∷ others) zero = refl
functions_get (g ∷ others) (suc f) = functions_get others f

pub returns-in-None : goal.returns-in-None
returns-in-None c =
    let past = slice_get_past c.args.program.now.functions.items c.args.function
    (omega (arith, c.in-None.ensures.lookup.3, ap length c.deref.ensures.value)) in
    rw (functions_get, past)

pub returns-in-Some : goal.returns-in-Some
returns-in-Some c =
    let h = rw c.deref.ensures.value at c.in-Some.ensures.lookup in
    let there = slice_get_read c.args.program.now.functions.items _ c.args.function c.in-Some.found.now refl h.3.0 h.1 in
    c.where_giving.ensures ∙ rw (functions_get, there)
