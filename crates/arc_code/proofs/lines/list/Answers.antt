-- A listing grows by a line.
use Rattle.std.proofs.Common.{Option, Ok, Err, ◌≡◌, ℕ, suc, ◌+◌, ◌<◌, List, [], ◌∷◌, ◌++◌, length, take, drop, get_or, append_assoc, append-nil, arith, take-append-drop}
use Rattle.std.proofs.lemmas.List.{take_more, length-take-le}
use Rattle.arc_code.specs.CodeSteps.{Instruction}
use Rattle.arc_code.specs.declared.code.IoFault.{IoFault}
use Rattle.arc_code.specs.WrittenBytes.{Written}
use Rattle.arc_code.proofs.WritesCompose.{answered, wider, then_ok, then_failed}
use Rattle.arc_code.specs.Listing.{line, lines_from, listing}
use Rattle.arc_code.proofs.lines.list.Goals as goal

lines_from-append : (k : ℕ) (xs ys : List Instruction) → lines_from k (xs ++ ys) ≡ lines_from k xs ++ lines_from (k + length xs) ys
lines_from-append k [] ys = grind arith
lines_from-append k (x ∷ xs) ys = grind (arith, append_assoc, lines_from-append (suc k) xs ys)

listing-take : (instrs : List Instruction) (n : ℕ) (d : Instruction) → n < length instrs → listing (take (n + 1) instrs) ≡ listing (take n instrs) ++ line n (get_or instrs n d)
listing-take instrs n d within = grind (arith, take_more instrs n d within, lines_from-append 0 (take n instrs) (get_or instrs n d ∷ []), append-nil, length-take-le)

listing-whole : (instrs : List Instruction) (n : ℕ) (d : Instruction) → n < length instrs → listing instrs ≡ (listing (take n instrs) ++ line n (get_or instrs n d)) ++ lines_from (0 + length (take (n + 1) instrs)) (drop (n + 1) instrs)
listing-whole instrs n d within = grind (arith, take-append-drop (n + 1) instrs, lines_from-append 0 (take (n + 1) instrs) (drop (n + 1) instrs), listing-take instrs n d within)

module _ (h0 h1 h2 : Option (List ℕ)) (f0 f1 f2 : ℕ) (F : Type 0) (instrs : List Instruction) (n : ℕ) (d : Instruction) (within : n < length instrs) (done : Written (Ok tt) (listing (take n instrs)) h0 h1 f0 f1 F) where
  one_more : Written (Ok tt) (line n (get_or instrs n d)) h1 h2 f1 f2 F → Written (Ok tt) (listing (take (n + 1) instrs)) h0 h2 f0 f2 F
  one_more w = rw (listing-take instrs n d within) (then_ok h0 h1 h2 f0 f1 f2 F (listing (take n instrs)) (line n (get_or instrs n d)) done w)

  cut_short : (e : IoFault) → Written (Err e) (line n (get_or instrs n d)) h1 h2 f1 f2 F → Written (Err e) (listing instrs) h0 h2 f0 f2 F
  cut_short e w = rw (listing-whole instrs n d within) (wider e h0 h2 f0 f2 F _ _ (then_failed e h0 h1 h2 f0 f1 f2 F _ _ done w))

pub returns-in_err-put_line : goal.returns-in_err-put_line
returns-in_err-put_line g c =
    let line = rw c.deref-instr-items.ensures.value at c.in_err-put_line.ensures in
    answered _ _ _ _ _ _ _ _ c.from_residual.ensures.1 (cut_short _ _ _ _ _ _ _ c.args.code.now.instrs.items _ _ (omega arith) c.loop-number.invariant _ line)

pub loop-number-preserved : goal.loop-number-preserved
loop-number-preserved g c =
    let line = rw c.deref-instr-items.ensures.value at c.in_ok-put_line.ensures in
    one_more _ _ _ _ _ _ (Unit {0}) c.args.code.now.instrs.items _ _ (omega arith) c.loop-number.invariant line
