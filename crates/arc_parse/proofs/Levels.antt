-- Operators read one after another, each at its own level, are those that are read level by level.
use Rattle.std.proofs.Common.{◌≡◌, ◌≤◌, ◌<◌, ◌-◌, ◌⊎◌, inl, inr, ℕ, zero, suc, List, true, false, Ok, Err, refl, ◌∙◌, arith}
use Rattle.std.proofs.lemmas.Bool.{cases_lt}
use Rattle.arc_lex.specs.Tokens.{Tok}
use Rattle.arc_ast.specs.declared.tree.BinaryOperator.{BinaryOperator}
use Rattle.arc_ast.specs.declared.tree.BinaryOperator.TheVariants.{Add}
use Rattle.arc_ast.specs.Tree.{ExprTree, Binary, begins}
use Rattle.arc_form.specs.declared.fail.Fail.{Fail}
use Rattle.arc_form.specs.declared.fail.Fail.TheVariants.{Memory, Unexpected, TooDeep}
use Rattle.arc_form.specs.Form.{unlimited}
use Rattle.arc_form.specs.Reader.{Read, Fails, misfit, too_deep, bind, sees, take_one}
use Rattle.arc_form.specs.Operators.{marks_at, placed_operator}
use Rattle.arc_grammar.specs.Grammar.{rules, reads_on, binary, table, marks_up_to, more, up_to}
use Rattle.arc_parse.proofs.Fix.{read_more, read_past, up_one}

-- An operator of level g is ahead, and before it no tighter one; its operand is read after it.
module _ (g : ℕ) (left : ExprTree) (ts us : List Tok) (o : ℕ × BinaryOperator) (tight : sees (marks_up_to (g - 1)) ts ≡ false) (there : sees (marks_at g table) ts ≡ true)
    (taken : take_one (marks_at g table) (placed_operator Add table) ts ≡ Ok (o, us)) where
  abbrev made : ExprTree → ExprTree
  made right = Binary (begins left) o.1 left right

  -- whether no tighter operator is after the operand, if one was read
  abbrev past : Read ExprTree → Type 0
  past (Ok x) = sees (marks_up_to (g - 1)) x.1 ≡ false
  past (Err e) = Unit {0}

  -- Then the two are the next left operand.
  pub one_more : (l : ℕ) (x : Read ExprTree) → 1 ≤ g → g ≤ l → rules unlimited (binary (g - 1)) us ≡ x → past x → reads_on (up_to l) left ts ≡ bind x (λ right. reads_on (up_to l) (made right))
  one_more zero x p q e r = absurd (omega arith)
  one_more (suc l) x p q e r = up_one l left ts ∙ go (cases_lt l g) x e r (λ s. one_more l x p s e r)
    where
      go : (l < g) ⊎ (g ≤ l) → (x : Read ExprTree) → rules unlimited (binary (g - 1)) us ≡ x → past x → (g ≤ l → reads_on (up_to l) left ts ≡ bind x (λ right. reads_on (up_to l) (made right)))
          → bind (reads_on (up_to l) left ts) (λ z. reads_on (more (suc l)) z) ≡ bind x (λ right. reads_on (up_to (suc l)) (made right))
      go (inr s) (Ok y) e r h = rw (h s, up_one l (made y.0) y.1) refl
      go (inr s) (Err f) e r h = rw (h s) refl
      go (inl s) (Ok y) e r h =
          let own : g ≡ suc l = omega arith in
          let before : g - 1 ≡ l = omega arith in
          rw (up_one l (made y.0) y.1, read_past l left ts (rw before at tight), read_past l (made y.0) y.1 (rw before at r), ← own, read_more g left ts, there, taken, e) refl
      go (inl s) (Err f) e r h =
          let own : g ≡ suc l = omega arith in
          let before : g - 1 ≡ l = omega arith in
          rw (read_past l left ts (rw before at tight), ← own, read_more g left ts, there, taken, e) refl

  pub no_operand : (l : ℕ) (e : Fail) (rest : List Tok) → 1 ≤ g → g ≤ l → Fails e rest (rules unlimited (binary (g - 1)) us) → Fails e rest (reads_on (up_to l) left ts)
  no_operand l Memory rest p q r = tt
  no_operand l Unexpected rest p q r = one_more l (Err (misfit, rest)) p q r tt
  no_operand l TooDeep rest p q r = one_more l (Err (too_deep, rest)) p q r tt
