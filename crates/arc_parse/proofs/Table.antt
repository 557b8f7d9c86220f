-- What the table of operators has of the first token.
use Rattle.std.proofs.Common.{◌≡◌, ◌<◌, ◌≤◌, ℕ, zero, suc, List, [], ◌∷◌, true, false, slice_get, Option, Some, None, nat_eq, refl, sym, ap, ◌∙◌, arith}
use Rattle.std.proofs.lemmas.Bool.{eq-eqb, ne_eqb}
use Rattle.arc_lex.specs.Tokens.{Tok, tok, toks}
use Rattle.arc_lex.specs.declared.token.Token.{Token}
use Rattle.arc_form.specs.Operators.{entry_of, marks_at, placed_operator}
use Rattle.arc_form.specs.Reader.{sees, take_one}
use Rattle.arc_form.proofs.Operators.{is_at, taken_entry, sees_operator, takes_operator}
use Rattle.arc_grammar.specs.Grammar.{table, marks_up_to}
use Rattle.arc_ast.specs.declared.tree.BinaryOperator.{BinaryOperator}
use Rattle.arc_ast.specs.declared.tree.BinaryOperator.TheVariants.{Add}

pub takes_table : (l : ℕ) (t : Tok) (ts : List Tok) → take_one (marks_at l table) (placed_operator Add table) (t ∷ ts) ≡ taken_entry l t.from (entry_of table t.sort) (t ∷ ts)
unfolding table
takes_table l t ts = takes_operator table refl Add l t ts

sees_table : (l : ℕ) (t : Tok) (ts : List Tok) → sees (marks_at l table) (t ∷ ts) ≡ is_at l (entry_of table t.sort)
unfolding table
sees_table l t ts = sees_operator table refl l t ts

-- where no operator of any of these levels is ahead, none of a level up to the last is
none_up_to : (l : ℕ) (ts : List Tok) → ((k : ℕ) → 1 ≤ k → k ≤ l → sees (marks_at k table) ts ≡ false) → sees (marks_up_to l) ts ≡ false
none_up_to l [] h = refl
none_up_to zero (t ∷ ts) h = refl
none_up_to (suc l) (t ∷ ts) h = rw (none_up_to l (t ∷ ts) (λ k p q. h k p (omega arith)), h (suc l) (omega arith) (omega arith)) refl

-- `e` is what the table has of the first token
module _ (ts : List Token) (t : Token) (first : Some t ≡ slice_get ts 0) where
  sees_first : (l : ℕ) (e : Option (ℕ × BinaryOperator)) → e ≡ entry_of table (tok t).sort → sees (marks_at l table) (toks ts) ≡ is_at l e
  sees_first l e q = go ts first
    where
      go : (ts : List Token) → Some t ≡ slice_get ts 0 → sees (marks_at l table) (toks ts) ≡ is_at l e
      go [] p = cc
      go (s ∷ ts) p = let same : s ≡ t = cc in sees_table l (tok s) (toks ts) ∙ ap (λ t. is_at l (entry_of table (tok t).sort)) same ∙ sym (ap (is_at l) q)

  pub sees_some : (l k : ℕ) (o : BinaryOperator) → Some (k, o) ≡ entry_of table (tok t).sort → sees (marks_at l table) (toks ts) ≡ nat_eq k l
  sees_some l k o q = sees_first l (Some (k, o)) q

  pub sees_no : (l : ℕ) → None ≡ entry_of table (tok t).sort → sees (marks_at l table) (toks ts) ≡ false
  sees_no l q = sees_first l None q

  pub sees_own : (l : ℕ) (o : BinaryOperator) → Some (l, o) ≡ entry_of table (tok t).sort → sees (marks_at l table) (toks ts) ≡ true
  sees_own l o q = sees_some l l o q ∙ eq-eqb l l refl

  pub sees_none : (l : ℕ) → None ≡ entry_of table (tok t).sort → sees (marks_up_to l) (toks ts) ≡ false
  sees_none l q = none_up_to l (toks ts) (λ k a b. sees_no k q)

  pub sees_looser : (l k : ℕ) (o : BinaryOperator) → Some (k, o) ≡ entry_of table (tok t).sort → l < k → sees (marks_up_to l) (toks ts) ≡ false
  sees_looser l k o q p = none_up_to l (toks ts) (λ i a b. sees_some i k o q ∙ ne_eqb k i (λ e. omega arith))
