-- Operators between operands: what a token of a level is, and loops that join from the left.
use Rattle.std.proofs.Common.{◌≡◌, ℕ, List, [], ◌∷◌, drop, Ok, Err, Bool, true, false, cond, ◌&&◌, Option, Some, None, nat_eq, if◌then◌else◌, refl, ap, ◌∙◌}
use Rattle.arc_lex.specs.declared.mark.Mark.{Mark}
use Rattle.arc_lex.specs.Tokens.{Tok, Sort, Sign}
use Rattle.arc_lex.specs.Spellings.{mark_bytes}
use Rattle.arc_form.specs.Kinds.{Kind, ◌∪◌, mark, has, kind, is}
use Rattle.arc_form.specs.Reader.{Reader, misfit, sees, taken, take_one}
use Rattle.arc_form.specs.Operators.{Row, entry, entry_of, marks_at, operator_of, placed_operator}
use Rattle.arc_form.proofs.Sets.{both, same_is}

abbrev pub is_at : {O : Type 0} → ℕ → Option (ℕ × O) → Bool
is_at l None = false
is_at l (Some e) = nat_eq e.0 l

abbrev pub is_none : {O : Type 0} → Option (ℕ × O) → Bool
is_none None = true
is_none (Some e) = false

-- whether no mark stands in two rows
abbrev pub distinct : {O : Type 0} → List (Row O) → Bool
distinct [] = true
distinct (r ∷ rows) = is_none (entry rows r.mark) && distinct rows

-- a token of this place and this entry, if it is of the level
abbrev pub taken_entry : {O : Type 0} → ℕ → ℕ → Option (ℕ × O) → Reader (ℕ × O)
taken_entry l at None ts = Err (misfit, ts)
taken_entry l at (Some e) ts = if nat_eq e.0 l then Ok ((at, e.1), drop 1 ts) else Err (misfit, ts)

abbrev second : Kind → List ℕ
second k = k.1

module _ {O : Type 0} where
  entry_alike : (rows : List (Row O)) (m n : Mark) → mark_bytes m ≡ mark_bytes n → entry rows m ≡ entry rows n
  entry_alike [] m n e = refl
  entry_alike (r ∷ rows) m n e = rw (e, entry_alike rows m n e) refl

  none_at : (l : ℕ) (e : Option (ℕ × O)) → is_none e ≡ true → is_at l e ≡ false
  none_at l None q = refl
  none_at l (Some e) q = cc

  -- whether a mark is of a level
  mark_has : (rows : List (Row O)) → distinct rows ≡ true → (l : ℕ) (m : Mark) → has (marks_at l rows) (kind (Sign m)) ≡ is_at l (entry rows m)
  mark_has [] d l m = refl
  mark_has (r ∷ rows) d l m =
      let p = both (is_none (entry rows r.mark)) (distinct rows) d in
      go (has (mark r.mark) (kind (Sign m))) refl (nat_eq r.level l) refl p.0 (mark_has rows p.1 l m)
    where
      go : (b : Bool) → has (mark r.mark) (kind (Sign m)) ≡ b → (c : Bool) → nat_eq r.level l ≡ c → is_none (entry rows r.mark) ≡ true → has (marks_at l rows) (kind (Sign m)) ≡ is_at l (entry rows m)
          → has (marks_at l (r ∷ rows)) (kind (Sign m)) ≡ is_at l (entry (r ∷ rows) m)
      go true e true f n h = rw (e, f, e) refl
      go true e false f n h = rw (e, f) (h ∙ ap (is_at l) (entry_alike rows m r.mark (ap second (same_is (kind (Sign m)) (kind (Sign r.mark)) e))) ∙ none_at l (entry rows r.mark) n)
      go false e true f n h = rw (f, e) h
      go false e false f n h = rw (f, e) h

  other_has : (rows : List (Row O)) (l i : ℕ) (j : List ℕ) → nat_eq i 6 ≡ false → has (marks_at l rows) (i, j) ≡ false
  other_has [] l i j e = refl
  other_has (r ∷ rows) l i j e =
      let rest = other_has rows l i j e in
      elim (nat_eq r.level l) as (λ c. has (cond c (mark r.mark ∪ marks_at l rows) (marks_at l rows)) (i, j) ≡ false) [ true ↦ rw e rest | false ↦ rest ]

  -- whether a token is of a level
  is_operator : (rows : List (Row O)) → distinct rows ≡ true → (l : ℕ) (s : Sort) → has (marks_at l rows) (kind s) ≡ is_at l (entry_of rows s)
  is_operator rows d l (Sign m) = mark_has rows d l m
  is_operator rows d l s = other_has rows l _ _ refl

  -- the operator that it is
  operator_is : (rows : List (Row O)) (other : O) (t : Tok) (e : ℕ × O) → entry_of rows t.sort ≡ Some e → operator_of other rows t ≡ e.1
  operator_is rows other t e q = go t.sort refl q
    where
      row : (rows : List (Row O)) (m : Mark) → t.sort ≡ Sign m → entry rows m ≡ Some e → operator_of other rows t ≡ e.1
      row [] m s q = cc
      row (r ∷ rows) m s q =
          let rest = row rows m s in
          let first : (x : ℕ × O) → Some x ≡ Some e → x.1 ≡ e.1 = λ x q. let same : x ≡ e = cc in ap (λ (x : ℕ × O). x.1) same in
          ap (λ z. cond (has (mark r.mark) (kind z)) r.operator (operator_of other rows t)) s
          ∙ (elim (has (mark r.mark) (kind (Sign m))) as (λ b. cond b (Some (r.level, r.operator)) (entry rows m) ≡ Some e → cond b r.operator (operator_of other rows t) ≡ e.1) [ true ↦ first (r.level, r.operator) | false ↦ rest ]) q

      go : (s : Sort) → t.sort ≡ s → entry_of rows s ≡ Some e → operator_of other rows t ≡ e.1
      go (Sign m) s q = row rows m s q
      go _ s q = cc

  pub sees_operator : (rows : List (Row O)) → distinct rows ≡ true → (l : ℕ) (t : Tok) (ts : List Tok) → sees (marks_at l rows) (t ∷ ts) ≡ is_at l (entry_of rows t.sort)
  sees_operator rows d l t ts = is_operator rows d l t.sort

  pub takes_operator : (rows : List (Row O)) → distinct rows ≡ true → (other : O) (l : ℕ) (t : Tok) (ts : List Tok)
      → take_one (marks_at l rows) (placed_operator other rows) (t ∷ ts) ≡ taken_entry l t.from (entry_of rows t.sort) (t ∷ ts)
  takes_operator rows d other l t ts = go (entry_of rows t.sort) refl (is_operator rows d l t.sort)
    where
      go : (x : Option (ℕ × O)) → entry_of rows t.sort ≡ x → is (marks_at l rows) t ≡ is_at l x → take_one (marks_at l rows) (placed_operator other rows) (t ∷ ts) ≡ taken_entry l t.from x (t ∷ ts)
      go None q h = rw h refl
      go (Some e) q h = rw h (elim (nat_eq e.0 l) as (λ b. taken b (placed_operator other rows) t ts ≡ cond b (Ok ((t.from, e.1), ts)) (Err (misfit, t ∷ ts)))
          [ true ↦ ap (λ o. Ok ((t.from, o), ts)) (operator_is rows other t e q) | false ↦ refl ])
