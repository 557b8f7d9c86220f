-- What is known of a text that was read up to a place.
use Rattle.std.proofs.Common.{◌≡◌, ℕ, ◌+◌, List, [], ◌∷◌, ◌++◌, length, Bool, true, false, cond, nat_eq, Option, Some, None, refl, ap, sym, subst, ◌∙◌, length-append, append_assoc, arith}
use Rattle.std.proofs.lemmas.List.{append-nil}
use Rattle.std.proofs.lemmas.Bool.{ne_eqb}
use Rattle.arc_lex.specs.Texts.{Part, Plain, Escape, part_bytes, parts_bytes, part_value, parts_value, put_front, is_plain, escape_value}
use Rattle.arc_lex.specs.private.Pieces.{scan}

-- the parts read so far, and a lone backslash after them where escaped
pub record ReadSoFar (quote : ℕ) (right escaped : Bool) (items : List ℕ) (at : ℕ) (rest all : List ℕ) : Type 0 where
  pub parts : List Part
  pub at_is : at ≡ length (parts_bytes parts) + cond escaped 1 0
  pub value_is : parts_value quote parts ≡ cond right (Some items) None
  pub scanned : scan quote escaped parts rest ≡ scan quote false [] all

pub parts_push : (ps : List Part) (p : Part) → parts_bytes (ps ++ p ∷ []) ≡ parts_bytes ps ++ part_bytes p
parts_push [] p = append-nil (part_bytes p)
parts_push (q ∷ qs) p = ap (λ bs. part_bytes q ++ bs) (parts_push qs p) ∙ sym (append_assoc (part_bytes q) (parts_bytes qs) (part_bytes p))

-- a byte after bytes, if both are there
abbrev put_back : Option (List ℕ) → Option ℕ → Option (List ℕ)
put_back None b = None
put_back (Some bs) None = None
put_back (Some bs) (Some b) = Some (bs ++ b ∷ [])

front_back : (a : Option ℕ) (v : Option (List ℕ)) (b : Option ℕ) → put_front a (put_back v b) ≡ put_back (put_front a v) b
front_back None v b = refl
front_back (Some a) None b = refl
front_back (Some a) (Some v) None = refl
front_back (Some a) (Some v) (Some b) = refl

one_value : (a : Option ℕ) → put_front a (Some []) ≡ put_back (Some []) a
one_value None = refl
one_value (Some a) = refl

value_push : (quote : ℕ) (ps : List Part) (p : Part) → parts_value quote (ps ++ p ∷ []) ≡ put_back (parts_value quote ps) (part_value quote p)
value_push quote [] p = one_value (part_value quote p)
value_push quote (q ∷ qs) p = ap (put_front (part_value quote q)) (value_push quote qs p) ∙ front_back (part_value quote q) (parts_value quote qs) (part_value quote p)

right_value : (right : Bool) (items : List ℕ) (v : ℕ) (o : Option ℕ) → o ≡ Some v → put_back (cond right (Some items) None) o ≡ cond right (Some (items ++ v ∷ [])) None
right_value true items v o e = ap (put_back (Some items)) e
right_value false items v o e = refl

wrong_value : (right : Bool) (items : List ℕ) (o : Option ℕ) → o ≡ None → put_back (cond right (Some items) None) o ≡ None
wrong_value true items o e = ap (put_back (Some items)) e
wrong_value false items o e = refl

module _ (quote : ℕ) (right : Bool) (items : List ℕ) (at b : ℕ) (rest all : List ℕ) where
  -- one part more
  more : (escaped right' : Bool) (items' : List ℕ) (p : Part) (r : ReadSoFar quote right escaped items at (b ∷ rest) all)
      → cond escaped 1 0 + 1 ≡ length (part_bytes p) → put_back (cond right (Some items) None) (part_value quote p) ≡ cond right' (Some items') None
      → scan quote false (r.parts ++ p ∷ []) rest ≡ scan quote escaped r.parts (b ∷ rest) → ReadSoFar quote right' false items' (at + 1) rest all
  more escaped right' items' p r size value on = record {
    parts = r.parts ++ p ∷ [];
    at_is = omega (arith, r.at_is, size, ap length (parts_push r.parts p), length-append (parts_bytes r.parts) (part_bytes p));
    value_is = value_push quote r.parts p ∙ (ap (λ v. put_back v (part_value quote p)) r.value_is ∙ value);
    scanned = on ∙ r.scanned;
  }

  pub right_plain : (b ≡ 10 → ⊥) → (b ≡ quote → ⊥) → (b ≡ 92 → ⊥) → is_plain quote b ≡ true → ReadSoFar quote right false items at (b ∷ rest) all
      → ReadSoFar quote right false (items ++ b ∷ []) (at + 1) rest all
  right_plain n q s plain r = more false right (items ++ b ∷ []) (Plain b) r refl (right_value right items b (part_value quote (Plain b)) (ap (λ t. cond t (Some b) None) plain))
      (let e10 = ne_eqb b 10 n in let e_quote = ne_eqb b quote q in let e92 = ne_eqb b 92 s in rw (e10, e_quote, e92) refl)

  pub wrong_plain : (b ≡ 10 → ⊥) → (b ≡ quote → ⊥) → (b ≡ 92 → ⊥) → is_plain quote b ≡ false → ReadSoFar quote right false items at (b ∷ rest) all
      → ReadSoFar quote false false items (at + 1) rest all
  wrong_plain n q s plain r = more false false items (Plain b) r refl (wrong_value right items (part_value quote (Plain b)) (ap (λ t. cond t (Some b) None) plain))
      (let e10 = ne_eqb b 10 n in let e_quote = ne_eqb b quote q in let e92 = ne_eqb b 92 s in rw (e10, e_quote, e92) refl)

  pub right_escape : (v : ℕ) → (b ≡ 10 → ⊥) → escape_value b ≡ Some v → ReadSoFar quote right true items at (b ∷ rest) all
      → ReadSoFar quote right false (items ++ v ∷ []) (at + 1) rest all
  right_escape v n value r = more true right (items ++ v ∷ []) (Escape b) r refl (right_value right items v (escape_value b) value) (let e10 = ne_eqb b 10 n in rw e10 refl)

  pub wrong_escape : (b ≡ 10 → ⊥) → escape_value b ≡ None → ReadSoFar quote right true items at (b ∷ rest) all
      → ReadSoFar quote false false items (at + 1) rest all
  wrong_escape n value r = more true false items (Escape b) r refl (wrong_value right items (escape_value b) value) (let e10 = ne_eqb b 10 n in rw e10 refl)

  pub backslash : (b ≡ quote → ⊥) → b ≡ 92 → ReadSoFar quote right false items at (b ∷ rest) all → ReadSoFar quote right true items (at + 1) rest all
  backslash q s r = record {
    parts = r.parts;
    at_is = omega (arith, r.at_is);
    value_is = r.value_is;
    scanned = (let e_quote = ne_eqb b quote q in
        let e10 : nat_eq b 10 ≡ false = rw s refl in
        let e92 : nat_eq b 92 ≡ true = rw s refl in rw (e10, e_quote, e92) refl) ∙ r.scanned;
  }

pub same : (quote : ℕ) (r r' e e' : Bool) (items items' : List ℕ) (at : ℕ) (rest all : List ℕ) → r ≡ r' → e ≡ e' → items ≡ items' → ReadSoFar quote r' e' items' at rest all
    → ReadSoFar quote r e items at rest all
same quote r r' e e' items items' at rest all x y z h =
    subst (λ u. ReadSoFar quote u e items at rest all) (sym x) (subst (λ u. ReadSoFar quote r' u items at rest all) (sym y) (subst (λ u. ReadSoFar quote r' e' u at rest all) (sym z) h))
