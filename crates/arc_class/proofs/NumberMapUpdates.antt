-- Maps from numbers: new parts change no other map, and what is put there is found.
use Rattle.std.proofs.Common.{◌≡◌, ℕ, zero, suc, ◌+◌, ◌-◌, ◌*◌, ◌/◌, ◌%◌, ◌^◌, ◌<◌, ◌≤◌, ◌≢◌, Bool, true, false, List, [], ◌∷◌, ◌++◌, length, Option, Some, None, slice_get, nat_eq, if◌then◌else◌, refl, sym, ap, subst, ◌∙◌, true≢false, arith}
use Rattle.std.proofs.Math.Nat.{pow-succ'}
use Rattle.std.proofs.lemmas.Bool.{false_from_ne_true}
use Rattle.std.proofs.lemmas.Bool.Decides.{Decides-eqb, same_from_decides}
use Rattle.std.proofs.lemmas.List.{length-append, append_assoc}
use Rattle.std.proofs.lemmas.List.{append-nil}
use Rattle.arc_class.specs.declared.numbered.Node.{Node}
use Rattle.arc_class.specs.NumberMaps.{or_no_node, node_at, side, with_side, at_number, IsThere, IsWithin, Puts}

-- ---- lists that grow

pub slice_get_left : {X : Type 0} (xs ys : List X) (i : ℕ) → i < length xs → slice_get (xs ++ ys) i ≡ slice_get xs i
slice_get_left [] ys i h = absurd (omega arith)
slice_get_left (x ∷ xs) ys zero h = refl
slice_get_left (x ∷ xs) ys (suc i) h = slice_get_left xs ys i (omega arith)

pub slice_get_seam : {X : Type 0} (xs : List X) (y : X) → slice_get (xs ++ y ∷ []) (length xs) ≡ Some y
slice_get_seam [] y = refl
slice_get_seam (x ∷ xs) y = slice_get_seam xs y

-- ---- a digit at a time

one_level : (n : ℕ) (nodes : List Node) (first : Option ℕ) (number : ℕ) → at_number (suc n) nodes first number ≡ at_number n nodes (side (node_at nodes first) number) (number / 2)
unfolding at_number
one_level n nodes first number = refl

pub no_level : (nodes : List Node) (first : Option ℕ) (number : ℕ) → at_number 0 nodes first number ≡ first
unfolding at_number
no_level nodes first number = refl

pub level_turn : (levels k : ℕ) (nodes : List Node) (first : Option ℕ) (number : ℕ) → k < levels
    → at_number (levels - k) nodes first number ≡ at_number (levels - (k + 1)) nodes (side (node_at nodes first) number) (number / 2)
level_turn levels k nodes first number lt =
    let e : levels - k ≡ suc (levels - (k + 1)) = omega arith in
    ap (λ m. at_number m nodes first number) e ∙ one_level (levels - (k + 1)) nodes first number

pub level_end : (levels k : ℕ) (nodes : List Node) (first : Option ℕ) (number : ℕ) → levels ≤ k → at_number (levels - k) nodes first number ≡ first
level_end levels k nodes first number le =
    let e : levels - k ≡ 0 = omega arith in
    ap (λ m. at_number m nodes first number) e ∙ no_level nodes first number

-- ---- new parts change no map

node_at-append : (nodes more : List Node) (at : Option ℕ) → IsThere nodes at → node_at (nodes ++ more) at ≡ node_at nodes at
node_at-append nodes more None h = refl
node_at-append nodes more (Some at) h = ap or_no_node (slice_get_left nodes more at h)

IsThere-append : (nodes more : List Node) (at : Option ℕ) → IsThere nodes at → IsThere (nodes ++ more) at
IsThere-append nodes more None h = tt
IsThere-append nodes more (Some at) h = omega (arith, length-append nodes more)

within_side : (n : ℕ) (nodes : List Node) (node : Node) (number : ℕ) → IsWithin n nodes node.even → IsWithin n nodes node.odd → IsWithin n nodes (side node number)
within_side n nodes node number even odd = go (nat_eq (number % 2) 0)
  where
    go : (b : Bool) → IsWithin n nodes (if b then node.even else node.odd)
    go true = even
    go false = odd

pub IsWithin-append : (n : ℕ) (nodes more : List Node) (at : Option ℕ) → IsWithin n nodes at → IsWithin n (nodes ++ more) at
unfolding IsWithin
IsWithin-append zero nodes more at h = tt
IsWithin-append (suc n) nodes more at h =
    let same : node_at nodes at ≡ node_at (nodes ++ more) at = sym (node_at-append nodes more at h.0) in
    let Even : Node → Type 0 = λ node. IsWithin n (nodes ++ more) node.even in
    let Odd : Node → Type 0 = λ node. IsWithin n (nodes ++ more) node.odd in (
      IsThere-append nodes more at h.0,
      subst Even same (IsWithin-append n nodes more (node_at nodes at).even h.1),
      subst Odd same (IsWithin-append n nodes more (node_at nodes at).odd h.2),
    )

pub at_number-append : (n : ℕ) (nodes more : List Node) (at : Option ℕ) (number : ℕ) → IsWithin n nodes at → at_number n (nodes ++ more) at number ≡ at_number n nodes at number
unfolding at_number IsWithin
at_number-append zero nodes more at number h = refl
at_number-append (suc n) nodes more at number h =
    ap (λ node. at_number n (nodes ++ more) (side node number) (number / 2)) (node_at-append nodes more at h.0)
    ∙ at_number-append n nodes more (side (node_at nodes at) number) (number / 2) (within_side n nodes (node_at nodes at) number h.1 h.2)

-- nothing is a map with nothing
pub none_within : (n : ℕ) (nodes : List Node) → IsWithin n nodes None
unfolding IsWithin
none_within zero nodes = tt
none_within (suc n) nodes = (tt, none_within n nodes, none_within n nodes)

pub at_none : (n : ℕ) (nodes : List Node) (number : ℕ) → at_number n nodes None number ≡ None
unfolding at_number
at_none zero nodes number = refl
at_none (suc n) nodes number = go (nat_eq (number % 2) 0) (at_none n nodes (number / 2))
  where
    go : (b : Bool) → at_number n nodes None (number / 2) ≡ None → at_number n nodes (if b then None else None) (number / 2) ≡ None
    go true h = h
    go false h = h

-- ---- numbers and their halves

same_half : (a b : ℕ) → a % 2 ≡ b % 2 → nat_eq a b ≡ nat_eq (a / 2) (b / 2)
same_half a b e = same_from_decides (nat_eq a b) (nat_eq (a / 2) (b / 2)) (Decides-eqb a b)
    ((λ t. let h : a / 2 ≡ b / 2 = (Decides-eqb (a / 2) (b / 2)).0 t in omega arith), (λ h. (Decides-eqb (a / 2) (b / 2)).1 (ap (λ n. n / 2) h)))

apart_half : (a b : ℕ) → a % 2 ≢ b % 2 → nat_eq a b ≡ false
apart_half a b ne = false_from_ne_true (nat_eq a b) (λ t. ne (ap (λ n. n % 2) ((Decides-eqb a b).0 t)))

pub half_fits : (levels n number : ℕ) → levels ≡ suc n → number < 2 ^ levels → number / 2 < 2 ^ n
half_fits levels n number e lt =
    let twice : 2 ^ levels ≡ 2 * 2 ^ n = ap (λ l. 2 ^ l) e ∙ pow-succ' 2 n in
    omega arith

-- what is on the side of a number, where something was put on the side of another
abbrev picked : Bool → Node → Option ℕ
picked s node = if s then node.even else node.odd

abbrev placed : Bool → Node → ℕ → Node
placed t node at = if t then record { even = Some at; odd = node.odd } else record { even = node.even; odd = Some at }

picked_same : (s t : Bool) (node : Node) (at : ℕ) → s ≡ t → picked s (placed t node at) ≡ Some at
picked_same true true node at e = refl
picked_same false false node at e = refl
picked_same true false node at e = cc
picked_same false true node at e = cc

picked_other : (s t : Bool) (node : Node) (at : ℕ) → s ≢ t → picked s (placed t node at) ≡ picked s node
picked_other true true node at ne = absurd (ne refl)
picked_other false false node at ne = absurd (ne refl)
picked_other true false node at ne = refl
picked_other false true node at ne = refl

side_same : (node : Node) (a b at : ℕ) → a % 2 ≡ b % 2 → side (with_side node b at) a ≡ Some at
side_same node a b at e = picked_same (nat_eq (a % 2) 0) (nat_eq (b % 2) 0) node at (ap (λ d. nat_eq d 0) e)

side_other : (node : Node) (a b at : ℕ) → a % 2 ≢ b % 2 → side (with_side node b at) a ≡ side node a
side_other node a b at ne = picked_other (nat_eq (a % 2) 0) (nat_eq (b % 2) 0) node at apart
  where
    apart : nat_eq (a % 2) 0 ≢ nat_eq (b % 2) 0
    apart e = go (nat_eq (b % 2) 0) refl
      where
        go : (t : Bool) → nat_eq (b % 2) 0 ≡ t → ⊥
        go true h =
            let x : a % 2 ≡ 0 = (Decides-eqb (a % 2) 0).0 (e ∙ h) in
            let y : b % 2 ≡ 0 = (Decides-eqb (b % 2) 0).0 h in
            ne (x ∙ sym y)
        go false h =
            let x : a % 2 ≢ 0 = λ z. true≢false (sym ((Decides-eqb (a % 2) 0).1 z) ∙ e ∙ h) in
            let y : b % 2 ≢ 0 = λ z. true≢false (sym ((Decides-eqb (b % 2) 0).1 z) ∙ h) in
            ne (omega arith)

-- ---- what is put at a number

-- a part that is added has the side of the number, and what the old one has on the other side
module _ (n : ℕ) (old mid : List Node) (first : Option ℕ) (number value below : ℕ) (w : IsWithin (suc n) old first) (p : Puts n old mid (side (node_at old first) number) (number / 2) value below) where
  abbrev node : Node
  node = node_at old first

  abbrev added : Node
  added = with_side node number below

  abbrev new : List Node
  new = mid ++ added ∷ []

  grown : new ≡ old ++ (p.extends.more ++ added ∷ [])
  grown = ap (λ ns. ns ++ added ∷ []) p.extends.is ∙ append_assoc old p.extends.more (added ∷ [])

  opened : IsThere old first × IsWithin n old node.even × IsWithin n old node.odd
  unfolding IsWithin
  opened = w

  kept : (at : Option ℕ) → IsWithin n old at → IsWithin n new at
  kept at h = let P : List Node → Type 0 = λ ns. IsWithin n ns at in subst P (sym grown) (IsWithin-append n old (p.extends.more ++ added ∷ []) at h)

  kept_number : (at : Option ℕ) (sought : ℕ) → IsWithin n old at → at_number n new at sought ≡ at_number n old at sought
  kept_number at sought h = ap (λ ns. at_number n ns at sought) grown ∙ at_number-append n old (p.extends.more ++ added ∷ []) at sought h

  placed_within : (t : Bool) → IsWithin n new (placed t node below).even × IsWithin n new (placed t node below).odd
  placed_within true = (IsWithin-append n mid (added ∷ []) (Some below) p.within, kept node.odd opened.2)
  placed_within false = (kept node.even opened.1, IsWithin-append n mid (added ∷ []) (Some below) p.within)

  is_added : node_at new (Some (length mid)) ≡ added
  is_added = ap or_no_node (slice_get_seam mid added)

  new_within : IsWithin (suc n) new (Some (length mid))
  unfolding IsWithin
  new_within =
      let both = placed_within (nat_eq (number % 2) 0) in
      let Even : Node → Type 0 = λ x. IsWithin n new x.even in
      let Odd : Node → Type 0 = λ x. IsWithin n new x.odd in
      (omega (arith, length-append mid (added ∷ [])), subst Even (sym is_added) both.0, subst Odd (sym is_added) both.1)

  found_there : (sought : ℕ) → sought / 2 < 2 ^ n → at_number n new (side added sought) (sought / 2) ≡ (if nat_eq sought number then Some value else at_number n old (side node sought) (sought / 2))
  found_there sought fits = go (nat_eq (sought % 2) (number % 2)) refl
    where
      go : (t : Bool) → nat_eq (sought % 2) (number % 2) ≡ t → at_number n new (side added sought) (sought / 2) ≡ (if nat_eq sought number then Some value else at_number n old (side node sought) (sought / 2))
      go true h =
          let same : sought % 2 ≡ number % 2 = (Decides-eqb (sought % 2) (number % 2)).0 h in
          let sides : side node number ≡ side node sought = ap (λ d. picked (nat_eq d 0) node) (sym same) in
          ap (λ at. at_number n new at (sought / 2)) (side_same node sought number below same)
          ∙ at_number-append n mid (added ∷ []) (Some below) (sought / 2) p.within
          ∙ p.found (sought / 2) fits
          ∙ ap (λ t. if t then Some value else at_number n old (side node number) (sought / 2)) (sym (same_half sought number same))
          ∙ ap (λ at. if nat_eq sought number then Some value else at_number n old at (sought / 2)) sides
      go false h =
          let ne : sought % 2 ≢ number % 2 = λ z. true≢false (sym ((Decides-eqb (sought % 2) (number % 2)).1 z) ∙ h) in
          ap (λ at. at_number n new at (sought / 2)) (side_other node sought number below ne)
          ∙ kept_number (side node sought) (sought / 2) (within_side n old node sought opened.1 opened.2)
          ∙ sym (ap (λ t. if t then Some value else at_number n old (side node sought) (sought / 2)) (apart_half sought number ne))

  pub put_level : Puts (suc n) old new first number value (length mid)
  put_level = record {
    extends = record { more = p.extends.more ++ added ∷ []; is = grown };
    within = new_within;
    found = λ sought lt.
        one_level n new (Some (length mid)) sought ∙ ap (λ x. at_number n new (side x sought) (sought / 2)) is_added
        ∙ found_there sought (half_fits (suc n) n sought refl lt)
        ∙ ap (λ o. if nat_eq sought number then Some value else o) (sym (one_level n old first sought));
  }

-- the same of a level that isn't the last
pub put_turn : (levels n : ℕ) (old mid : List Node) (first : Option ℕ) (number value below : ℕ) → levels ≡ suc n → IsWithin levels old first
    → Puts n old mid (side (node_at old first) number) (number / 2) value below
    → Puts levels old (mid ++ with_side (node_at old first) number below ∷ []) first number value (length mid)
put_turn levels n old mid first number value below e w p =
    let Within : ℕ → Type 0 = λ l. IsWithin l old first in
    let Put : ℕ → Type 0 = λ l. Puts l old (mid ++ with_side (node_at old first) number below ∷ []) first number value (length mid) in
    subst Put (sym e) (put_level n old mid first number value below (subst Within e w) p)

-- what is below the side of a number is there
pub side_within : (levels n : ℕ) (nodes : List Node) (first : Option ℕ) (number : ℕ) → levels ≡ suc n → IsWithin levels nodes first → IsWithin n nodes (side (node_at nodes first) number)
unfolding IsWithin
side_within levels n nodes first number e w =
    let Within : ℕ → Type 0 = λ l. IsWithin l nodes first in
    let opened : IsWithin (suc n) nodes first = subst Within e w in
    within_side n nodes (node_at nodes first) number opened.1 opened.2

-- the value itself, after the last digit
pub put_last : (nodes : List Node) (levels : ℕ) (first : Option ℕ) (number value : ℕ) → levels ≡ 0 → number < 2 ^ levels → Puts levels nodes nodes first number value value
unfolding IsWithin at_number
put_last nodes levels first number value e lt =
    let Put : ℕ → Type 0 = λ l. Puts l nodes nodes first number value value in
    let one : 2 ^ levels ≡ 1 = ap (λ l. 2 ^ l) e in
    subst Put (sym e) (record {
      extends = record { more = []; is = sym (append-nil nodes) };
      within = tt;
      found = λ sought fits.
          let same : sought ≡ number = omega (arith, one, lt, fits) in
          sym (ap (λ t. if t then Some value else first) ((Decides-eqb sought number).1 same));
    })
