-- What is known of the functions of a source, one function more at a time.
use Rattle.std.proofs.Common.{◌≡◌, ℕ, suc, Bool, true, false, ◌&&◌, ◌||◌, List, [], ◌∷◌, ◌++◌, length, cond, Option, Some, None, option_map, take, get_or, length-take-le, ◌+◌, ◌<◌, ◌≤◌, if◌then◌else◌, append_assoc, refl, sym, ap, ◌∙◌, arith}
use Rattle.std.specs.Str.{bytes_eq}
use Rattle.std.proofs.lemmas.List.{append-nil, take_more}
use Rattle.std.proofs.lemmas.Slice.Eq.{bytes_eq-Decides}
use Rattle.arc_ast.specs.Tree.{FunctionTree, function_tree, function_trees}
use Rattle.arc_ast.specs.declared.tree.Function.{Function}
use Rattle.arc_class.specs.declared.look.Seen.{Seen}
use Rattle.arc_class.specs.declared.table.Declared.{Declared}
use Rattle.arc_class.specs.Fault.{reported}
use Rattle.arc_class.specs.private.FunctionSummary.{Sums, IsMore, or_number, joined, fault_with}
use Rattle.arc_class.specs.BrokenRules.{Broken, first, earlier_of}
use Rattle.arc_class.specs.Classes.{bodies}
use Rattle.arc_class.specs.FunctionRules.{duplicate, is_library, clashes}
use Rattle.arc_class.specs.BrokenRules.{in_order}
use Rattle.arc_class.specs.FunctionNames.{has_body, signature, known, first_named, number_of, is_named, is_main}
use Rattle.arc_class.specs.Table.{at_name}
use Rattle.arc_class.proofs.FirstBrokenRule.{first-append, earlier_of-none}
use Rattle.arc_class.proofs.NameEquality.{self_eq, apart}

-- ---- duplicates

duplicates-push : (before xs : List FunctionTree) (f : FunctionTree) → in_order duplicate before (xs ++ f ∷ []) ≡ in_order duplicate before xs ++ duplicate (before ++ xs) f
duplicates-push before [] f = append-nil (duplicate before f) ∙ ap (λ b. duplicate b f) (sym (append-nil before))
duplicates-push before (x ∷ xs) f =
    ap (λ d. duplicate before x ++ d) (duplicates-push (before ++ x ∷ []) xs f ∙ ap (λ b. in_order duplicate (before ++ x ∷ []) xs ++ duplicate b f) (append_assoc before (x ∷ []) xs))
    ∙ sym (append_assoc (duplicate before x) (in_order duplicate (before ++ x ∷ []) xs) (duplicate (before ++ x ∷ xs) f))

first-push : (xs : List FunctionTree) (f : FunctionTree) → first (in_order duplicate [] (xs ++ f ∷ [])) ≡ earlier_of (first (in_order duplicate [] xs)) (first (duplicate xs f))
first-push xs f = ap first (duplicates-push [] xs f) ∙ first-append (in_order duplicate [] xs) (duplicate xs f)

-- ---- names

abbrev or_first : Option FunctionTree → Bool → FunctionTree → Option FunctionTree
or_first (Some g) b f = Some g
or_first None b f = if b then Some f else None

first_named-push : (name : List ℕ) (fs : List FunctionTree) (f : FunctionTree) → first_named name (fs ++ f ∷ []) ≡ or_first (first_named name fs) (bytes_eq name f.name) f
first_named-push name [] f = refl
first_named-push name (g ∷ fs) f = go (bytes_eq name g.name) (first_named-push name fs f)
  where
    go : (b : Bool) → first_named name (fs ++ f ∷ []) ≡ or_first (first_named name fs) (bytes_eq name f.name) f
        → (if b then Some g else first_named name (fs ++ f ∷ [])) ≡ or_first (if b then Some g else first_named name fs) (bytes_eq name f.name) f
    go true h = refl
    go false h = h

number-more : (o : Option ℕ) (p : Bool) (n : ℕ) → option_map (λ m. suc m) (or_number o p n) ≡ or_number (option_map (λ m. suc m) o) p (suc n)
number-more (Some m) p n = refl
number-more None true n = refl
number-more None false n = refl

number_of-push : (t : FunctionTree → Bool) (fs : List FunctionTree) (f : FunctionTree) → number_of t (fs ++ f ∷ []) ≡ or_number (number_of t fs) (t f && has_body f) (bodies fs)
number_of-push t [] f = go (has_body f) (t f)
  where
    go : (b p : Bool) → (if b then (if p then Some 0 else option_map (λ m. suc m) None) else None) ≡ or_number None (p && b) 0
    go true true = refl
    go true false = refl
    go false true = refl
    go false false = refl
number_of-push t (g ∷ fs) f = go (has_body g) (t g) (number_of-push t fs f)
  where
    go : (b p : Bool) → number_of t (fs ++ f ∷ []) ≡ or_number (number_of t fs) (t f && has_body f) (bodies fs)
        → (if b then (if p then Some 0 else option_map (λ m. suc m) (number_of t (fs ++ f ∷ []))) else number_of t (fs ++ f ∷ []))
        ≡ or_number (if b then (if p then Some 0 else option_map (λ m. suc m) (number_of t fs)) else number_of t fs) (t f && has_body f) (if b then suc (bodies fs) else bodies fs)
    go true true h = refl
    go true false h = ap (option_map (λ m. suc m)) h ∙ number-more (number_of t fs) (t f && has_body f) (bodies fs)
    go false p h = h

none_number : (name : List ℕ) (fs : List FunctionTree) → first_named name fs ≡ None → number_of (is_named name) fs ≡ None
none_number name [] h = refl
none_number name (g ∷ fs) h = go (bytes_eq name g.name) h (none_number name fs)
  where
    next : (p : Bool) → number_of (is_named name) fs ≡ None → (if p then option_map (λ m. suc m) (number_of (is_named name) fs) else number_of (is_named name) fs) ≡ None
    next true e = ap (option_map (λ m. suc m)) e
    next false e = e

    go : (b : Bool) → (if b then Some g else first_named name fs) ≡ None → (first_named name fs ≡ None → number_of (is_named name) fs ≡ None)
        → (if has_body g then (if b then Some 0 else option_map (λ m. suc m) (number_of (is_named name) fs)) else number_of (is_named name) fs) ≡ None
    go true e ih = cc
    go false e ih = next (has_body g) (ih e)

abbrev with_number : Option ℕ → Option FunctionTree → Option Declared
with_number number found = option_map (λ g. record { signature = signature g; body = number }) found

known-here : (fs : List FunctionTree) (f : FunctionTree) → known (fs ++ f ∷ []) f.name ≡ Some (joined (known fs f.name) (bodies fs) f)
known-here fs f =
    let n = f.name in
    ap (λ m. with_number m (first_named n (fs ++ f ∷ []))) (number_of-push (is_named n) fs f) ∙ ap (with_number (or_number (number_of (is_named n) fs) (bytes_eq n n && has_body f) (bodies fs))) (first_named-push n fs f)
    ∙ ap (λ b. with_number (or_number (number_of (is_named n) fs) (b && has_body f) (bodies fs)) (or_first (first_named n fs) b f)) (self_eq n) ∙ go (first_named n fs) (number_of (is_named n) fs) (none_number n fs)
  where
    go : (o : Option FunctionTree) (m : Option ℕ) → (o ≡ None → m ≡ None) → with_number (or_number m (has_body f) (bodies fs)) (or_first o true f) ≡ Some (joined (with_number m o) (bodies fs) f)
    go (Some g) m h = refl
    go None m h = ap (λ m. with_number (or_number m (has_body f) (bodies fs)) (Some f)) (h refl)

known-apart : (fs : List FunctionTree) (f : FunctionTree) (name : List ℕ) → bytes_eq name f.name ≡ false → known (fs ++ f ∷ []) name ≡ known fs name
known-apart fs f name e =
    ap (λ m. with_number m (first_named name (fs ++ f ∷ []))) (number_of-push (is_named name) fs f) ∙ ap (with_number (or_number (number_of (is_named name) fs) (bytes_eq name f.name && has_body f) (bodies fs))) (first_named-push name fs f)
    ∙ ap (λ b. with_number (or_number (number_of (is_named name) fs) (b && has_body f) (bodies fs)) (or_first (first_named name fs) b f)) e ∙ go (first_named name fs) (number_of (is_named name) fs)
  where
    go : (o : Option FunctionTree) (m : Option ℕ) → with_number (or_number m false (bodies fs)) (or_first o false f) ≡ with_number m o
    go (Some g) (Some m) = refl
    go (Some g) None = refl
    go None m = refl

known-push : (fs : List FunctionTree) (f : FunctionTree) (name : List ℕ) → known (fs ++ f ∷ []) name ≡ cond (bytes_eq f.name name) (Some (joined (known fs f.name) (bodies fs) f)) (known fs name)
known-push fs f name = go (bytes_eq f.name name) refl
  where
    go : (b : Bool) → bytes_eq f.name name ≡ b → known (fs ++ f ∷ []) name ≡ cond b (Some (joined (known fs f.name) (bodies fs) f)) (known fs name)
    go true e = ap (known (fs ++ f ∷ [])) (sym ((bytes_eq-Decides f.name name).0 e)) ∙ known-here fs f
    go false e = known-apart fs f name (apart f.name name e)

-- ---- one more

bodies-push : (fs : List FunctionTree) (f : FunctionTree) → bodies (fs ++ f ∷ []) ≡ (if has_body f then suc (bodies fs) else bodies fs)
bodies-push [] f = refl
bodies-push (g ∷ fs) f = go (has_body g) (has_body f) (bodies-push fs f)
  where
    go : (b p : Bool) → bodies (fs ++ f ∷ []) ≡ (if p then suc (bodies fs) else bodies fs)
        → (if b then suc (bodies (fs ++ f ∷ [])) else bodies (fs ++ f ∷ [])) ≡ (if p then suc (if b then suc (bodies fs) else bodies fs) else (if b then suc (bodies fs) else bodies fs))
    go true true h = ap (λ n. suc n) h
    go true false h = ap (λ n. suc n) h
    go false true h = h
    go false false h = h

fault_by : (found : Option Broken) (at : ℕ) (b : Bool)
    → (if b then earlier_of found (Some (record { at = at; number = 21 })) else found) ≡ earlier_of found (first (if b then record { at = at; number = 21 } ∷ [] else []))
fault_by found at true = refl
fault_by found at false = sym (earlier_of-none found)

fault-more : (xs : List FunctionTree) (old : Seen) (f : FunctionTree) → Sums xs old → fault_with old.fault (at_name old.known f.name) f ≡ first (in_order duplicate [] (xs ++ f ∷ []))
fault-more xs old f h =
    ap (λ o. fault_with old.fault o f) (h.knows f.name) ∙ fault_by (option_map reported old.fault) f.at (is_library f.name || clashes (known xs f.name) f) ∙ ap (λ s. earlier_of s (first (duplicate xs f))) h.fault ∙ sym (first-push xs f)

sums_more : (xs : List FunctionTree) (old new : Seen) (f : FunctionTree) → Sums xs old → IsMore old f new → Sums (xs ++ f ∷ []) new
sums_more xs old new f h m = record {
  knows = λ name. m.knows name ∙ ap (λ o. cond (bytes_eq f.name name) (Some (joined o old.bodies f)) (at_name old.known name)) (h.knows f.name)
      ∙ ap (λ n. cond (bytes_eq f.name name) (Some (joined (known xs f.name) n f)) (at_name old.known name)) h.counts
      ∙ ap (λ o. cond (bytes_eq f.name name) (Some (joined (known xs f.name) (bodies xs) f)) o) (h.knows name) ∙ sym (known-push xs f name);
  counts = m.bodies ∙ ap (λ n. if has_body f then suc n else n) h.counts ∙ sym (bodies-push xs f);
  main = m.main ∙ ap (λ o. or_number o (is_main f && has_body f) old.bodies) h.main ∙ ap (or_number (number_of is_main xs) (is_main f && has_body f)) h.counts ∙ sym (number_of-push is_main xs f);
  fault = m.fault ∙ fault-more xs old f h;
}

trees-append : (fs gs : List Function) → function_trees (fs ++ gs) ≡ function_trees fs ++ function_trees gs
trees-append [] gs = refl
trees-append (f ∷ fs) gs = ap (λ us. function_tree f ∷ us) (trees-append fs gs)

pub turn : (fs : List Function) (i : ℕ) (f : Function) (old new : Seen) → i < length fs → f ≡ get_or fs i f → Sums (function_trees (take i fs)) old → IsMore old (function_tree f) new → Sums (function_trees (take (i + 1) fs)) new
turn fs i f old new l e h m = rw (take_more fs i f l, sym e, trees-append) (sums_more (function_trees (take i fs)) old new (function_tree f) h m)

length-trees : (fs : List Function) → length (function_trees fs) ≡ length fs
length-trees [] = refl
length-trees (f ∷ fs) = ap (λ n. suc n) (length-trees fs)

bodies-le : (fs : List FunctionTree) → bodies fs ≤ length fs
bodies-le [] = omega arith
bodies-le (f ∷ fs) = go (has_body f) (bodies-le fs)
  where
    go : (b : Bool) → bodies fs ≤ length fs → (if b then suc (bodies fs) else bodies fs) ≤ suc (length fs)
    go true h = omega arith
    go false h = omega arith

pub few_bodies : (fs : List Function) (i : ℕ) (seen : Seen) → i < length fs → Sums (function_trees (take i fs)) seen → seen.bodies ≤ i
few_bodies fs i seen l h =
    let n : length (function_trees (take i fs)) ≡ i = length-trees (take i fs) ∙ length-take-le i fs (omega arith) in
    let b : bodies (function_trees (take i fs)) ≤ length (function_trees (take i fs)) = bodies-le (function_trees (take i fs)) in
    omega (arith, h.counts)
