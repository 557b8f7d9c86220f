-- Reading, writing and removing values and references that lie on a stack, the first one deepest.
use Rattle.std.proofs.Common.{reverse, ◌^◌, ◌%◌, ◌≡◌, ℕ, zero, suc, ◌+◌, ℤ, pos, List, [], ◌∷◌, ◌++◌, length, take, drop, Some, refl, sym, ap, ◌∙◌, arith, append_assoc, length-append, slice_get, slice_set, ◌-◌, subst}
use Rattle.std.proofs.lemmas.List.{length-reverse, set-append_right, append-nil, map-append, take-append-drop}
use Rattle.std.proofs.Math.Seq.{take-append_seam, drop-append_seam, drop-append-add}
use Rattle.std.proofs.Math.Nat.{mod-add-mod, mod-mod}
use Rattle.std.specs.Int.{w32, cast_signed}
use Rattle.std.proofs.lemmas.Grind.{reverse_onto}
use Rattle.arc_code.specs.declared.code.TheConstants.{MOST_TEXT}
use Rattle.arc_ast.specs.declared.tree.Kind.TheVariants as k
use Rattle.arc_spec.specs.Number.{converted, counted, low_byte}
use Rattle.arc_spec.specs.Meaning.{byte_count, formatted}
use Rattle.arc_spec.specs.World.{World, prints, local_at, Given, padded}
use Rattle.std.specs.Fmt.{signed_decimal}
use Rattle.arc_spec.specs.Resolved.{Piece, Bytes, Decimal, Character}
use Rattle.arc_spec.specs.HolderCounts.{ReturnFrame}
use Rattle.arc_ir.specs.ActionSteps.{Program}
use Rattle.arc_code.specs.declared.instr.Op.{Op}
use Rattle.arc_code.specs.declared.instr.Op.TheVariants.{Narrow, Get}
use Rattle.arc_code.specs.declared.instr.Instr.TheVariants.{Plain, PrintText}
use Rattle.arc_lower.specs.PlainActions.{PlainAction}
use Rattle.arc_lower.specs.Lowered.{conversion_actions, part_actions, format_actions, pop_actions, keep_actions, print_actions, zero_actions, fit_actions, forget_actions, nil_actions, fit_object_actions}
use Rattle.arc_lower.proofs.RunsCompose.{Leads, leads_same, running, Crosses, one_crosses, then_crosses, no_crosses, shows_nothing}
use Rattle.arc_lower.proofs.RecountedSteps.{moves, HasAt}

abbrev pub onto : {A : Type 0} → List A → List A → List A
onto [] stack = stack
onto (v ∷ values) stack = onto values (v ∷ stack)

-- what lies below is read and written alike
deep : {A : Type 0} (values stack : List A) (n m : ℕ) (u : A) → n ≡ length values + m
    → (slice_get (onto values stack) n ≡ slice_get stack m) × (slice_set (onto values stack) n u ≡ onto values (slice_set stack m u))
deep [] stack n m u e = let h : n ≡ m = omega arith in rw h (refl, refl)
deep (v ∷ values) stack n m u e = deep values (v ∷ stack) n (suc m) u (omega arith)

-- the value below all others
pub get_onto : {A : Type 0} (values stack : List A) (v : A) → slice_get (onto values (v ∷ stack)) (length values) ≡ Some v
get_onto values stack v = (deep values (v ∷ stack) (length values) 0 v (omega arith)).0

-- a variable below operands, of which the first one lies deepest
pub variable : (locals below : List ℤ) (i n : ℕ) (u : ℤ) → n + suc i ≡ length locals
    → (slice_get (onto locals below) n ≡ Some (local_at locals i)) × (slice_set (onto locals below) n u ≡ onto (slice_set locals i u) below)
variable [] below i n u e = let h : n + suc i ≡ 0 = e in absurd (omega (arith, h))
variable (v ∷ locals) below zero n u e = deep locals (v ∷ below) n 0 u (omega (arith, e))
variable (v ∷ locals) below (suc i) n u e = variable locals (v ∷ below) i n u (omega (arith, e))

pub get_below : {A : Type 0} (operands stack : List A) (n : ℕ) → slice_get (operands ++ stack) (length operands + n) ≡ slice_get stack n
get_below [] stack n = let e : 0 + n ≡ n = omega arith in ap (slice_get stack) e
get_below (v ∷ operands) stack n = search (arith, get_below operands stack n)

pub set_below : {A : Type 0} (operands stack : List A) (n : ℕ) (u : A)
    → slice_set (operands ++ stack) (length operands + n) u ≡ operands ++ slice_set stack n u
set_below operands stack n u = grind (arith, set-append_right operands stack (length operands) (length operands + n) u)

-- the count of n bytes, as it is kept while a format is printed
abbrev pub kept : ℕ → ℤ
kept n = pos (n % 2 ^ 32)

pub kept_counted : (n : ℕ) (bytes : List ℕ) → counted (kept n) bytes ≡ kept (n + length bytes)
kept_counted n bytes = ap pos (ap (λ x. (x + length bytes) % 2 ^ 32) (mod-mod n (2 ^ 32)) ∙ mod-add-mod n (2 ^ 32) (length bytes))

-- ---- what lies on others, as one list before them

pub onto_reverse : {A : Type 0} (values rest : List A) → onto values rest ≡ reverse values ++ rest
onto_reverse [] rest = refl
onto_reverse (v ∷ values) rest = onto_reverse values (v ∷ rest) ∙ sym (ap (λ l. l ++ rest) (reverse_onto values v []) ∙ append_assoc (reverse values) (v ∷ []) rest)

-- what holds of so many on others holds of these
pub onto_front : {A : Type 0} (Q : ℕ → List A → Type 0) (values rest : List A) → ((front : List A) → Q (length front) (front ++ rest)) → Q (length values) (onto values rest)
onto_front Q values rest h = rw (onto_reverse values rest, ← length-reverse values) (h (reverse values))

-- those that lie below
pub drop_onto : {A : Type 0} (values rest : List A) → drop (length values) (onto values rest) ≡ rest
drop_onto values rest = onto_front (λ n list. drop n list ≡ rest) values rest (λ front. drop-append_seam front rest)

-- all but the one below these
pub without_below : {A : Type 0} (values rest : List A) (r : A) → take (length values) (onto values (r ∷ rest)) ++ drop (suc (length values)) (onto values (r ∷ rest)) ≡ onto values rest
without_below values rest r = grind (arith, onto_reverse, length-reverse, take-append_seam, drop-append-add (reverse values) (r ∷ rest) 1)

-- ---- A run prints a format, and leaves the count of its bytes.

module _ (p : Program) (frames : List ReturnFrame) (rs : List ℕ) where
  -- what leaves the references as they are
  abbrev Passes : List PlainAction → List ℤ → World → List ℤ → World → Type 0
  Passes xs stack w stack' w' = Crosses p frames xs rs stack w rs stack' w'

  -- what prints some bytes, where n are printed already
  abbrev Prints : List PlainAction → List ℤ → ℕ → List ℕ → World → Type 0
  Prints xs stack n a w = Passes xs (kept n ∷ stack) w (kept (n + length a) ∷ stack) (prints a w)

  -- a print of some bytes, and of those after them
  print_both : {xs ys : List PlainAction} {stack : List ℤ} (n : ℕ) (a b : List ℕ) (w : World) → Prints xs stack n a w → Prints ys stack (n + length a) b (prints a w)
      → Prints (xs ++ ys) stack n (a ++ b) w
  print_both n a b w first next = search (arith, length-append, map-append, append_assoc, then_crosses)

  part_prints : (bytes : List ℕ) (stack : List ℤ) (n : ℕ) (w : World) → Prints (PrintText bytes ∷ []) stack n bytes w
  part_prints bytes stack n w = rw (← kept_counted n bytes) (one_crosses (λ pc. leads_same (moves p) _ _ refl))

  parts_print : (full : ℕ) (bytes : List ℕ) (stack : List ℤ) (n : ℕ) (w : World) → Prints (part_actions full bytes) stack n bytes w
  parts_print zero bytes stack n w = part_prints bytes stack n w
  parts_print (suc full) bytes stack n w =
      let a = take MOST_TEXT bytes in
      let b = drop MOST_TEXT bytes in
      subst (λ l. Prints (part_actions (suc full) bytes) stack n l w) (take-append-drop MOST_TEXT bytes)
      (print_both n a b w (part_prints a stack n w) (parts_print full b stack (n + length a) (prints a w)))

  -- a copy of the first value that isn't printed yet is printed, and others after it
  value_prints : {print : Op} {others : List PlainAction} (left stack : List ℤ) (v : ℤ) (n : ℕ) (w : World) (bytes later : List ℕ)
      → Passes (Plain print ∷ []) (v ∷ kept n ∷ onto left (v ∷ stack)) w (counted (kept n) bytes ∷ onto left (v ∷ stack)) (prints bytes w)
      → Prints others (onto left (v ∷ stack)) (n + length bytes) later (prints bytes w)
      → Prints (conversion_actions (Plain print) (suc (length left)) ++ others) (onto left (v ∷ stack)) n (bytes ++ later) w
  value_prints {print} left stack v n w bytes later prints_it next =
      let copy : List PlainAction = Plain (Get (suc (length left))) ∷ [] in
      let first : Prints (copy ++ Plain print ∷ []) (onto left (v ∷ stack)) n bytes w =
      rw (← kept_counted n bytes) (then_crosses {xs = copy} (one_crosses (λ pc. rw (get_onto left stack v) shows_nothing)) prints_it) in
      print_both n bytes later w first next

  -- n bytes are printed already
  format_passes : (pieces : List Piece) (left stack : List ℤ) (n : ℕ) (w : World) → Prints (format_actions pieces (length left)) (onto left stack) n (formatted pieces left) w
  format_passes [] left stack n w = search (arith, append-nil, no_crosses)
  format_passes (Bytes bytes ∷ others) left stack n w = search (arith, print_both, parts_print, prints, format_passes others left stack (n + length bytes) (prints bytes w))
  format_passes (Decimal ∷ others) (v ∷ left) stack n w =
      value_prints left stack v n w (signed_decimal v) (formatted others left) (one_crosses (λ pc. leads_same (moves p) _ _ refl)) (format_passes others left (v ∷ stack) _ _)
  format_passes (Character ∷ others) (v ∷ left) stack n w =
      value_prints left stack v n w (low_byte v ∷ []) (formatted others left) (one_crosses (λ pc. leads_same (moves p) _ _ refl)) (format_passes others left (v ∷ stack) _ _)
  format_passes (_ ∷ others) [] stack n w = format_passes others [] stack n w

  pops_front : (front rest : List ℤ) (w : World) → Passes (pop_actions (length front)) (front ++ rest) w rest w
  pops_front [] rest w = no_crosses
  pops_front (v ∷ front) rest w = then_crosses (one_crosses (λ pc. shows_nothing)) (pops_front front rest w)

  pops_pass : (w : World) (values rest : List ℤ) → Passes (pop_actions (length values)) (onto values rest) w rest w
  pops_pass w values rest = onto_front (λ n stack. Passes (pop_actions n) stack w rest w) values rest (λ front. pops_front front rest w)

  pub keeps_pass : (values stack : List ℤ) (c : ℤ) (w : World) → Passes (keep_actions (length values)) (c ∷ onto values stack) w (c ∷ stack) w
  keeps_pass [] stack c w = no_crosses
  keeps_pass (v ∷ values) stack c w =
      then_crosses (one_crosses (λ pc. rw (get_onto values stack v, (deep values (v ∷ stack) (length values) 0 c (omega arith)).1) shows_nothing))
      (pops_pass w values (c ∷ stack))

  pub print_passes : (pieces : List Piece) (values stack : List ℤ) (w : World)
      → Passes (print_actions pieces (length values)) (onto values stack) w (byte_count (formatted pieces values) ∷ stack) (prints (formatted pieces values) w)
  print_passes pieces values stack w =
      let bytes = formatted pieces values in
      let e : 0 + length bytes ≡ length bytes = omega arith in
      let same : converted k.Int (kept (length bytes)) ≡ byte_count bytes = ap (cast_signed w32) (mod-mod (length bytes) (2 ^ 32)) in
      then_crosses (one_crosses (λ pc. shows_nothing)) (then_crosses (rw e at (format_passes pieces values stack 0 w))
      (then_crosses {xs = Plain (Narrow k.Int) ∷ []} (rw (← same) (one_crosses (λ pc. shows_nothing)))
      (keeps_pass values stack (byte_count bytes) (prints bytes w))))

-- ---- A run makes what is given to a function its variables.

module _ {A : Type 0} (none : A) (Crossed : List PlainAction → List A → List A → Type 0) (takes gives : ℕ → List PlainAction)
    (both : (xs ys : List PlainAction) (a b c : List A) → Crossed xs a b → Crossed ys b c → Crossed (xs ++ ys) a c)
    (taken : (values rest : List A) → Crossed (takes (length values)) (onto values rest) rest)
    (given_more : (n : ℕ) (list : List A) → Crossed (gives n) list (onto (padded none n []) list)) where
  fits_by : (slots : ℕ) (given list : List A) (m n : ℕ) → m ≡ length given - slots → n ≡ slots - length given
      → Crossed (takes m ++ gives n) (onto given list) (onto (padded none slots given) list)
  fits_by zero given list m n e f =
      let all : m ≡ length given = omega arith in
      let nothing : n ≡ 0 = omega arith in
      rw (all, nothing) (both _ _ _ _ _ (taken given list) (given_more 0 list))
  fits_by (suc k) [] list m n e f =
      let nothing : m ≡ 0 = omega arith in
      let all : n ≡ suc k = omega arith in
      rw (nothing, all) (both _ _ _ _ _ (taken [] list) (given_more (suc k) list))
  fits_by (suc k) (v ∷ given) list m n e f = fits_by k given (v ∷ list) m n (omega arith) (omega arith)

module _ (p : Program) (frames : List ReturnFrame) where
  zeros_pass : (rs : List ℕ) (w : World) (n : ℕ) (stack : List ℤ) → Passes p frames rs (zero_actions n) stack w (onto (padded (pos 0) n []) stack) w
  zeros_pass rs w zero stack = no_crosses
  zeros_pass rs w (suc n) stack = then_crosses (one_crosses (λ pc. shows_nothing)) (zeros_pass rs w n (pos 0 ∷ stack))

  -- where the references change and the stack doesn't
  abbrev Shifts : (stack : List ℤ) → World → List PlainAction → (rs rs' : List ℕ) → Type 0
  Shifts stack w xs rs rs' = Crosses p frames xs rs stack w rs' stack w

  forgets_front : (stack : List ℤ) (w : World) (front rest : List ℕ) → Shifts stack w (forget_actions (length front)) (front ++ rest) rest
  forgets_front stack w [] rest = no_crosses
  forgets_front stack w (r ∷ front) rest = then_crosses (one_crosses (λ pc. shows_nothing)) (forgets_front stack w front rest)

  pub forgets_shift : (stack : List ℤ) (w : World) (objects rest : List ℕ) → Shifts stack w (forget_actions (length objects)) (onto objects rest) rest
  forgets_shift stack w objects rest = onto_front (λ n names. Shifts stack w (forget_actions n) names rest) objects rest (λ front. forgets_front stack w front rest)

  nils_shift : (stack : List ℤ) (w : World) (n : ℕ) (rs : List ℕ) → Shifts stack w (nil_actions n) rs (onto (padded 0 n []) rs)
  nils_shift stack w zero rs = no_crosses
  nils_shift stack w (suc n) rs = then_crosses (one_crosses (λ pc. shows_nothing)) (nils_shift stack w n (0 ∷ rs))

  -- numbers and references become what a function takes
  pub passing_leads : (slots parameters n m : ℕ) (given : Given) (stack : List ℤ) (rs : List ℕ) (w : World) (pc : ℕ) → length given.numbers ≡ n → length given.objects ≡ m → HasAt p pc (fit_actions n slots ++ fit_object_actions m parameters)
      → Leads (moves p) (running frames (onto given.objects rs) pc (onto given.numbers stack) w) (running frames (onto (padded 0 parameters given.objects) rs) (pc + length (fit_actions n slots ++ fit_object_actions m parameters)) (onto (padded (pos 0) slots given.numbers) stack) w)
  passing_leads slots parameters n m given stack rs w pc e f =
      let names = onto given.objects rs in
      let numbers = fits_by (pos 0) (λ xs a b. Passes p frames names xs a w b w) pop_actions zero_actions (λ xs ys a b c. then_crosses)
      (pops_pass p frames names w) (zeros_pass names w) slots given.numbers stack (n - slots) (slots - n) in
      let objects = fits_by 0 (Shifts (onto (padded (pos 0) slots given.numbers) stack) w) forget_actions nil_actions (λ xs ys a b c. then_crosses)
      (forgets_shift _ w) (nils_shift _ w) parameters given.objects rs (m - parameters) (parameters - m) in
      (then_crosses (numbers (ap (λ k. k - slots) (sym e)) (ap (λ k. slots - k) (sym e)))
      (objects (ap (λ k. k - parameters) (sym f)) (ap (λ k. parameters - k) (sym f)))).leads pc

pub padded_length : {A : Type 0} (none : A) (n : ℕ) (given : List A) → length (padded none n given) ≡ n
padded_length none zero given = refl
padded_length none (suc n) [] = ap suc (padded_length none n [])
padded_length none (suc n) (a ∷ given) = ap suc (padded_length none n given)
