-- The stack effect of actions one after another: how many numbers, references, temporaries and variables there are after
-- them, where each of them has as many as it needs.
use Rattle.std.proofs.Common.{◌≡◌, ℕ, zero, suc, ◌+◌, ◌-◌, ◌/◌, ◌<◌, ◌≤◌, false, List, [], ◌∷◌, ◌++◌, length, drop, refl, sym, ap, ◌∙◌, subst, arith}
use Rattle.std.proofs.lemmas.Bool.{ltb-true}
use Rattle.std.proofs.lemmas.Option.{slice_get_past}
use Rattle.arc_code.specs.declared.code.TheConstants.{MOST_TEXT}
use Rattle.arc_ast.specs.declared.tree.Kind.TheVariants as k
use Rattle.arc_ast.specs.declared.tree.Sign.TheVariants as signs
use Rattle.arc_spec.specs.declared.location.Location.{Location}
use Rattle.arc_spec.specs.declared.class.Gives.{Gives}
use Rattle.arc_spec.specs.declared.class.Gives.TheVariants as gives
use Rattle.arc_spec.specs.Classes.{init_selector}
use Rattle.arc_spec.specs.Resolved.{Piece, Bytes, Decimal, Character, Function, Program}
use Rattle.arc_spec.specs.Meaning.{function_at, nothing_giving}
use Rattle.arc_code.specs.declared.instr.Op.{Op}
use Rattle.arc_code.specs.declared.instr.Op.TheVariants.{Narrow, Get, Set, Declare, ReadRef, Alloc}
use Rattle.arc_code.specs.declared.instr.Instr.TheVariants.{Plain, PrintText, Call, Send, SendSuper, SendTo, SendToSuper, StoreStrong, StoreGlobal, StoreField, Empty, DropAll, Settle}
use Rattle.arc_code.specs.declared.effect.Effect.{Effect}
use Rattle.arc_code.specs.declared.effect.Height.{Height}
use Rattle.arc_code.specs.Effects.{as_number, as_object, operation_effect, passes}
use Rattle.arc_lower.specs.PlainActions.{PlainAction}
use Rattle.arc_lower.specs.Lowered.{part_actions, piece_actions, format_actions, pop_actions, keep_actions, print_actions, get_actions, set_actions, zero_actions, fit_actions, declare_actions, read_actions, store_actions, empty_actions, all_empty_actions, gives_at, number_of, slots_of, parameters_of, forget_actions, nil_actions, fit_object_actions, passing_actions, take_actions, call_actions}
use Rattle.arc_lower.specs.Size.{object_parameters}
use Rattle.arc_lower.specs.Heights.{height, next_height}

-- ---- the function that is called

-- a number of a function that gives what is wanted, or of one that does nothing
abbrev pub IsCalled : Program → Gives → ℕ → Type 0
IsCalled P wanted f = number_of P wanted f ≡ f

pub number_there : (P : Program) (wanted : Gives) (f : ℕ) → IsCalled P wanted (number_of P wanted f)
number_there P wanted f = grind (arith, slice_get_past)

pub nothing_there : (P : Program) (wanted : Gives) (f : ℕ) → gives_at P wanted f ≡ false → nothing_giving wanted ≡ function_at P wanted f
nothing_there P wanted f e = grind arith

-- a function that there isn't is as the one that is called for it
pub function_same : (P : Program) (wanted : Gives) (f : ℕ) → function_at P wanted (number_of P wanted f) ≡ function_at P wanted f
function_same P wanted f = grind (arith, slice_get_past, nothing_there)

-- ---- heights

-- heights of which each number is the same
abbrev pub Alike : Height → Height → Type 0
Alike h i = (h.numbers ≡ i.numbers) × (h.names ≡ i.names) × (h.temporaries ≡ i.temporaries) × (h.variables ≡ i.variables)

pub alike_same : (h i : Height) → Alike h i → h ≡ i
alike_same h i e =
    ap (λ x. height x h.names h.temporaries h.variables) e.0 ∙ ap (λ x. height i.numbers x h.temporaries h.variables) e.1
    ∙ ap (λ x. height i.numbers i.names x h.variables) e.2 ∙ ap (height i.numbers i.names i.temporaries) e.3

-- a height with so many numbers and variables more below
abbrev pub over : (r s : ℕ) → Height → Height
over r s h = height (h.numbers + r) h.names h.temporaries (h.variables + s)

-- what an effect takes that isn't there at a height
abbrev pub lacking : Effect → Height → ℕ
lacking e h = (e.numbers_taken - h.numbers) + (e.names_taken - h.names)

-- at this height an operation finds what it looks for, or lacks nothing that it takes; a function with temporaries declares no variable
abbrev pub Reaches : Op → Height → Type 0
Reaches (Get depth) h = depth < h.numbers
Reaches (Set depth) h = suc depth < h.numbers
Reaches (ReadRef i) h = i < h.variables
Reaches Declare h = h.temporaries ≡ 0
Reaches o h = lacking (operation_effect o) h ≡ 0

pub enough : (o : Op) (h : Height) → Reaches o h → lacking (operation_effect o) h ≡ 0
enough o h reaches = search arith

module _ (P : Program) where
  -- the same of an action that goes on with the next one; no reference outlives the temporaries
  abbrev pub Needs : PlainAction → Height → Type 0
  Needs (Plain o) h = Reaches o h
  Needs (PrintText t) h = 1 ≤ h.numbers
  Needs (Call f wanted) h = (slots_of P wanted f ≤ h.numbers) × IsCalled P wanted f × (parameters_of P wanted f ≤ h.names)
  Needs (Send selector takes objects wanted) h = (passes signs.Class takes ≤ h.numbers) × (objects ≤ h.names)
  Needs (SendSuper from selector takes objects wanted) h = (passes signs.Class takes ≤ h.numbers) × (objects ≤ h.names)
  Needs (SendTo selector takes objects wanted) h = (takes ≤ h.numbers) × (suc objects ≤ h.names)
  Needs (SendToSuper from selector takes objects wanted) h = (takes ≤ h.numbers) × (suc objects ≤ h.names)
  Needs (StoreStrong i) h = (1 ≤ h.names) × (i < h.variables)
  Needs (StoreGlobal i) h = 1 ≤ h.names
  Needs (StoreField class index) h = 2 ≤ h.names
  Needs (Empty i) h = i < h.variables
  Needs DropAll h = h.names ≡ 0
  Needs _ h = ⊥

module _ (P : Program) (r s : ℕ) where
  -- from one height, below which so many numbers and variables more lie, these actions come to the other, and each has what it needs
  abbrev pub Types : Height → List PlainAction → Height → Type 0
  Types h [] g = h ≡ g
  Types h (x ∷ xs) g = Needs P x (over r s h) × Types (next_height P x h) xs g

  pub types_then : (h : Height) (xs : List PlainAction) (g : Height) (ys : List PlainAction) (i : Height) → Types h xs g → Types g ys i → Types h (xs ++ ys) i
  types_then h [] g ys i first next = subst (λ x. Types x ys i) (sym first) next
  types_then h (x ∷ xs) g ys i first next = (first.0, types_then (next_height P x h) xs g ys i first.1 next)

  -- ---- numbers, from any height and to any height that have so many

  pub pops_type : (n : ℕ) (h g : Height) → Alike h (record g { numbers = n + g.numbers }) → Types h (pop_actions n) g
  pops_type zero h g e = alike_same _ _ (omega arith)
  pops_type (suc n) h g e = (omega arith, pops_type n _ _ (omega arith))

  zeros_type : (n : ℕ) (h g : Height) → Alike (record h { numbers = n + h.numbers }) g → Types h (zero_actions n) g
  zeros_type zero h g e = alike_same _ _ (omega arith)
  zeros_type (suc n) h g e = (omega arith, zeros_type n _ _ (omega arith))

  -- ---- formats, above the count of bytes

  parts_type : (full : ℕ) (bytes : List ℕ) (h g : Height) → 1 ≤ g.numbers → Alike h g → Types h (part_actions full bytes) g
  parts_type zero bytes h g some e = (omega arith, alike_same _ _ (omega arith))
  parts_type (suc full) bytes h g some e = (omega arith, parts_type full (drop MOST_TEXT bytes) _ _ some (omega arith))

  -- the values that aren't printed yet lie below the count, the first one deepest
  format_types : (pieces : List Piece) (rest : ℕ) (h g : Height) → suc rest ≤ g.numbers → Alike h g → Types h (format_actions pieces rest) g
  format_types [] rest h g le e = alike_same _ _ (omega arith)
  format_types (Bytes bytes ∷ others) rest h g le e =
      types_then h (piece_actions (Bytes bytes) rest) g (format_actions others rest) g (parts_type ((length bytes - 1) / MOST_TEXT) bytes h g (omega arith) e)
      (format_types others rest g g le (omega arith))
  format_types (Decimal ∷ others) (suc rest) h g le e = (omega arith, (omega arith, format_types others rest _ g (omega arith) (omega arith)))
  format_types (Character ∷ others) (suc rest) h g le e = (omega arith, (omega arith, format_types others rest _ g (omega arith) (omega arith)))
  format_types (_ ∷ others) zero h g le e = format_types others zero h g le e

  pub print_types : (pieces : List Piece) (n a : ℕ) (h g : Height) → g.numbers ≡ suc a → Alike h (record g { numbers = n + a }) → Types h (print_actions pieces n) g
  print_types pieces n a h g some e = (
    omega arith,
    types_then _ (format_actions pieces n) (record g { numbers = suc (n + a) }) (Plain (Narrow k.Int) ∷ keep_actions n) g
        (format_types pieces n _ _ (omega arith) (omega arith)) (omega arith, search (arith, alike_same, pops_type)),
  )

  -- ---- variables that hold numbers

  module _ (b c d slots depth : ℕ) where
    pub get_types : (i : Location) (a : ℕ) → depth + slots ≤ a + r → Types (height a b c d) (get_actions slots depth i) (height (suc a) b c d)
    get_types i a h = search (arith, alike_same, ltb-true)

    pub set_types : (i : Location) (a : ℕ) → depth + slots ≤ a + r → Types (height (suc a) b c d) (set_actions slots depth i) (height (suc a) b c d)
    set_types i a h = search (arith, alike_same, ltb-true)

  -- ---- references, and calls

  pub forgets_type : (n : ℕ) (h g : Height) → Alike h (record g { names = n + g.names }) → Types h (forget_actions n) g
  forgets_type zero h g e = alike_same _ _ (omega arith)
  forgets_type (suc n) h g e = (omega arith, forgets_type n _ _ (omega arith))

  nils_type : (n : ℕ) (h g : Height) → Alike (record h { names = n + h.names }) g → Types h (nil_actions n) g
  nils_type zero h g e = alike_same _ _ (omega arith)
  nils_type (suc n) h g e = (omega arith, nils_type n _ _ (omega arith))

  -- so many numbers and references become what a function takes
  pub passing_types : (wanted : Gives) (f values objects a b c d : ℕ) → Types (height (values + a) (objects + b) c d) (passing_actions P wanted f values objects) (height (slots_of P wanted f + a) (parameters_of P wanted f + b) c d)
  passing_types wanted f values objects a b c d =
      let slots = slots_of P wanted f in
      let parameters = parameters_of P wanted f in
      types_then _ (fit_actions values slots) (height (slots + a) (objects + b) c d) (fit_object_actions objects parameters) _
      (types_then _ (pop_actions (values - slots)) (height (values + a - (values - slots)) (objects + b) c d) (zero_actions (slots - values)) _
      (pops_type _ _ _ (omega arith)) (zeros_type _ _ _ (omega arith)))
      (types_then _ (forget_actions (objects - parameters)) (height (slots + a) (objects + b - (objects - parameters)) c d) (nil_actions (parameters - objects)) _
      (forgets_type _ _ _ (omega arith)) (nils_type _ _ _ (omega arith)))

  -- a call leaves a number, or a reference and a temporary
  pub call_types : (wanted : Gives) (b c d f values objects a : ℕ) → Types (height (values + a) (objects + b) c d) (call_actions P wanted f values objects) (height (as_number wanted + a) (as_object wanted + b) (c + as_object wanted) d)
  call_types wanted b c d f values objects a =
      let same = ap (λ (g : Function). g.slots) (function_same P wanted f) in
      let other = ap object_parameters (function_same P wanted f) in
      types_then _ (passing_actions P wanted f values objects) _ (Call (number_of P wanted f) wanted ∷ []) _ (passing_types wanted f values objects a b c d)
      ((omega (arith, same), number_there P wanted f, omega (arith, other)), alike_same _ _ (omega (arith, same, other)))

  -- ---- variables that name objects

  pub declare_types : (n : ℕ) (h g : Height) → h.temporaries ≡ 0 → Alike (record h { variables = n + h.variables }) g → Types h (declare_actions n) g
  declare_types zero h g none e = alike_same _ _ (omega arith)
  declare_types (suc n) h g none e = (omega arith, declare_types n _ _ (omega arith) (omega arith))

  module _ (names a b c d : ℕ) (room : names ≤ d + s) where
    abbrev stays : Height
    stays = height a b c d

    pub all_empty_type : (first count : ℕ) → Types stays (all_empty_actions names first count) stays
    all_empty_type first zero = refl
    all_empty_type first (suc n) = types_then stays (empty_actions names (first + n)) stays (all_empty_actions names first n) stays (grind (arith, alike_same)) (all_empty_type first n)

    pub store_types : (i : Location) → 1 ≤ b → Types stays (store_actions names i) stays
    store_types i some = search (arith, alike_same, ltb-true)

  -- so many variables, from the first one on, take what the last references name
  pub take_types : (first n : ℕ) (h g : Height) → n ≤ h.variables + s - first → Alike h (record g { names = n + g.names }) → Types h (take_actions first n) g
  take_types first zero h g room e = alike_same _ _ (omega arith)
  take_types first (suc n) h g room e = ((omega arith, omega arith), (omega arith, take_types first n _ _ (omega arith) (omega arith)))

  pub read_types : (names : ℕ) (i : Location) (a b c d : ℕ) → names ≤ d + s → Types (height a b c d) (read_actions names i) (height a (suc b) (c + 1) d)
  read_types names i a b c d room = search (arith, alike_same, ltb-true)

-- ---- heights of blocks

-- the height that making an object and sending it `init` leave
abbrev pub made_height : Program → Height → Height
made_height P h = next_height P Settle (next_height P (SendTo init_selector 0 0 gives.Object) (next_height P (Plain Alloc) h))

abbrev pub with_temporaries : Height → ℕ → Height
with_temporaries h more = record h { temporaries = more }
