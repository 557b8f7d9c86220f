-- Lists of actions: one action more, their lengths, and slices of what was appended; lists of a checked program, and the greatest height.
use Rattle.std.proofs.Common.{◌≡◌, ℕ, zero, suc, ◌+◌, ◌-◌, ◌<◌, ◌≤◌, arith, List, [], ◌∷◌, ◌++◌, length, take, drop, length-drop, length-append, refl, ap, pos, Option}
use Rattle.arc_code.specs.declared.code.TheConstants.{MOST_TEXT}
use Rattle.arc_checked.specs.declared.program.CheckedFunction.{CheckedFunction}
use Rattle.arc_checked.specs.Checked.{functions}
use Rattle.arc_code.specs.declared.instr.Op.TheVariants.{Num, Pop, Declare, Nil, Forget}
use Rattle.arc_code.specs.declared.instr.Instr.TheVariants.{Plain, PrintText, StoreStrong}
use Rattle.arc_lower.specs.PlainActions.{PlainAction, plain_actions}
use Rattle.arc_lower.specs.Lowered.{text_actions, pop_actions, zero_actions, empty_actions, all_empty_actions, forget_actions, nil_actions, declare_actions, take_actions}
use Rattle.std.proofs.lemmas.List.{take_all, length-map}
use Rattle.arc_ir.specs.ActionSteps.{Action}
use Rattle.arc_code.specs.declared.effect.Height.{Height}
use Rattle.arc_lower.specs.Heights.{highest, greatest, raised}

-- of more bytes than one instruction prints the first ones are one part
pub text_more : (bytes : List ℕ) → MOST_TEXT < length bytes → text_actions bytes ≡ PrintText (take MOST_TEXT bytes) ∷ text_actions (drop MOST_TEXT bytes)
text_more bytes long = search (arith, length-drop)

-- n times one action, and once more
row_more : (row : ℕ → List PlainAction) (a : PlainAction) → row 0 ≡ [] → ((n : ℕ) → row (suc n) ≡ a ∷ row n)
    → (n : ℕ) → row (n + 1) ≡ row n ++ a ∷ []
row_more row a none more zero = rw (more 0, none)
row_more row a none more (suc n) = search (arith, row_more row a none more n)

pub nils_more : (n : ℕ) → nil_actions (n + 1) ≡ nil_actions n ++ Plain Nil ∷ []
nils_more = row_more nil_actions (Plain Nil) refl (λ n. refl)

pub forgets_more : (n : ℕ) → forget_actions (n + 1) ≡ forget_actions n ++ Plain Forget ∷ []
forgets_more = row_more forget_actions (Plain Forget) refl (λ n. refl)

pub declares_more : (n : ℕ) → declare_actions (n + 1) ≡ declare_actions n ++ Plain Declare ∷ []
declares_more = row_more declare_actions (Plain Declare) refl (λ n. refl)

pub pops_more : (n : ℕ) → pop_actions (n + 1) ≡ pop_actions n ++ Plain Pop ∷ []
pops_more = row_more pop_actions (Plain Pop) refl (λ n. refl)

pub zeros_more : (n : ℕ) → zero_actions (n + 1) ≡ zero_actions n ++ Plain (Num (pos 0)) ∷ []
zeros_more = row_more zero_actions (Plain (Num (pos 0))) refl (λ n. refl)

pub takes_more : (first count passed : ℕ) → passed < count → take_actions first (count - passed) ≡ StoreStrong (first + (count - 1 - passed)) ∷ Plain Forget ∷ take_actions first (count - (passed + 1))
takes_more first count passed lt = search arith

-- one variable less is to be emptied
pub emptied_more : (names first count passed : ℕ) → passed < count → all_empty_actions names first (count - passed) ≡ empty_actions names (first + (count - 1 - passed)) ++ all_empty_actions names first (count - (passed + 1))
emptied_more names first count passed lt = search arith

pub functions_length : (all : List CheckedFunction) → length (functions all) ≡ length all
functions_length [] = refl
functions_length (f ∷ others) = ap suc (functions_length others)

-- ---- What actions are appended is what stands after those that there were.

later : (old new : List Action) (xs : List PlainAction) → plain_actions new ≡ plain_actions old ++ xs → plain_actions (drop (length old) new) ≡ xs
later (a ∷ old) (b ∷ new) xs e = later old new xs (ap (drop 1) e)
later _ new xs e = search arith

-- what a slice has that begins where the old ones end
pub slice_after : (old new all : List Action) (begin : ℕ) (xs : List PlainAction) → begin ≡ length old → all ≡ new → plain_actions new ≡ plain_actions old ++ xs → plain_actions (take (length all - begin) (drop begin all)) ≡ xs
slice_after old new all begin xs from is e = search (arith, length-drop, take_all, later)

-- it begins within them
pub begins_within : (old new all : List Action) (begin : ℕ) (xs : List PlainAction) → begin ≡ length old → all ≡ new → plain_actions new ≡ plain_actions old ++ xs → begin ≤ length all
begins_within old new all begin xs from is e = search (arith, length-map, length-append)

-- ---- The greatest of heights one after the other.

greatest_append : (a b : List Height) (most : Height) → greatest (a ++ b) most ≡ greatest b (greatest a most)
greatest_append [] b most = refl
greatest_append (h ∷ a) b most = greatest_append a b (highest most h)

pub raised_append : (a b : List Height) (most : Option Height) → raised (a ++ b) most ≡ raised b (raised a most)
raised_append a b most = search (arith, greatest_append)

pub raised_nothing : (most : Option Height) → raised [] most ≡ most
raised_nothing most = search arith
