-- A word that does not begin with a hyphen is a value.
use Rattle.std.proofs.Common.{◌≡◌, ◌∙◌, ◌&&◌, ℕ, Bool, false, refl, ap, ap₂, List, [], ◌∷◌, Option, Some, None, cond}
use Rattle.std.specs.Str.{bytes_eq}
use Rattle.std.specs.Option.{option_map_or}
use Rattle.clap.specs.Lexer.{long_of, long_of_rest, short_of, short_of_rest, strip_byte}
use Rattle.std.specs.Prelude.{fold, option_and_then}
use Rattle.clap.specs.Walk.{Held, Names, Rule, Step, Text, Waiting, Walk, after_step, idle, long_or_other, option, plain_word, positional, short_or_plain, subcommand_met, subcommand_or_other, trailing, value, walked, word_met}
use Rattle.clap.specs.Simple.{Shape}
use Rattle.clap.specs.Kinds.{Kinds, or_else}
use Rattle.clap.specs.Faults.{bundle_fault, flag_word_fault, other_fault, step_fault, turn_fault, walk_fault, word_fault}
use Rattle.arc_words.specs.Asks.{begins_with_hyphen}

no_dashes : (word : Text) → begins_with_hyphen word ≡ false → bytes_eq word (45 ∷ 45 ∷ []) ≡ false
no_dashes [] e = refl
no_dashes (x ∷ xs) e = ap (λ (b : Bool). b && bytes_eq xs (45 ∷ [])) e

no_long : (word : Text) → begins_with_hyphen word ≡ false → long_of word ≡ None
no_long [] e = refl
no_long (x ∷ xs) e = ap (λ (b : Bool). option_and_then long_of_rest (option_and_then (λ (t : Text). strip_byte 45 t) (cond b (Some xs) None))) e

no_short : (word : Text) → begins_with_hyphen word ≡ false → short_of word ≡ None
no_short [] e = refl
no_short (x ∷ xs) e = ap (λ (b : Bool). option_and_then short_of_rest (cond b (Some xs) None)) e

module _ (c : List Rule) (word : Text) (no : begins_with_hyphen word ≡ false) where
  -- what the word is
  met : (waiting : Waiting) (position : ℕ) (h : Held) → word_met c [] false waiting position word h ≡ plain_word c waiting word h
  met waiting position h = go waiting ∙ (λ i. short_or_plain c waiting word (no_short word no i) h)
    where
      go : (w : Waiting) → word_met c [] false w position word h ≡ short_or_plain c w word (short_of word) h
      go idle = λ i. cond (no_dashes word no i) (h, trailing position) (long_or_other c idle word (no_long word no i) h)
      go (option id) = λ i. cond (no_dashes word no i) (h, trailing position) (long_or_other c (option id) word (no_long word no i) h)
      go positional = λ i. cond (no_dashes word no i) (h, trailing position) (long_or_other c positional word (no_long word no i) h)

abbrev pub between : Held → Waiting → ℕ → Walk
between h waiting position = record { held = h; waiting = waiting; position = position; is_trailing = false; stopped = None }

-- the walk over it
pub walked_plain : (c : List Rule) (word : Text) → begins_with_hyphen word ≡ false → (h : Held) (waiting : Waiting) (position : ℕ)
    → walked c [] (between h waiting position) word ≡ after_step c word (between h waiting position) (plain_word c waiting word h).0 (plain_word c waiting word h).1
unfolding walked
walked_plain c word first h waiting position = ap (λ (p : Held × Step). after_step c word (between h waiting position) p.0 p.1) (met c word first waiting position h)

module _ (s : Shape) (word : Text) (no : begins_with_hyphen word ≡ false) where
  flag_clean : (h : Held) → cond (bytes_eq word (45 ∷ 45 ∷ [])) [] (flag_word_fault s.rules s.args_override_self (long_of word) word h) ≡ []
  flag_clean h = (λ i. cond (no_dashes word no i) [] (flag_word_fault s.rules s.args_override_self (no_long word no i) word h))
      ∙ ap (λ (o : Option Text). option_map_or (λ flags. bundle_fault s.rules s.args_override_self flags h) o []) (no_short word no)

  -- and it is no fault
  clean : (waiting : Waiting) (h : Held) → word_fault s [] false waiting word h ≡ []
  clean idle h = flag_clean h
  clean (option id) h = flag_clean h
  clean positional h = flag_clean h

  pub turn_plain : (h : Held) (waiting : Waiting) (position : ℕ)
      → turn_fault s [] (between h waiting position) word ≡ step_fault s position (plain_word s.rules waiting word h).0 (plain_word s.rules waiting word h).1
  turn_plain h waiting position =
      ap₂ (λ (ks : Kinds) (p : Held × Step). or_else ks (step_fault s position p.0 p.1)) (clean waiting h) (met s.rules word no waiting position h)

-- ---- a walk with no fault

abbrev pub Goes : Shape → Walk → List Text → Walk → Type 0
Goes s w words end = (walk_fault s [] w words ≡ []) × (fold (walked s.rules []) w words ≡ end)

pub goes_nil : (s : Shape) (w : Walk) → Goes s w [] w
unfolding walk_fault
goes_nil s w = (refl, refl)

pub goes_on : (s : Shape) (w next end : Walk) (word : Text) (rest : List Text) → turn_fault s [] w word ≡ [] → walked s.rules [] w word ≡ next → Goes s next rest end
    → Goes s w (word ∷ rest) end
unfolding walk_fault
goes_on s w next end word rest turn step goes = (
  (λ i. or_else (turn i) (walk_fault s [] (step i) rest)) ∙ goes.0,
  ap (λ v. fold (walked s.rules []) v rest) step ∙ goes.1,
)

-- ---- a word in place of a subcommand

module _ (s : Shape) (names : Names) (word : Text) (none : subcommand_met names idle word ≡ None) (no : begins_with_hyphen word ≡ false) where
  stranger_clean : (h : Held) → word_fault s names false idle word h ≡ []
  stranger_clean h = (λ i. other_fault s (none i) word h) ∙ clean s word no idle h

  stranger_met : (position : ℕ) (h : Held) → word_met s.rules names false idle position word h ≡ (h, value)
  stranger_met position h = (λ i. subcommand_or_other s.rules (none i) idle position word h) ∙ met s.rules word no idle position h

  pub turn_stranger : (h : Held) (position : ℕ) → turn_fault s names (between h idle position) word ≡ step_fault s position h value
  turn_stranger h position = ap₂ (λ (ks : Kinds) (p : Held × Step). or_else ks (step_fault s position p.0 p.1)) (stranger_clean h) (stranger_met position h)
