-- The plain forms of words ask for what they say.
use Rattle.std.proofs.Common.{◌≡◌, ◌∙◌, ◌==◌, ◌++◌, ℕ, Bool, true, false, refl, sym, ap, subst, List, [], ◌∷◌, Option, Some, None, cond, codes, arith, ne_eqb, drop, option_map}
use Rattle.std.proofs.lemmas.Str.Parse.{digit_from_value}
use Rattle.std.specs.Str.Parse.{IsNumeral, digits_value, without_leading_plus}
use Rattle.std.specs.Prelude.{option_and_then}
use Rattle.clap.specs.Walk.{Held, Row, Text, Walk, finished, idle, nothing_held, option}
use Rattle.clap.specs.Kinds.{Kinds, or_else}
use Rattle.clap.specs.ValueTests.{is_unsigned_in}
use Rattle.clap.proofs.ValueTestLemmas.{Accepts-accepts}
use Rattle.clap.specs.declared.builder.value_parser.Reading.TheVariants.{AsWritten}
use Rattle.clap.specs.declared.builder.value_parser.ValueParser.TheVariants as vp
use Rattle.clap.specs.declared.error.kind.ErrorKind.TheVariants as kind
use Rattle.clap.specs.declared.parser.matches.ValueSource.TheVariants.{CommandLine}
use Rattle.clap.proofs.OnLiterals.{clap_on_literals}
use Rattle.arc_words.specs.declared.request.Command.{Command}
use Rattle.arc_words.specs.declared.request.Command.TheVariants.{Check, Run, Trace, Code}
use Rattle.arc_words.specs.Commands.{Asked, asked, asked_by, command_named, of_file, of_steps, steps_in}
use Rattle.arc_words.specs.Asks.{Asks, IsFile, SaysSteps, begins_with_hyphen, dashes, file_first, file_first_joined, name_of, plain, steps_first, steps_first_joined, takes_steps}
use Rattle.arc_words.proofs.Below.{asks, end_fault, leaf, leaf_of}
use Rattle.arc_words.proofs.Plain.{Goes, between, goes_nil, goes_on, turn_plain, walked_plain}

-- ---- numerals

numeral_plain : (text : Text) → IsNumeral 10 text → begins_with_hyphen text ≡ false
numeral_plain [] h = refl
numeral_plain (d ∷ ds) h = ne_eqb _ _ (λ e. omega (arith, digit_from_value d h.1.0))

no_plus : (ds : Text) → IsNumeral 10 ds → without_leading_plus ds ≡ ds
no_plus [] h = refl
no_plus (d ∷ ds) h =
    let plus : (d == 43) ≡ false = ne_eqb _ _ (λ e. omega (arith, digit_from_value d h.1.0)) in
    ap (λ (b : Bool). drop (cond b 1 0) (d ∷ ds)) plus

accepted : (text : Text) (n : ℕ) → SaysSteps text n → is_unsigned_in 1 9223372036854775807 text ≡ true
accepted text n h =
    let same = no_plus text h.0 in
    Accepts-accepts false (vp.Unsigned 1 9223372036854775807) text (
      subst (IsNumeral 10) (sym same) h.0,
      rw (same, h.1) (omega (arith, h.3)),
      rw (same, h.1) h.2,
      rw (same, h.1) (omega (arith, h.3)),
    )

steps_said : (text : Text) (n : ℕ) → SaysSteps text n → steps_in (Some text) ≡ Some n
steps_said text n h = ap (λ (b : Bool). cond b (Some (digits_value 10 (without_leading_plus text))) None) (accepted text n h)
    ∙ ap (λ t. Some (digits_value 10 t)) (no_plus text h.0) ∙ ap (λ k. Some k) h.1

-- ---- where the walks stand

abbrev pub row : Text → Text → Row
row id text = record { id = id; values = text ∷ []; count = None; source = Some CommandLine; reading = AsWritten }

abbrev pub file_row : Text → Row
file_row file = row (codes "file") file

abbrev steps_row : Text → Row
steps_row text = row (codes "steps") text

-- these rows are there, and this argument has these values so far
abbrev pub with_pending : List Row → Text → List Text → Held
with_pending rows id values = record { rows = rows; pending = Some (id, values); skip = 0 }

abbrev settled_with : List Row → Held
settled_with rows = record { rows = rows; pending = None; skip = 0 }

abbrev pub before : Walk
before = between nothing_held idle 1

-- FILE is held, after these rows
abbrev pub after_file : List Row → Text → Walk
after_file rows file = between (with_pending rows (codes "file") (file ∷ [])) idle 2

-- ---- FILE alone

module _ (t file : Text) (is : IsFile file) where
  file_goes : Goes (leaf_of (of_file t)) before (file ∷ []) (after_file [] file)
  unfolding clap_on_literals
  file_goes = goes_on (leaf_of (of_file t)) before (after_file [] file) (after_file [] file) file [] (turn_plain (leaf_of (of_file t)) file is nothing_held idle 1)
      (walked_plain (leaf_of (of_file t)).rules file is nothing_held idle 1) (goes_nil (leaf_of (of_file t)) (after_file [] file))

  file_goes_steps : Goes (leaf_of (of_steps t)) before (file ∷ []) (after_file [] file)
  unfolding clap_on_literals
  file_goes_steps = goes_on (leaf_of (of_steps t)) before (after_file [] file) (after_file [] file) file [] (turn_plain (leaf_of (of_steps t)) file is nothing_held idle 1)
      (walked_plain (leaf_of (of_steps t)).rules file is nothing_held idle 1) (goes_nil (leaf_of (of_steps t)) (after_file [] file))

pub plain_goes : (c : Command) (file : Text) → IsFile file → Goes (leaf c) before (file ∷ []) (after_file [] file)
plain_goes Check file is = file_goes (codes "check") file is
plain_goes Run file is = file_goes_steps (codes "run") file is
plain_goes Trace file is = file_goes_steps (codes "trace") file is
plain_goes Code file is = file_goes (codes "code") file is

-- what is held of FILE alone is no fault, and says so
file_ends : (c : Command) (file : Text) → end_fault (leaf c) (with_pending [] (codes "file") (file ∷ [])) ≡ []
unfolding clap_on_literals
file_ends Check file = refl
file_ends Run file = refl
file_ends Trace file = refl
file_ends Code file = refl

file_says : (c : Command) (file : Text) → asked_by (name_of c) (finished (leaf c).rules (with_pending [] (codes "file") (file ∷ []))) ≡ Some (record { command = c; file = file; steps = 1000000000 })
unfolding clap_on_literals
file_says Check file = refl
file_says Run file = refl
file_says Trace file = refl
file_says Code file = refl

asks_plain : (program file : Text) (c : Command) → IsFile file → asked (program ∷ name_of c ∷ file ∷ []) ≡ Some (record { command = c; file = file; steps = 1000000000 })
asks_plain program file c is = asks c program (file ∷ []) (after_file [] file) _ (plain_goes c file is) (file_ends c file) (file_says c file)

-- ---- FILE after `--`

abbrev trailing_from : Walk → Walk
trailing_from w = record w { is_trailing = true }

dashes_go : (c : Command) (file : Text) → Goes (leaf c) before (codes "--" ∷ file ∷ []) (trailing_from (after_file [] file))
unfolding clap_on_literals
dashes_go Check file = (refl, refl)
dashes_go Run file = (refl, refl)
dashes_go Trace file = (refl, refl)
dashes_go Code file = (refl, refl)

asks_dashes : (program file : Text) (c : Command) → asked (program ∷ name_of c ∷ codes "--" ∷ file ∷ []) ≡ Some (record { command = c; file = file; steps = 1000000000 })
asks_dashes program file c =
    asks c program (codes "--" ∷ file ∷ []) (trailing_from (after_file [] file)) _ (dashes_go c file) (file_ends c file) (file_says c file)

-- ---- FILE and `--steps N`

-- one kind of fault where the test fails
abbrev pub refusal : Bool → Kinds
refusal b = or_else (cond b [] (kind.ValueValidation ∷ [])) []

abbrev waits_for_steps : List Row → ℕ → Walk
waits_for_steps rows position = between (with_pending rows (codes "steps") []) (option (codes "steps")) position

abbrev pub after_steps : List Row → Text → ℕ → Walk
after_steps rows text position = between (with_pending rows (codes "steps") (text ∷ [])) idle position

abbrev after_joined : List Row → ℕ → Walk
after_joined rows position = between (settled_with rows) idle position

module _ (t file text : Text) (is : IsFile file) (digits : begins_with_hyphen text ≡ false) where
  -- FILE --steps N
  pub file_first_goes : Goes (leaf_of (of_steps t)) before (file ∷ codes "--steps" ∷ text ∷ []) (after_steps (file_row file ∷ []) text 2)
  unfolding clap_on_literals
  file_first_goes =
      let s = leaf_of (of_steps t) in
      let end = after_steps (file_row file ∷ []) text 2 in
      let held = with_pending (file_row file ∷ []) (codes "steps") [] in
      goes_on s before (after_file [] file) end file (codes "--steps" ∷ text ∷ []) (turn_plain s file is nothing_held idle 1) (walked_plain s.rules file is nothing_held idle 1)
      (goes_on s (after_file [] file) (waits_for_steps (file_row file ∷ []) 2) end (codes "--steps") (text ∷ []) refl refl
      (goes_on s (waits_for_steps (file_row file ∷ []) 2) end end text [] (turn_plain s text digits held (option (codes "steps")) 2) (walked_plain s.rules text digits held (option (codes "steps")) 2)
      (goes_nil s end)))

  -- a fault only where N is refused
  pub file_first_end : (b : Bool) → is_unsigned_in 1 9223372036854775807 text ≡ b → end_fault (leaf_of (of_steps t)) (with_pending (file_row file ∷ []) (codes "steps") (text ∷ [])) ≡ or_else (refusal b) []
  unfolding clap_on_literals
  file_first_end b e = ap (λ b. or_else (refusal b) []) e

module _ (t file text : Text) (n : ℕ) (is : IsFile file) (says : SaysSteps text n) where
  -- --steps N FILE
  steps_first_goes : Goes (leaf_of (of_steps t)) before (codes "--steps" ∷ text ∷ file ∷ []) (after_file (steps_row text ∷ []) file)
  unfolding clap_on_literals
  steps_first_goes =
      let s = leaf_of (of_steps t) in
      let digits = numeral_plain text says.0 in
      let end = after_file (steps_row text ∷ []) file in
      let held = with_pending [] (codes "steps") [] in
      let holds = with_pending [] (codes "steps") (text ∷ []) in
      goes_on s before (waits_for_steps [] 1) end (codes "--steps") (text ∷ file ∷ []) refl refl
      (goes_on s (waits_for_steps [] 1) (after_steps [] text 1) end text (file ∷ []) (turn_plain s text digits held (option (codes "steps")) 1) (walked_plain s.rules text digits held (option (codes "steps")) 1)
      (goes_on s (after_steps [] text 1) end end file [] (turn_plain s file is holds idle 1 ∙ ap refusal (accepted text n says)) (walked_plain s.rules file is holds idle 1)
      (goes_nil s end)))

  -- FILE --steps=N
  file_first_joined_goes : Goes (leaf_of (of_steps t)) before (file ∷ (codes "--steps=" ++ text) ∷ []) (after_joined (file_row file ∷ steps_row text ∷ []) 2)
  unfolding clap_on_literals
  file_first_joined_goes =
      let s = leaf_of (of_steps t) in
      let end = after_joined (file_row file ∷ steps_row text ∷ []) 2 in
      goes_on s before (after_file [] file) end file ((codes "--steps=" ++ text) ∷ []) (turn_plain s file is nothing_held idle 1) (walked_plain s.rules file is nothing_held idle 1)
      (goes_on s (after_file [] file) end end (codes "--steps=" ++ text) [] (ap (λ b. or_else (refusal b) []) (accepted text n says)) refl
      (goes_nil s end))

  -- --steps=N FILE
  steps_first_joined_goes : Goes (leaf_of (of_steps t)) before ((codes "--steps=" ++ text) ∷ file ∷ []) (after_file (steps_row text ∷ []) file)
  unfolding clap_on_literals
  steps_first_joined_goes =
      let s = leaf_of (of_steps t) in
      let end = after_file (steps_row text ∷ []) file in
      let held = settled_with (steps_row text ∷ []) in
      goes_on s before (after_joined (steps_row text ∷ []) 1) end (codes "--steps=" ++ text) (file ∷ []) (ap (λ b. or_else (refusal b) []) (accepted text n says)) refl
      (goes_on s (after_joined (steps_row text ∷ []) 1) end end file [] (turn_plain s file is held idle 1) (walked_plain s.rules file is held idle 1)
      (goes_nil s end))

  steps_first_ends : end_fault (leaf_of (of_steps t)) (with_pending (steps_row text ∷ []) (codes "file") (file ∷ [])) ≡ []
  unfolding clap_on_literals
  steps_first_ends = refl

  joined_ends : end_fault (leaf_of (of_steps t)) (settled_with (file_row file ∷ steps_row text ∷ [])) ≡ []
  unfolding clap_on_literals
  joined_ends = refl

  abbrev said : Command → Option ℕ → Option Asked
  said c = option_map (λ k. record { command = c; file = file; steps = k })

  -- what is held of both, in this order or that
  file_first_says : (c : Command) → Some c ≡ command_named t → asked_by t (finished (leaf_of (of_steps t)).rules (with_pending (file_row file ∷ []) (codes "steps") (text ∷ []))) ≡ Some (record { command = c; file = file; steps = n })
  unfolding clap_on_literals
  file_first_says c named = ap (option_and_then (λ k. said k (steps_in (Some text)))) (sym named) ∙ ap (said c) (steps_said text n says)

  steps_first_says : (c : Command) → Some c ≡ command_named t → asked_by t (finished (leaf_of (of_steps t)).rules (with_pending (steps_row text ∷ []) (codes "file") (file ∷ []))) ≡ Some (record { command = c; file = file; steps = n })
  unfolding clap_on_literals
  steps_first_says c named = ap (option_and_then (λ k. said k (steps_in (Some text)))) (sym named) ∙ ap (said c) (steps_said text n says)

  joined_says : (c : Command) → Some c ≡ command_named t → asked_by t (finished (leaf_of (of_steps t)).rules (settled_with (file_row file ∷ steps_row text ∷ []))) ≡ Some (record { command = c; file = file; steps = n })
  unfolding clap_on_literals
  joined_says c named = ap (option_and_then (λ k. said k (steps_in (Some text)))) (sym named) ∙ ap (said c) (steps_said text n says)

-- ---- all forms

module _ (program file text : Text) (n : ℕ) (is : IsFile file) (says : SaysSteps text n) where
  asks_file_first : (c : Command) → takes_steps c ≡ true → asked (program ∷ name_of c ∷ file ∷ codes "--steps" ∷ text ∷ []) ≡ Some (record { command = c; file = file; steps = n })
  asks_file_first Check takes = cc
  asks_file_first Run takes = asks Run program _ _ _ (file_first_goes (codes "run") file text is (numeral_plain text says.0)) (file_first_end (codes "run") file text is (numeral_plain text says.0) true (accepted text n says)) (file_first_says (codes "run") file text n is says Run refl)
  asks_file_first Trace takes = asks Trace program _ _ _ (file_first_goes (codes "trace") file text is (numeral_plain text says.0)) (file_first_end (codes "trace") file text is (numeral_plain text says.0) true (accepted text n says)) (file_first_says (codes "trace") file text n is says Trace refl)
  asks_file_first Code takes = cc

  asks_steps_first : (c : Command) → takes_steps c ≡ true → asked (program ∷ name_of c ∷ codes "--steps" ∷ text ∷ file ∷ []) ≡ Some (record { command = c; file = file; steps = n })
  asks_steps_first Check takes = cc
  asks_steps_first Run takes = asks Run program _ _ _ (steps_first_goes (codes "run") file text n is says) (steps_first_ends (codes "run") file text n is says) (steps_first_says (codes "run") file text n is says Run refl)
  asks_steps_first Trace takes = asks Trace program _ _ _ (steps_first_goes (codes "trace") file text n is says) (steps_first_ends (codes "trace") file text n is says) (steps_first_says (codes "trace") file text n is says Trace refl)
  asks_steps_first Code takes = cc

  asks_file_joined : (c : Command) → takes_steps c ≡ true → asked (program ∷ name_of c ∷ file ∷ (codes "--steps=" ++ text) ∷ []) ≡ Some (record { command = c; file = file; steps = n })
  asks_file_joined Check takes = cc
  asks_file_joined Run takes = asks Run program _ _ _ (file_first_joined_goes (codes "run") file text n is says) (joined_ends (codes "run") file text n is says) (joined_says (codes "run") file text n is says Run refl)
  asks_file_joined Trace takes = asks Trace program _ _ _ (file_first_joined_goes (codes "trace") file text n is says) (joined_ends (codes "trace") file text n is says) (joined_says (codes "trace") file text n is says Trace refl)
  asks_file_joined Code takes = cc

  asks_joined_file : (c : Command) → takes_steps c ≡ true → asked (program ∷ name_of c ∷ (codes "--steps=" ++ text) ∷ file ∷ []) ≡ Some (record { command = c; file = file; steps = n })
  asks_joined_file Check takes = cc
  asks_joined_file Run takes = asks Run program _ _ _ (steps_first_joined_goes (codes "run") file text n is says) (steps_first_ends (codes "run") file text n is says) (steps_first_says (codes "run") file text n is says Run refl)
  asks_joined_file Trace takes = asks Trace program _ _ _ (steps_first_joined_goes (codes "trace") file text n is says) (steps_first_ends (codes "trace") file text n is says) (steps_first_says (codes "trace") file text n is says Trace refl)
  asks_joined_file Code takes = cc

-- words of a plain form ask for what the form says
pub form_asks : (words : List Text) (c : Command) (file : Text) (n : ℕ) → Asks words c file n → asked words ≡ Some (record { command = c; file = file; steps = n })
form_asks words c file n (plain program path command is) = asks_plain program path command is
form_asks words c file n (dashes program path command) = asks_dashes program path command
form_asks words c file n (file_first program path text command steps takes is says) = asks_file_first program path text steps is says command takes
form_asks words c file n (steps_first program path text command steps takes is says) = asks_steps_first program path text steps is says command takes
form_asks words c file n (file_first_joined program path text command steps takes is says) = asks_file_joined program path text steps is says command takes
form_asks words c file n (steps_first_joined program path text command steps takes is says) = asks_joined_file program path text steps is says command takes
