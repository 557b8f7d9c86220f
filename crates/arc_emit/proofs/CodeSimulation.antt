-- An instruction does what its action does, so the runs of code are those of its actions.
use Rattle.std.proofs.Common.{◌≡◌, ℕ, zero, suc, ◌+◌, ◌≤◌, List, [], ◌∷◌, ◌++◌, length, Some, slice_get, refl, ap, arith, inl, length-append, append_assoc}
use Rattle.std.proofs.Math.Seq.{take-append_seam, drop-append_seam}
use Rattle.std.proofs.lemmas.List.{append-nil}
use Rattle.std.proofs.lemmas.Bool.Decides.{nat_tests}
use Rattle.arc_spec.specs.SmallSteps.{Next, Reached, after_steps, Along, Safe}
use Rattle.arc_spec.specs.Correctness.{Refines}
use Rattle.arc_code.specs.declared.code.TheConstants.{MOST_TEXT}
use Rattle.arc_code.specs.declared.instr.Instr.TheVariants.{PrintText}
use Rattle.arc_code.specs.CodeSteps as running
use Rattle.arc_code.specs.CodeSteps.{text_at}
use Rattle.arc_code.proofs.RenamingKeepsSteps.{renamed_same}
use Rattle.arc_ir.specs.declared.action.TextPart.{TextPart}
use Rattle.arc_ir.specs.ActionSteps as acting
use Rattle.arc_ir.specs.ActionSteps.{Action, State, lands, entry}
use Rattle.arc_emit.specs.EmittedCode.{text_of, texts_of, piece, instr_of, instrs_of, code_of}

along_by : {S : Type 0} → (P Q : S → Type 0) → ((s : S) → P s → Q s) → (x : Next S) → Along P x → Along Q x
along_by P Q f x h = search arith

module _ (p : acting.Program) where
  abbrev code : running.Program
  code = code_of p

  -- ---- one action

  text_is : (before text after : List ℕ) → code.texts ≡ before ++ (text ++ after) → length text ≤ MOST_TEXT → running.text_of code (record { from = length before; len = length text }) ≡ Some text
  text_is before text after e short =
      grind (arith, nat_tests, ap length e, length-append before (text ++ after), length-append text after, drop-append_seam before (text ++ after), take-append_seam text after)

  print_same : (a : Action) (part : TextPart) (before after : List ℕ) → a ≡ PrintText part → code.texts ≡ before ++ (text_of a ++ after) → running.text_of code (piece (length before) part) ≡ Some part.bytes.items
  print_same a part before after is e = search (arith, text_is, part.short)

  instr_same : (a : Action) (before after : List ℕ) (s : State) → code.texts ≡ before ++ (text_of a ++ after) → running.executes code (Some (instr_of p s.at (length before) a)) s ≡ acting.executes p (Some a) s
  instr_same a before after s e = search (arith, renamed_same, print_same)

  -- ---- runs

  -- one of the last actions, of which the first has the number `at`, where `before` are the texts of those before it
  step_at : (actions : List Action) (before : List ℕ) (at n : ℕ) (s : State) → at + n ≡ s.at → code.texts ≡ before ++ texts_of actions → running.executes code (slice_get (instrs_of p at (length before) actions) n) s ≡ acting.executes p (slice_get actions n) s
  step_at [] before at n s here e = refl
  step_at (a ∷ actions) before at zero s here e = grind (arith, instr_same a before (texts_of actions) s e)
  step_at (a ∷ actions) before at (suc n) s here e = grind (arith, length-append, append_assoc, step_at actions (before ++ text_of a) (at + 1) n s)

  step_same : (s : State) → running.step code s ≡ acting.step p s
  step_same s = step_at p.actions [] 0 s.at s (omega arith) refl

  -- the code is where the actions are after as many steps
  steps_same : (n : ℕ) (r : Reached State) → after_steps (running.step code) n r ≡ after_steps (acting.step p) n r
  steps_same zero r = refl
  steps_same (suc n) r = search (arith, step_same, steps_same n r)

  code_safe : (n : ℕ) (s : State) → Safe (acting.step p) (acting.Fits p) n s → Safe (running.step code) (running.Fits code) n s
  code_safe zero s fit = search arith
  code_safe (suc n) s h = search (arith, step_same, along_by, code_safe n)

  seen_same : (input : List ℕ) (n : ℕ) → running.seen code input n ≡ acting.seen p input n
  seen_same input n = search steps_same

  -- the code's runs do what runs of the actions do
  pub code_refines : Refines (acting.seen p) (running.seen code)
  code_refines = record {
    follows = λ input k. (k, omega arith, inl (seen_same input k));
    comes = λ input j. (j, search (arith, seen_same input j, append-nil), λ s over. seen_same input j);
  }

  -- the code of sound actions is sound
  pub code_sound : acting.IsSound p → running.IsSound code
  code_sound sound = record { safe = λ n. search (code_safe, sound.safe) }
