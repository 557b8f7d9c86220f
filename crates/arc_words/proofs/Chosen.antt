-- What is asked by the name of a subcommand and its matches.
use Rattle.std.proofs.Common.{◌≡◌, ℕ, refl, List, Option, Some, None, codes, option_map}
use Rattle.clap.specs.Walk.{Row, Text, first_of, one_of}
use Rattle.arc_words.specs.declared.request.Command.{Command}
use Rattle.arc_words.specs.Commands.{asked_in, command_named, steps_in}

abbrev both_of : {A : Type 0} → (A → Text) → (A → List Row) → Option A → Option (Text × List Row)
both_of f g = option_map (λ a. (f a, g a))

-- a pair by its halves
pub pair : {A : Type 0} (f : A → Text) (g : A → List Row) (o : Option A) (name : Text) (rows : List Row) → Some name ≡ option_map f o
    → Some rows ≡ option_map (λ (p : Text × List Row). p.1) (both_of f g o) → Some (name, rows) ≡ both_of f g o
pair f g None name rows a b = cc
pair f g (Some x) name rows a b =
    let first : name ≡ f x = cc in
    let second : rows ≡ g x = cc in
    rw (first, second) refl

module _ (o : Option (Text × List Row)) (name : Text) (rows : List Row) (is : Some (name, rows) ≡ o) where
  module _ (command : Command) (known : Some command ≡ command_named name) where
    pub no_file : None ≡ first_of (codes "file") rows → asked_in o ≡ None
    no_file e = rw (← is, ← known, ← e) refl

    module _ (file : Text) (has_file : Some file ≡ first_of (codes "file") rows) where
      pub all_said : (steps : ℕ) → Some steps ≡ steps_in (one_of (codes "steps") rows) → asked_in o ≡ Some (record { command = command; file = file; steps = steps })
      all_said steps e = rw (← is, ← known, ← has_file, ← e) refl
