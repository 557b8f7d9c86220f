-- The program's command line as clap reads it, and what words ask for.
use Rattle.std.specs.Prelude.{◌≡◌, ◌≢◌, ◌⊎◌, ⊤, ℕ, List, [], ◌∷◌, Option, Some, None, true, false, codes}
use Rattle.std.specs.Prelude.{if◌then◌else◌, option_and_then, option_map, string_bytes}
use Rattle.std.specs.Str.{bytes_eq}
use Rattle.std.specs.Str.Parse.{digits_value, without_leading_plus}
use Rattle.clap.specs.Walk.{Row, Rule, Text, is_empty, first_of, one_of}
use Rattle.clap.specs.Simple.{App, Shape, new_rule, new_shape, subcommand_of}
use Rattle.clap.specs.ValueTests.{is_unsigned_in}
use Rattle.clap.specs.Faults.{fault_of}
use Rattle.clap.specs.Kinds.{IsAmong}
use Rattle.clap.specs.declared.error.kind.ErrorKind.{ErrorKind}
use Rattle.clap.specs.declared.error.kind.ErrorKind.TheVariants as kind
use Rattle.clap.specs.declared.builder.value_parser.ValueParser.TheVariants as parser
use Rattle.arc_words.specs.declared.request.Command.{Command}
use Rattle.arc_words.specs.declared.request.Command.TheVariants.{Check, Run, Trace, Code}
use Rattle.arc_words.specs.declared.request.Words.{Words}
use Rattle.arc_words.specs.declared.request.WordsFault.{WordsFault}
use Rattle.arc_words.specs.declared.request.WordsFault.TheVariants.{Usage, Help, Memory}
use Rattle.arc_words.specs.declared.words.TheConstants.{STEPS, STEPS_SHOWN, MOST_STEPS}

-- ---- the commands and their options

-- FILE, which each command requires
abbrev pub file_rule : Rule
file_rule = record (new_rule (codes "file")) { value_names = 1; required = true }

-- `--steps N`
abbrev pub steps_rule : Rule
steps_rule = record (new_rule (codes "steps")) {
  long = Some (codes "steps");
  value_names = 1;
  defaults = STEPS_SHOWN.now ∷ [];
  parser = Some (parser.Unsigned 1 MOST_STEPS);
}

-- a command of FILE alone
abbrev pub of_file : Text → Shape
of_file name = record (new_shape name) { rules = file_rule ∷ [] }

-- a command of FILE that makes steps
abbrev pub of_steps : Text → Shape
of_steps name = record (new_shape name) { rules = file_rule ∷ steps_rule ∷ [] }

-- a command that has none below it
abbrev pub alone : Shape → App
alone s = record { top = s; subs = [] }

-- the program with its four commands, of which one has to be named
abbrev pub arcc_commands : App
arcc_commands = record {
  top = record (new_shape (codes "arcc")) { is_leaf = false; subcommand_required = true };
  subs = of_file (codes "check") ∷ of_steps (codes "run") ∷ of_steps (codes "trace")
      ∷ of_file (codes "code") ∷ [];
}

-- ---- what words ask for

pub record Asked : Type 0 where
  pub command : Command
  -- the path of the source
  pub file : Text
  -- the most steps that a run makes
  pub steps : ℕ

abbrev pub asked_of : Words → Asked
asked_of w = record { command = w.command; file = string_bytes w.file; steps = w.steps }

-- the command with this name
abbrev pub command_named : Text → Option Command
command_named name =
    if bytes_eq name (codes "check") then Some Check
    else if bytes_eq name (codes "run") then Some Run
    else if bytes_eq name (codes "trace") then Some Trace
    else if bytes_eq name (codes "code") then Some Code
    else None

-- the number of steps that an option says, and the usual one where there is no option
abbrev pub steps_in : Option Text → Option ℕ
steps_in None = Some STEPS
steps_in (Some text) = if is_unsigned_in 1 MOST_STEPS text
    then Some (digits_value 10 (without_leading_plus text)) else None

-- what is asked by the name of a command and the matches of its options
abbrev pub asked_by : Text → List Row → Option Asked
asked_by name rows = option_and_then (λ command. option_and_then (λ file. option_map
    (λ steps. record { command = command; file = file; steps = steps })
    (steps_in (one_of (codes "steps") rows)))
    (first_of (codes "file") rows))
    (command_named name)

abbrev pub asked_in : Option (Text × List Row) → Option Asked
asked_in = option_and_then (λ p. asked_by p.0 p.1)

-- what the words ask for, of which the first is the program's own name; nothing where clap finds
-- a fault in them, as a word that no command takes, or a wish for help
abbrev pub asked : List Text → Option Asked
asked words = if is_empty (fault_of arcc_commands words) then asked_in (subcommand_of arcc_commands words)
    else None

-- ---- refusals

-- an error of this kind is answered so
abbrev pub Refuses : ErrorKind → WordsFault → Type 0
Refuses k Usage = (k ≢ kind.OutOfMemory) × (k ≢ kind.DisplayHelp)
Refuses k (Help text) = k ≡ kind.DisplayHelp
Refuses k Memory = (k ≡ kind.OutOfMemory) ⊎ (k ≡ kind.DisplayHelp)

-- The matches of words that clap takes are refused so.
abbrev pub IsRefusedBy : Option Asked → WordsFault → Type 0
IsRefusedBy asked Usage = asked ≡ None
IsRefusedBy asked (Help text) = ⊥
IsRefusedBy asked Memory = ⊤

-- The words are refused rightly. `Usage` comes only where nothing is asked for, and not where clap
-- finds a wish for help alone; `Help` only where clap finds such a wish.
abbrev pub IsRefused : List Text → WordsFault → Type 0
IsRefused words Usage =
    (asked words ≡ None) × (fault_of arcc_commands words ≢ kind.DisplayHelp ∷ [])
IsRefused words (Help text) = IsAmong kind.DisplayHelp (fault_of arcc_commands words)
IsRefused words Memory = ⊤
