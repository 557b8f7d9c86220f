-- The plain forms of the program's words, and what each asks for.
use Rattle.std.specs.Prelude.{◌≡◌, ◌≤◌, ◌==◌, ℕ, Bool, true, false, List, [], ◌∷◌, ◌++◌, codes}
use Rattle.std.specs.Prelude.{⊤, None, Result, MatchResult, string_bytes}
use Rattle.std.specs.Str.{bytes_eq}
use Rattle.std.specs.Str.Parse.{IsNumeral, digits_value}
use Rattle.clap.specs.Walk.{Text}
use Rattle.clap.specs.ValueTests.{is_unsigned_in}
use Rattle.arc_words.specs.Commands.{command_named}
use Rattle.arc_words.specs.declared.words.TheConstants.{STEPS, MOST_STEPS}
use Rattle.arc_words.specs.declared.request.Command.{Command}
use Rattle.arc_words.specs.declared.request.Command.TheVariants.{Check, Run, Trace, Code}
use Rattle.arc_words.specs.declared.request.Words.{Words}
use Rattle.arc_words.specs.declared.request.WordsFault.{WordsFault}
use Rattle.arc_words.specs.declared.request.WordsFault.TheVariants.{Usage, Help, Memory}

-- the name of a command
abbrev pub name_of : Command → Text
name_of Check = codes "check"
name_of Run = codes "run"
name_of Trace = codes "trace"
name_of Code = codes "code"

-- the commands that take `--steps N`
abbrev pub takes_steps : Command → Bool
takes_steps Check = false
takes_steps Run = true
takes_steps Trace = true
takes_steps Code = false

-- the first byte is a hyphen (45)
abbrev pub begins_with_hyphen : Text → Bool
begins_with_hyphen [] = false
begins_with_hyphen (x ∷ xs) = x == 45

-- FILE, where it can't be taken for an option
abbrev pub IsFile : Text → Type 0
IsFile file = begins_with_hyphen file ≡ false

-- N is written in decimal digits, and says this number of steps
abbrev pub SaysSteps : Text → ℕ → Type 0
SaysSteps text n = IsNumeral 10 text × (digits_value 10 text ≡ n) × (1 ≤ n) × (n ≤ MOST_STEPS)

-- The words ask for the command, with this path of the source and this number of steps. The first
-- word is the program's own name.
pub data Asks : List Text → Command → Text → ℕ → Type 0 where
  -- COMMAND FILE
  plain : (program file : Text) (command : Command) → IsFile file
      → Asks (program ∷ name_of command ∷ file ∷ []) command file STEPS
  -- COMMAND -- FILE
  dashes : (program file : Text) (command : Command)
      → Asks (program ∷ name_of command ∷ codes "--" ∷ file ∷ []) command file STEPS
  -- COMMAND FILE --steps N
  file_first : (program file text : Text) (command : Command) (n : ℕ) → takes_steps command ≡ true
      → IsFile file → SaysSteps text n
      → Asks (program ∷ name_of command ∷ file ∷ codes "--steps" ∷ text ∷ []) command file n
  -- COMMAND --steps N FILE
  steps_first : (program file text : Text) (command : Command) (n : ℕ) → takes_steps command ≡ true
      → IsFile file → SaysSteps text n
      → Asks (program ∷ name_of command ∷ codes "--steps" ∷ text ∷ file ∷ []) command file n
  -- COMMAND FILE --steps=N
  file_first_joined : (program file text : Text) (command : Command) (n : ℕ)
      → takes_steps command ≡ true → IsFile file → SaysSteps text n
      → Asks (program ∷ name_of command ∷ file ∷ (codes "--steps=" ++ text) ∷ []) command file n
  -- COMMAND --steps=N FILE
  steps_first_joined : (program file text : Text) (command : Command) (n : ℕ)
      → takes_steps command ≡ true → IsFile file → SaysSteps text n
      → Asks (program ∷ name_of command ∷ (codes "--steps=" ++ text) ∷ file ∷ []) command file n

-- The words ask for help at once: by `--help` or `-h` right after the program's name or after a
-- command, whatever follows.
pub data AsksHelp : List Text → Type 0 where
  help : (program : Text) (rest : List Text) → AsksHelp (program ∷ codes "--help" ∷ rest)
  short_help : (program : Text) (rest : List Text) → AsksHelp (program ∷ codes "-h" ∷ rest)
  command_help : (program : Text) (command : Command) (rest : List Text)
      → AsksHelp (program ∷ name_of command ∷ codes "--help" ∷ rest)
  short_command_help : (program : Text) (command : Command) (rest : List Text)
      → AsksHelp (program ∷ name_of command ∷ codes "-h" ∷ rest)

-- The words ask for nothing that can be done: these are the plain cases.
pub data AsksNothing : List Text → Type 0 where
  -- no word at all
  no_word : AsksNothing []
  -- no command
  no_command : (program : Text) → AsksNothing (program ∷ [])
  -- a word in place of the command that names none of them, nor `help`, and is no option
  other_command : (program word : Text) (rest : List Text) → begins_with_hyphen word ≡ false
      → command_named word ≡ None → bytes_eq word (codes "help") ≡ false
      → AsksNothing (program ∷ word ∷ rest)
  -- no FILE
  no_file : (program : Text) (command : Command) → AsksNothing (program ∷ name_of command ∷ [])
  -- a second FILE
  two_files : (program file word : Text) (command : Command) (rest : List Text) → IsFile file
      → IsFile word → AsksNothing (program ∷ name_of command ∷ file ∷ word ∷ rest)
  -- steps of a command that makes none
  no_steps : (program : Text) (command : Command) (rest : List Text) → takes_steps command ≡ false
      → AsksNothing (program ∷ name_of command ∷ codes "--steps" ∷ rest)
  -- a number of steps that is none, or is too large
  wrong_steps : (program file text : Text) (command : Command) → takes_steps command ≡ true
      → IsFile file → begins_with_hyphen text ≡ false
      → is_unsigned_in 1 MOST_STEPS text ≡ false
      → AsksNothing (program ∷ name_of command ∷ file ∷ codes "--steps" ∷ text ∷ [])

-- ---- answers

-- The answer is what was asked for; only where memory is refused it is want of memory.
abbrev pub IsAnswer : Command → Text → ℕ → Result Words WordsFault → Type 0
IsAnswer command file steps result = MatchResult result
    (λ w. (w.command ≡ command) × (string_bytes w.file ≡ file) × (w.steps ≡ steps))
    (λ e. e ≡ Memory)

-- the text of help, or want of memory
abbrev pub IsHelpOrMemory : WordsFault → Type 0
IsHelpOrMemory Usage = ⊥
IsHelpOrMemory (Help text) = ⊤
IsHelpOrMemory Memory = ⊤

-- the words are refused as no request, or memory is wanted
abbrev pub IsUsageOrMemory : WordsFault → Type 0
IsUsageOrMemory Usage = ⊤
IsUsageOrMemory (Help text) = ⊥
IsUsageOrMemory Memory = ⊤
