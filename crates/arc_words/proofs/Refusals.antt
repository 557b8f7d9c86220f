-- Words that ask for help or for nothing have these faults.
use Rattle.std.proofs.Common.{◌≡◌, ◌∙◌, Bool, true, false, refl, sym, ap, ap₂, true≢false, inl, inr, List, [], ◌∷◌, Some, None, cond, codes}
use Rattle.std.specs.Str.{bytes_eq}
use Rattle.std.proofs.lemmas.Slice.Eq.{bytes_eq-Decides}
use Rattle.clap.specs.Walk.{Names, Text, Walk, idle, is_empty, nothing_held, subcommand_met, value, walked}
use Rattle.clap.specs.Simple.{Shape, names_of}
use Rattle.clap.specs.Kinds.{IsAmong, Kinds, or_else}
use Rattle.clap.specs.Faults.{fault_of, level_fault, step_fault, turn_fault, walk_fault}
use Rattle.clap.specs.ValueTests.{is_unsigned_in}
use Rattle.clap.specs.declared.error.kind.ErrorKind.{ErrorKind}
use Rattle.clap.specs.declared.error.kind.ErrorKind.TheVariants as kind
use Rattle.clap.proofs.OnLiterals.{clap_on_literals}
use Rattle.arc_words.specs.declared.request.Command.{Command}
use Rattle.arc_words.specs.declared.request.Command.TheVariants.{Check, Run, Trace, Code}
use Rattle.arc_words.specs.Commands.{arcc_commands, command_named, of_steps}
use Rattle.arc_words.specs.Asks.{AsksHelp, AsksNothing, IsFile, begins_with_hyphen, name_of, takes_steps, no_word, no_command, other_command, no_file, two_files, no_steps, wrong_steps, help, short_help, command_help, short_command_help}
use Rattle.arc_words.proofs.Below.{all, below, end_fault, leaf, leaf_of}
use Rattle.arc_words.proofs.Forms.{after_file, before, file_first_end, file_first_goes, with_pending}
use Rattle.arc_words.proofs.Taken.{among_some}
use Rattle.arc_words.proofs.Plain.{turn_plain, turn_stranger, walked_plain}

help_at_once : (program : Text) (rest : List Text) → fault_of arcc_commands (program ∷ codes "--help" ∷ rest) ≡ kind.DisplayHelp ∷ []
unfolding clap_on_literals
help_at_once program rest = refl

short_help_at_once : (program : Text) (rest : List Text) → fault_of arcc_commands (program ∷ codes "-h" ∷ rest) ≡ kind.DisplayHelp ∷ []
unfolding clap_on_literals
short_help_at_once program rest = refl

help_of : (c : Command) (program : Text) (rest : List Text) → fault_of arcc_commands (program ∷ name_of c ∷ codes "--help" ∷ rest) ≡ kind.DisplayHelp ∷ []
unfolding clap_on_literals
help_of Check program rest = below Check program (codes "--help" ∷ rest)
help_of Run program rest = below Run program (codes "--help" ∷ rest)
help_of Trace program rest = below Trace program (codes "--help" ∷ rest)
help_of Code program rest = below Code program (codes "--help" ∷ rest)

short_help_of : (c : Command) (program : Text) (rest : List Text) → fault_of arcc_commands (program ∷ name_of c ∷ codes "-h" ∷ rest) ≡ kind.DisplayHelp ∷ []
unfolding clap_on_literals
short_help_of Check program rest = below Check program (codes "-h" ∷ rest)
short_help_of Run program rest = below Run program (codes "-h" ∷ rest)
short_help_of Trace program rest = below Trace program (codes "-h" ∷ rest)
short_help_of Code program rest = below Code program (codes "-h" ∷ rest)

pub help_fault : (words : List Text) → AsksHelp words → fault_of arcc_commands words ≡ kind.DisplayHelp ∷ []
help_fault words (help program rest) = help_at_once program rest
help_fault words (short_help program rest) = short_help_at_once program rest
help_fault words (command_help program command rest) = help_of command program rest
help_fault words (short_command_help program command rest) = short_help_of command program rest

-- ---- nothing that can be done

-- there is a fault, and none is a wish for help
abbrev pub IsWrong : Kinds → Type 0
IsWrong ks = (is_empty ks ≡ false) × (IsAmong kind.DisplayHelp ks → ⊥)

wrong : (k : ErrorKind) (ks : Kinds) → (kind.DisplayHelp ≡ k → ⊥) → (IsAmong kind.DisplayHelp ks → ⊥) → IsWrong (k ∷ ks)
wrong k ks other others = (among_some k (k ∷ ks) (inl refl), λ h. elim h [ inl e ↦ other e | inr n ↦ others n ])

-- no subcommand answers to the word
same_way : (a b : Text) → bytes_eq a b ≡ false → bytes_eq b a ≡ false
same_way a b e = go (bytes_eq b a) refl
  where
    go : (x : Bool) → bytes_eq b a ≡ x → bytes_eq b a ≡ false
    go false s = s
    go true s = absurd (true≢false (sym ((bytes_eq-Decides a b).1 (sym ((bytes_eq-Decides b a).0 s))) ∙ e))

all_others : (b₁ b₂ b₃ b₄ : Bool) → cond b₁ (Some Check) (cond b₂ (Some Run) (cond b₃ (Some Trace) (cond b₄ (Some Code) None))) ≡ None
    → (b₁ ≡ false) × (b₂ ≡ false) × (b₃ ≡ false) × (b₄ ≡ false)
all_others true b₂ b₃ b₄ e = cc
all_others false true b₃ b₄ e = cc
all_others false false true b₄ e = cc
all_others false false false true e = cc
all_others false false false false e = (refl, refl, refl, refl)

no_name : (word : Text) → command_named word ≡ None → bytes_eq word (codes "help") ≡ false → subcommand_met (names_of all) idle word ≡ None
no_name word e h =
    let others = all_others _ _ _ _ e in
    rw (same_way _ _ others.0, same_way _ _ others.1, same_way _ _ others.2, same_way _ _ others.3, same_way _ _ h) refl

-- ---- where the first fault is

first_or : (x y : Kinds) (k : ErrorKind) (ks : Kinds) → x ≡ k ∷ ks → or_else x y ≡ k ∷ ks
first_or x y k ks e = ap (λ z. or_else z y) e

level_first : (s : Shape) (names : Names) (words : List Text) (has : Bool) (under : Kinds) (k : ErrorKind) (ks : Kinds) → walk_fault s names before words ≡ k ∷ ks
    → level_fault s names nothing_held words has under ≡ k ∷ ks
level_first s names words has under k ks e = first_or (walk_fault s names before words) _ k ks e

walk_first : (s : Shape) (names : Names) (w : Walk) (word : Text) (rest : List Text) (k : ErrorKind) (ks : Kinds) → turn_fault s names w word ≡ k ∷ ks
    → walk_fault s names w (word ∷ rest) ≡ k ∷ ks
unfolding walk_fault
walk_first s names w word rest k ks e = first_or (turn_fault s names w word) (walk_fault s names (walked s.rules names w word) rest) k ks e

other_command_fault : (program word : Text) (rest : List Text) → begins_with_hyphen word ≡ false → command_named word ≡ None → bytes_eq word (codes "help") ≡ false
    → fault_of arcc_commands (program ∷ word ∷ rest) ≡ kind.UnknownArgument ∷ kind.InvalidSubcommand ∷ []
unfolding clap_on_literals
other_command_fault program word rest plain e h =
    level_first all.top (names_of all) (word ∷ rest) _ _ kind.UnknownArgument (kind.InvalidSubcommand ∷ [])
    (walk_first all.top (names_of all) before word rest kind.UnknownArgument (kind.InvalidSubcommand ∷ []) (turn_stranger all.top (names_of all) word (no_name word e h) plain nothing_held 1))

-- a second word that is no option is a stray one
stray_at : (s : Shape) (file word : Text) (rest : List Text) → IsFile word → turn_fault s [] before file ≡ [] → walked s.rules [] before file ≡ after_file [] file
    → step_fault s 2 (with_pending [] (codes "file") (file ∷ [])) value ≡ kind.UnknownArgument ∷ []
    → level_fault s [] nothing_held (file ∷ word ∷ rest) false [] ≡ kind.UnknownArgument ∷ []
unfolding walk_fault
stray_at s file word rest other turn step stray =
    let second = turn_plain s word other (with_pending [] (codes "file") (file ∷ [])) idle 2 ∙ stray in
    level_first s [] (file ∷ word ∷ rest) false [] kind.UnknownArgument []
    ((λ i. or_else (turn i) (walk_fault s [] (step i) (word ∷ rest))) ∙ walk_first s [] (after_file [] file) word rest kind.UnknownArgument [] second)

two_files_fault : (c : Command) (program file word : Text) (rest : List Text) → IsFile file → IsFile word → fault_of arcc_commands (program ∷ name_of c ∷ file ∷ word ∷ rest) ≡ kind.UnknownArgument ∷ []
two_files_fault c program file word rest is other = below c program (file ∷ word ∷ rest) ∙ stray c
  where
    stray : (c : Command) → level_fault (leaf c) [] nothing_held (file ∷ word ∷ rest) false [] ≡ kind.UnknownArgument ∷ []
    stray Check = stray_at (leaf Check) file word rest other (turn_plain (leaf Check) file is nothing_held idle 1) (walked_plain (leaf Check).rules file is nothing_held idle 1) refl
    stray Run = stray_at (leaf Run) file word rest other (turn_plain (leaf Run) file is nothing_held idle 1) (walked_plain (leaf Run).rules file is nothing_held idle 1) refl
    stray Trace = stray_at (leaf Trace) file word rest other (turn_plain (leaf Trace) file is nothing_held idle 1) (walked_plain (leaf Trace).rules file is nothing_held idle 1) refl
    stray Code = stray_at (leaf Code) file word rest other (turn_plain (leaf Code) file is nothing_held idle 1) (walked_plain (leaf Code).rules file is nothing_held idle 1) refl

no_file_fault : (c : Command) (program : Text) → fault_of arcc_commands (program ∷ name_of c ∷ []) ≡ kind.MissingRequiredArgument ∷ []
unfolding clap_on_literals
no_file_fault Check program = below Check program []
no_file_fault Run program = below Run program []
no_file_fault Trace program = below Trace program []
no_file_fault Code program = below Code program []

no_steps_fault : (c : Command) (program : Text) (rest : List Text) → takes_steps c ≡ false → fault_of arcc_commands (program ∷ name_of c ∷ codes "--steps" ∷ rest) ≡ kind.UnknownArgument ∷ []
unfolding clap_on_literals
no_steps_fault Check program rest none = below Check program (codes "--steps" ∷ rest)
no_steps_fault Run program rest none = cc
no_steps_fault Trace program rest none = cc
no_steps_fault Code program rest none = below Code program (codes "--steps" ∷ rest)

wrong_steps_at : (t file text : Text) → IsFile file → begins_with_hyphen text ≡ false → is_unsigned_in 1 9223372036854775807 text ≡ false
    → level_fault (leaf_of (of_steps t)) [] nothing_held (file ∷ codes "--steps" ∷ text ∷ []) false [] ≡ kind.ValueValidation ∷ []
wrong_steps_at t file text is plain wrong =
    let goes = file_first_goes t file text is plain in
    ap₂ (λ (ks : Kinds) (w : Walk). or_else ks (end_fault (leaf_of (of_steps t)) w.held)) goes.0 goes.1 ∙ file_first_end t file text is plain false wrong

wrong_steps_fault : (c : Command) (program file text : Text) → takes_steps c ≡ true → IsFile file → begins_with_hyphen text ≡ false → is_unsigned_in 1 9223372036854775807 text ≡ false
    → fault_of arcc_commands (program ∷ name_of c ∷ file ∷ codes "--steps" ∷ text ∷ []) ≡ kind.ValueValidation ∷ []
wrong_steps_fault Check program file text takes is plain wrong = cc
wrong_steps_fault Run program file text takes is plain wrong = below Run program (file ∷ codes "--steps" ∷ text ∷ []) ∙ wrong_steps_at (codes "run") file text is plain wrong
wrong_steps_fault Trace program file text takes is plain wrong = below Trace program (file ∷ codes "--steps" ∷ text ∷ []) ∙ wrong_steps_at (codes "trace") file text is plain wrong
wrong_steps_fault Code program file text takes is plain wrong = cc

missing : fault_of arcc_commands [] ≡ kind.MissingSubcommand ∷ []
unfolding clap_on_literals
missing = refl

missing_command : (program : Text) → fault_of arcc_commands (program ∷ []) ≡ kind.MissingSubcommand ∷ []
unfolding clap_on_literals
missing_command program = refl

-- words that ask for nothing have a fault that is no wish for help
pub nothing_fault : (words : List Text) → AsksNothing words → IsWrong (fault_of arcc_commands words)
nothing_fault words no_word = rw missing (wrong kind.MissingSubcommand [] (λ e. cc) (λ n. n))
nothing_fault words (no_command program) = rw (missing_command program) (wrong kind.MissingSubcommand [] (λ e. cc) (λ n. n))
nothing_fault words (other_command program word rest plain e h) = rw (other_command_fault program word rest plain e h)
    (wrong kind.UnknownArgument (kind.InvalidSubcommand ∷ []) (λ e. cc) (λ h. elim h [ inl e ↦ cc | inr n ↦ n ]))
nothing_fault words (no_file program command) = rw (no_file_fault command program) (wrong kind.MissingRequiredArgument [] (λ e. cc) (λ n. n))
nothing_fault words (two_files program file word command rest is other) = rw (two_files_fault command program file word rest is other) (wrong kind.UnknownArgument [] (λ e. cc) (λ n. n))
nothing_fault words (no_steps program command rest none) = rw (no_steps_fault command program rest none) (wrong kind.UnknownArgument [] (λ e. cc) (λ n. n))
nothing_fault words (wrong_steps program file text command takes is plain not_said) =
    rw (wrong_steps_fault command program file text takes is plain not_said) (wrong kind.ValueValidation [] (λ e. cc) (λ n. n))
