-- What is asked by the words after the name of a command.
use Rattle.std.proofs.Common.{◌≡◌, ◌∙◌, false, refl, sym, ap, ap₂, List, [], ◌∷◌, Option, Some, None, cond, codes}
use Rattle.std.specs.Prelude.{is_some, fold}
use Rattle.clap.specs.Walk.{Held, Row, Text, Walk, finished, is_empty, nothing_held, settled, walk, walk_from, walked}
use Rattle.clap.specs.Simple.{App, Shape, built, built_leaf, entered, inherited, marked_built, names_of, subcommand_of, with_leaf_noted}
use Rattle.clap.specs.Kinds.{Kinds, or_else}
use Rattle.clap.specs.Faults.{check_fault, defaults_fault, entered_fault, fault_of, level_fault, settle_fault, walk_fault}
use Rattle.clap.proofs.FaultLemmas.{stopped_fault}
use Rattle.clap.proofs.WalkLemmas.{walk_stopped}
use Rattle.clap.proofs.OnLiterals.{clap_on_literals}
use Rattle.arc_words.specs.declared.request.Command.{Command}
use Rattle.arc_words.specs.declared.request.Command.TheVariants.{Check, Run, Trace, Code}
use Rattle.arc_words.specs.Commands.{Asked, arcc_commands, asked, asked_by, asked_in, of_file, of_steps}
use Rattle.arc_words.specs.Asks.{name_of}
use Rattle.arc_words.proofs.Plain.{Goes}

abbrev of_command : Command → Shape
of_command Check = of_file (codes "check")
of_command Run = of_steps (codes "run")
of_command Trace = of_steps (codes "trace")
of_command Code = of_file (codes "code")

-- a command as it is built
abbrev pub leaf_of : Shape → Shape
leaf_of s = built_leaf (inherited (with_leaf_noted (marked_built arcc_commands.top)) s)

abbrev pub leaf : Command → Shape
leaf c = leaf_of (of_command c)

abbrev pub all : App
all = built arcc_commands

or_else_nil : (ks : Kinds) → or_else ks [] ≡ ks
or_else_nil [] = refl
or_else_nil (k ∷ ks) = refl

-- the faults of the words at the program itself, by where its walk ends and the faults of that
abbrev top_fault : Kinds → Walk → Kinds
top_fault ks w = or_else ks (or_else (entered_fault all w.stopped)
    (or_else (settle_fault all.top.rules all.top.args_override_self w.held)
    (or_else (defaults_fault (settled all.top.rules w.held).rows all.top.rules)
    (check_fault all.top (finished all.top.rules w.held) (is_some (entered all w.stopped))))))

-- the walk after the name of a command
abbrev named : Text → List Text → Walk
named name rest = record (walk_from nothing_held) { stopped = Some (name, rest) }

name_met : (c : Command) → walked all.top.rules (names_of all) (walk_from nothing_held) (name_of c) ≡ named (name_of c) []
unfolding clap_on_literals
name_met Check = refl
name_met Run = refl
name_met Trace = refl
name_met Code = refl

name_clean : (c : Command) (rest : List Text) → walk_fault all.top (names_of all) (walk_from nothing_held) (name_of c ∷ rest) ≡ walk_fault all.top (names_of all) (named (name_of c) []) rest
unfolding clap_on_literals
name_clean Check rest = refl
name_clean Run rest = refl
name_clean Trace rest = refl
name_clean Code rest = refl

walk_is : (c : Command) (rest : List Text) → walk all.top.rules (names_of all) nothing_held (name_of c ∷ rest) ≡ named (name_of c) rest
walk_is c rest = ap (λ w. fold (walked all.top.rules (names_of all)) w rest) (name_met c) ∙ sym (walk_stopped all.top.rules (names_of all) (walk_from nothing_held) (name_of c) [] rest)

below_named : (c : Command) (rest : List Text) → top_fault [] (named (name_of c) rest) ≡ or_else (level_fault (leaf c) [] nothing_held rest false []) []
unfolding clap_on_literals
below_named Check rest = refl
below_named Run rest = refl
below_named Trace rest = refl
below_named Code rest = refl

-- the faults of the words are those of the words after the command
pub below : (c : Command) (program : Text) (rest : List Text) → fault_of arcc_commands (program ∷ name_of c ∷ rest) ≡ level_fault (leaf c) [] nothing_held rest false []
below c program rest =
    ap₂ top_fault (name_clean c rest ∙ stopped_fault all.top (names_of all) (walk_from nothing_held) (name_of c, []) rest) (walk_is c rest)
    ∙ below_named c rest ∙ or_else_nil _

entered_named : (c : Command) (rest : List Text) → entered all (Some (name_of c, rest)) ≡ Some (name_of c, finished (leaf c).rules (walk (leaf c).rules [] nothing_held rest).held)
entered_named Check rest = refl
entered_named Run rest = refl
entered_named Trace rest = refl
entered_named Code rest = refl

pub rows_below : (c : Command) (program : Text) (rest : List Text)
    → subcommand_of arcc_commands (program ∷ name_of c ∷ rest) ≡ Some (name_of c, finished (leaf c).rules (walk (leaf c).rules [] nothing_held rest).held)
rows_below c program rest = ap (λ (w : Walk). entered all w.stopped) (walk_is c rest) ∙ entered_named c rest

-- what is left to check where a walk over a command's words ends
abbrev pub end_fault : Shape → Held → Kinds
end_fault s h = or_else (settle_fault s.rules s.args_override_self h)
    (or_else (defaults_fault (settled s.rules h).rows s.rules) (check_fault s (finished s.rules h) false))

-- the words ask for what their rows say, where neither the walk nor its end has a fault
pub asks : (c : Command) (program : Text) (rest : List Text) (end : Walk) (a : Asked) → Goes (leaf c) (walk_from nothing_held) rest end → end_fault (leaf c) end.held ≡ []
    → asked_by (name_of c) (finished (leaf c).rules end.held) ≡ Some a → asked (program ∷ name_of c ∷ rest) ≡ Some a
asks c program rest end a goes ends says =
    let clean : level_fault (leaf c) [] nothing_held rest false [] ≡ [] = ap₂ (λ (ks : Kinds) (w : Walk). or_else ks (end_fault (leaf c) w.held)) goes.0 goes.1 ∙ ends in
    let rows : subcommand_of arcc_commands (program ∷ name_of c ∷ rest) ≡ Some (name_of c, finished (leaf c).rules end.held) =
    rows_below c program rest ∙ ap (λ (w : Walk). Some (name_of c, finished (leaf c).rules w.held)) goes.1 in
    ap₂ (λ (ks : Kinds) (o : Option (Text × List Row)). cond (is_empty ks) (asked_in o) None) (below c program rest ∙ clean) rows ∙ says
