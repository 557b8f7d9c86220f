-- What clap's clauses say of the words at the program's own commands.
use Rattle.std.proofs.Common.{◌≡◌, ◌≢◌, ◌∙◌, ◌⊎◌, Bool, true, false, refl, sym, ap, subst, inl, inr, List, [], ◌∷◌, arith, ne_eqb, None, cond}
use Rattle.clap.specs.Walk.{Text, is_empty}
use Rattle.clap.specs.Simple.{App, HasMatchesOf, is_simple, subcommand_of, subcommand_rows_of}
use Rattle.clap.specs.Faults.{fault_of, is_simple_and_free}
use Rattle.clap.specs.Kinds.{IsAmong, Kinds}
use Rattle.clap.specs.declared.error.kind.ErrorKind.{ErrorKind}
use Rattle.clap.specs.declared.error.kind.ErrorKind.TheVariants as kind
use Rattle.clap.specs.declared.parser.matches.ArgMatches.{ArgMatches}
use Rattle.arc_words.specs.declared.request.WordsFault.{WordsFault}
use Rattle.arc_words.specs.declared.request.WordsFault.TheVariants.{Usage, Help, Memory}
use Rattle.arc_words.specs.Commands.{IsRefused, IsRefusedBy, Refuses, arcc_commands, asked, asked_in}

commands_simple : is_simple arcc_commands ≡ true
commands_simple = refl

commands_free : is_simple_and_free arcc_commands ≡ true
commands_free = refl

clean_at : (a : App) (words : List Text) → a ≡ arcc_commands → (is_simple_and_free a ≡ true → fault_of a words ≡ []) → fault_of arcc_commands words ≡ []
clean_at a words is clean = ap (λ x. fault_of x words) (sym is) ∙ clean (ap is_simple_and_free is ∙ commands_free)

-- where clap takes the words, its matches say what is asked for
pub taken : (a : App) (words : List Text) (m : ArgMatches) → a ≡ arcc_commands → HasMatchesOf a words m → (is_simple_and_free a ≡ true → fault_of a words ≡ [])
    → asked words ≡ asked_in (subcommand_rows_of m)
taken a words m is matches clean =
    let rows : subcommand_rows_of m ≡ subcommand_of arcc_commands words = (matches (ap is_simple is ∙ commands_simple)).1 ∙ ap (λ x. subcommand_of x words) is in
    ap (λ (ks : Kinds). cond (is_empty ks) (asked_in (subcommand_of arcc_commands words)) None) (clean_at a words is clean) ∙ ap asked_in (sym rows)

-- and a refusal of its matches is one of the words
pub by_matches : (a : App) (words : List Text) (m : ArgMatches) (fault : WordsFault) → a ≡ arcc_commands → HasMatchesOf a words m → (is_simple_and_free a ≡ true → fault_of a words ≡ [])
    → IsRefusedBy (asked_in (subcommand_rows_of m)) fault → IsRefused words fault
by_matches a words m Usage is matches clean none =
    (taken a words m is matches clean ∙ none, λ e. let bad : [] ≡ kind.DisplayHelp ∷ [] = sym (clean_at a words is clean) ∙ e in cc)
by_matches a words m (Help text) is matches clean none = absurd none
by_matches a words m Memory is matches clean none = tt

pub among_some : (k : ErrorKind) (ks : Kinds) → IsAmong k ks → is_empty ks ≡ false
among_some k [] h = absurd h
among_some k (x ∷ ks) h = ne_eqb _ _ (λ e. omega arith)

-- and where it finds a fault, nothing is asked for
pub nothing_asked : (words : List Text) → is_empty (fault_of arcc_commands words) ≡ false → asked words ≡ None
nothing_asked words e = ap (λ (b : Bool). cond b (asked_in (subcommand_of arcc_commands words)) None) e

other_kind : (k x : ErrorKind) (ks : Kinds) → IsAmong k ks → k ≢ x → ks ≢ x ∷ []
other_kind k x ks h other same = go (subst (IsAmong k) same h)
  where
    go : IsAmong k (x ∷ []) → ⊥
    go (inl e) = other e
    go (inr n) = n

by_kind : (k : ErrorKind) (words : List Text) (fault : WordsFault) → (k ≡ kind.OutOfMemory) ⊎ IsAmong k (fault_of arcc_commands words) → Refuses k fault → IsRefused words fault
by_kind k words Usage (inl e) r = absurd (r.0 e)
by_kind k words Usage (inr h) r = (nothing_asked words (among_some k _ h), other_kind k kind.DisplayHelp _ h r.1)
by_kind k words (Help text) (inl e) r = absurd (let bad : kind.OutOfMemory ≡ kind.DisplayHelp = sym e ∙ r in cc)
by_kind k words (Help text) (inr h) r = subst (λ x. IsAmong x (fault_of arcc_commands words)) r h
by_kind k words Memory h r = tt

-- an error of clap's is answered rightly
pub refused : (a : App) (words : List Text) (k : ErrorKind) (fault : WordsFault) → a ≡ arcc_commands
    → (is_simple_and_free a ≡ true → (k ≡ kind.OutOfMemory) ⊎ IsAmong k (fault_of a words)) → Refuses k fault → IsRefused words fault
refused a words k fault is fails r = by_kind k words fault
    (subst (λ (x : App). (k ≡ kind.OutOfMemory) ⊎ IsAmong k (fault_of x words)) is (fails (ap is_simple_and_free is ∙ commands_free))) r
