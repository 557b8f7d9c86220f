-- What the answers to words of the plain forms are.
use Rattle.std.proofs.Common.{◌≡◌, ◌∙◌, ℕ, refl, sym, ap, subst, inl, List, Some, None, IfOk, IfErr, IsErrAnd}
use Rattle.std.specs.Prelude.{Result, Ok, Err}
use Rattle.clap.specs.Walk.{Text}
use Rattle.clap.specs.Faults.{fault_of}
use Rattle.clap.specs.Kinds.{IsAmong}
use Rattle.clap.specs.declared.error.kind.ErrorKind.TheVariants as kind
use Rattle.arc_words.specs.declared.request.Command.{Command}
use Rattle.arc_words.specs.declared.request.Words.{Words}
use Rattle.arc_words.specs.declared.request.WordsFault.{WordsFault}
use Rattle.arc_words.specs.declared.request.WordsFault.TheVariants.{Usage, Help, Memory}
use Rattle.arc_words.specs.Commands.{Asked, IsRefused, arcc_commands, asked, asked_of}
use Rattle.arc_words.specs.Asks.{Asks, AsksHelp, AsksNothing, IsAnswer, IsHelpOrMemory, IsUsageOrMemory}
use Rattle.arc_words.proofs.Forms.{form_asks}
use Rattle.arc_words.proofs.Refusals.{help_fault, nothing_fault}
use Rattle.arc_words.proofs.Taken.{among_some, nothing_asked}

some_none : (a : Asked) → Some a ≡ None → ⊥
some_none a e = cc

module _ (words : List Text) where
  abbrev Said : Result Words WordsFault → Type 0
  Said r = IfOk r (λ w. asked words ≡ Some (asked_of w))

  abbrev Refused : Result Words WordsFault → Type 0
  Refused r = IfErr r (IsRefused words)

  pub plain_answer : (r : Result Words WordsFault) → Said r → Refused r → (command : Command) (file : Text) (steps : ℕ) → Asks words command file steps → IsAnswer command file steps r
  plain_answer (Ok w) said refused command file steps form =
      let both : Some (asked_of w) ≡ Some (record { command = command; file = file; steps = steps }) = sym said ∙ form_asks words command file steps form in
      let same : asked_of w ≡ record { command = command; file = file; steps = steps } = cc in
      (ap (λ (a : Asked). a.command) same, ap (λ (a : Asked). a.file) same, ap (λ (a : Asked). a.steps) same)
  plain_answer (Err Usage) said refused command file steps form = absurd (some_none _ (sym (form_asks words command file steps form) ∙ refused.0))
  plain_answer (Err (Help text)) said refused command file steps form =
      absurd (some_none _ (sym (form_asks words command file steps form) ∙ nothing_asked words (among_some kind.DisplayHelp _ refused)))
  plain_answer (Err Memory) said refused command file steps form = refl

  pub help_answer : (r : Result Words WordsFault) → Said r → Refused r → AsksHelp words → IsErrAnd r IsHelpOrMemory
  help_answer (Ok w) said refused form =
      let wish : IsAmong kind.DisplayHelp (fault_of arcc_commands words) = subst (IsAmong kind.DisplayHelp) (sym (help_fault words form)) (inl refl) in
      absurd (some_none _ (sym said ∙ nothing_asked words (among_some kind.DisplayHelp _ wish)))
  help_answer (Err Usage) said refused form = absurd (refused.1 (help_fault words form))
  help_answer (Err (Help text)) said refused form = tt
  help_answer (Err Memory) said refused form = tt

  pub usage_answer : (r : Result Words WordsFault) → Said r → Refused r → AsksNothing words → IsErrAnd r IsUsageOrMemory
  usage_answer (Ok w) said refused form = absurd (some_none _ (sym said ∙ nothing_asked words (nothing_fault words form).0))
  usage_answer (Err Usage) said refused form = tt
  usage_answer (Err (Help text)) said refused form = absurd ((nothing_fault words form).1 refused)
  usage_answer (Err Memory) said refused form = tt
