use Rattle.std.proofs.Common.{rules, ap, refl, codes, true, ◌≡◌, ◌∙◌}
use Rattle.std.proofs.lemmas.Result.{IfOk-weaker}
use Rattle.clap.specs.Walk.{Text}
use Rattle.clap.specs.Simple.{App, app_of, new_app, with_subcommand}
use Rattle.arc_words.specs.Commands.{of_file, of_steps}
use Rattle.arc_words.proofs.words.reader.Goals as goal

abbrev bare : App
bare = record (new_app (codes "arcc")) { top = record (new_app (codes "arcc")).top { subcommand_required = true } }

module _ (app : App) where
  abbrev with_file : Text → App
  with_file name = with_subcommand app (of_file name)

  abbrev with_steps : Text → App
  with_steps name = with_subcommand app (of_steps name)

pub returns : goal.returns
returns c =
    let bare_is : app_of c.subcommand_required-app.result ≡ bare = search rules in
    let one = c.in_ok-app.ensures (of_file (codes "check")) c.with_file-check.ensures refl ∙ ap (λ a. with_file a (codes "check")) bare_is in
    let two = c.in_ok-app-2.ensures (of_steps (codes "run")) c.with_steps-run.ensures refl ∙ ap (λ a. with_steps a (codes "run")) one in
    let three = c.in_ok-app-3.ensures (of_steps (codes "trace")) c.with_steps.ensures refl ∙ ap (λ a. with_steps a (codes "trace")) two in
    IfOk-weaker c.with_command-4.result _ _ (λ r added. added ∙ ap (λ a. with_file a (codes "code")) three)
    (c.with_command-4.ensures (of_file (codes "code")) c.with_file.ensures refl)
