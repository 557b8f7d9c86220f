use Rattle.std.proofs.Common.{◌≡◌, ◌∙◌, IfOk, ap, rules, subst, true}
use Rattle.std.specs.Prelude.{Ok}
use Rattle.std.proofs.lemmas.Result.{IfOk-weaker}
use Rattle.clap.specs.Simple.{App, app_of, with_subcommand}
use Rattle.clap.proofs.SimpleLemmas.{plain_fields}
use Rattle.arc_words.specs.Commands.{alone}
use Rattle.arc_words.proofs.words.with_command.Goals as goal

pub returns-in-Ok : goal.returns-in-Ok
returns-in-Ok c = λ s made plain.
    let made_it : c.args.command ≡ Ok c.in-Ok.command = search rules in
    let is : app_of c.in-Ok.command ≡ alone s = subst (λ r. IfOk r (λ k. app_of k ≡ alone s)) made_it made in
    let same : (app_of c.in-Ok.command).top.is_plain ≡ true = ap (λ (a : App). a.top.is_plain) is ∙ plain in
    IfOk-weaker c.subcommand.result _ _ (λ r added. added.shape (plain_fields c.in-Ok.command same).globals
    ∙ ap (λ (a : App). with_subcommand (app_of c.args.app) a.top) is) c.subcommand.ensures
