use Rattle.std.proofs.Common.{◌∙◌}
use Rattle.std.specs.Prelude.{Err}
use Rattle.std.proofs.lemmas.Result.{IfErr-weaker, IfOk-weaker}
use Rattle.arc_words.proofs.Taken.{by_matches, refused, taken}
use Rattle.arc_words.proofs.Answered.{help_answer, plain_answer, usage_answer}
use Rattle.arc_words.proofs.words.words.Goals as goal

pub returns-in-Ok-clause-said : goal.returns-in-Ok-clause-said
returns-in-Ok-clause-said c =
    let same = taken _ _ c.in-Ok.matches c.in_ok-reader.ensures c.in-Ok.ensures.matches c.in-Ok.ensures.kinds in
    IfOk-weaker c.chosen.result _ _ (λ w h. same ∙ h) c.chosen.ensures.said

pub returns-in-Err-clause-refused : goal.returns-in-Err-clause-refused
returns-in-Err-clause-refused c = refused _ _ _ _ c.in_ok-reader.ensures c.in-Err.ensures.kinds c.refusal.ensures

pub returns-in-Ok-clause-refused : goal.returns-in-Ok-clause-refused
returns-in-Ok-clause-refused c =
    IfErr-weaker c.chosen.result _ _ (λ fault h. by_matches _ _ c.in-Ok.matches fault c.in_ok-reader.ensures c.in-Ok.ensures.matches c.in-Ok.ensures.kinds h) c.chosen.ensures.refused

pub returns-in-Ok-clause-plain : goal.returns-in-Ok-clause-plain
returns-in-Ok-clause-plain c = plain_answer _ c.chosen.result (returns-in-Ok-clause-said c) (returns-in-Ok-clause-refused c)

pub returns-in-Err-clause-plain : goal.returns-in-Err-clause-plain
returns-in-Err-clause-plain c = plain_answer _ (Err c.refusal.result) tt (returns-in-Err-clause-refused c)

pub returns-in-Ok-clause-help : goal.returns-in-Ok-clause-help
returns-in-Ok-clause-help c = help_answer _ c.chosen.result (returns-in-Ok-clause-said c) (returns-in-Ok-clause-refused c)

pub returns-in-Err-clause-help : goal.returns-in-Err-clause-help
returns-in-Err-clause-help c = help_answer _ (Err c.refusal.result) tt (returns-in-Err-clause-refused c)

pub returns-in-Ok-clause-usage : goal.returns-in-Ok-clause-usage
returns-in-Ok-clause-usage c = usage_answer _ c.chosen.result (returns-in-Ok-clause-said c) (returns-in-Ok-clause-refused c)

pub returns-in-Err-clause-usage : goal.returns-in-Err-clause-usage
returns-in-Err-clause-usage c = usage_answer _ (Err c.refusal.result) tt (returns-in-Err-clause-refused c)
