use Rattle.std.proofs.Common.{rules, ap, codes, ◌≡◌, Some, [], ◌∷◌}
use Rattle.clap.specs.declared.builder.value_parser.ValueParser.TheVariants.{Unsigned}
use Rattle.clap.specs.Walk.{Rule}
use Rattle.arc_words.specs.declared.words.TheConstants.{MOST_STEPS, STEPS_SHOWN}
use Rattle.arc_words.proofs.words.steps.Goals as goal

pub returns-clause-rule : goal.returns-clause-rule
returns-clause-rule c =
    let parser : c.value_parser.result.value_parser ≡ Some (Unsigned 1 MOST_STEPS) = search rules in
    let built = ap (λ (r : Rule). record r { long = Some (codes "steps"); value_names = 1; defaults = STEPS_SHOWN.now ∷ []; parser = Some (Unsigned 1 MOST_STEPS) }) c.new.ensures.rule in
    rw c.default_value.ensures (rw c.value_parser.ensures.others (rw parser (rw c.help.ensures (rw c.value_name.ensures (rw c.long.ensures built)))))
