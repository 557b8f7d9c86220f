use Rattle.std.proofs.Common.{◌≡◌, ◌∙◌, Some, ap, codes, refl}
use Rattle.clap.specs.Words.{first_of, found_of, rows_of}
use Rattle.clap.proofs.WalkLemmas.{first_value-rows}
use Rattle.arc_words.proofs.Chosen.{all_said, no_file, pair}
use Rattle.arc_words.proofs.words.chosen.Goals as goal

pub returns-in_default-get_str-clause-refused : goal.returns-in_default-get_str-clause-refused
returns-in_default-get_str-clause-refused c =
    let is = pair _ _ _ c.in-Some.name.now _ c.in-Some.ensures.name c.in-Some.ensures.rows in
    no_file _ _ _ is _ c.in-Some-command_of.ensures (c.in_default-get_str.ensures ∙ first_value-rows (found_of c.in-Some.options.now) (codes "file"))

pub returns-clause-said : goal.returns-clause-said
returns-clause-said c =
    let is = pair _ _ _ c.in-Some.name.now _ c.in-Some.ensures.name c.in-Some.ensures.rows in
    let file : Some c.in-Some-get_str.path.now ≡ first_of (codes "file") (rows_of (found_of c.in-Some.options.now)) = c.in-Some-get_str.ensures ∙ first_value-rows (found_of c.in-Some.options.now) (codes "file") in
    all_said _ _ _ is _ c.in-Some-command_of.ensures _ (ap (λ t. Some t) c.in_ok-from_str.ensures.ok ∙ file) _ c.in-Some-steps_of.ensures.said

pub returns-clause-heap : goal.returns-clause-heap
returns-clause-heap c = refl
