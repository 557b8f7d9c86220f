use Rattle.std.proofs.Common.{◌≡◌, ◌+◌, drop, sym, ap, ◌∙◌, arith}
use Rattle.std.proofs.lemmas.Grind.{common_steps}
use Rattle.arc_ast.specs.Tree.{field_tree, field_trees}
use Rattle.std.specs.Option.{option_or}
use Rattle.arc_class.specs.Fields.{field_after, field_sort, numbered, written_sorts}
use Rattle.arc_class.specs.KeptNames.{one_at}
use Rattle.arc_spec.specs.Sorts.{with_one, with_all}
use Rattle.arc_class.specs.Table.{at_name, number_of_class}
use Rattle.arc_class.proofs.FirstDeclaration.{kept_turn, or_one}
use Rattle.arc_class.proofs.ListSuffixes.{drop_turn, drop_end}
use Rattle.arc_class.proofs.fields.keep_fields.Goals as goal

pub loop-field-preserved : goal.loop-field-preserved
loop-field-preserved c =
    let xs = c.args.fields.now in
    let k = c.loop-field.field-index in
    let x = c.field-item.result in
    let owner = number_of_class c.args.owner in
    let before = c.loop-field.counted in
    let sort = field_sort (field_tree x) in
    let next : c.in_ok-counted.counted ≡ with_one sort before = c.in_ok-counted.ensures.counted ∙ ap (λ f. with_one f before) c.field_after-found.ensures.sort in
    record {
      kept = λ interfaces names sought.
          let old = at_name c.loop-field.named sought in
          let found = field_after interfaces owner before (field_tree x) in
          let rest = numbered interfaces owner c.in_ok-counted.counted (field_trees (drop (k + 1) xs)) sought in
          kept_turn old (one_at x.name.items found sought) _ rest _
          (c.in_ok-keep_first.ensures sought ∙ ap (λ f. option_or old (one_at c.deref.result.now f sought)) (c.field_after-found.ensures.field interfaces names) ∙ ap (λ n. option_or old (one_at n found sought)) c.deref.ensures.value)
          (c.loop-field.invariant.kept interfaces names sought ∙ ap (option_or old) (ap (λ us. numbered interfaces owner before (field_trees us) sought) (drop_turn xs k x c.loop-field-test.true c.field-item.is)
          ∙ or_one x.name.items found (numbered interfaces owner (with_one sort before) (field_trees (drop (k + 1) xs)) sought) sought
          ∙ ap (λ n. option_or (one_at x.name.items found sought) (numbered interfaces owner n (field_trees (drop (k + 1) xs)) sought)) (sym next)));
      counted = c.loop-field.invariant.counted ∙ ap (λ us. with_all before (written_sorts (field_trees us))) (drop_turn xs k x c.loop-field-test.true c.field-item.is)
          ∙ ap (λ n. with_all n (written_sorts (field_trees (drop (k + 1) xs)))) (sym next);
    }

pub returns-clause-counted : goal.returns-clause-counted
returns-clause-counted c =
    sym (c.loop-field.invariant.counted ∙ ap (λ us. with_all c.loop-field.counted (written_sorts (field_trees us))) (drop_end c.args.fields.now c.loop-field.field-index c.loop-field-test.false))

pub returns-clause-kept : goal.returns-clause-kept
returns-clause-kept c = grind (arith, common_steps)
