use Rattle.std.proofs.Common.{◌≡◌, ◌<◌, ◌≤◌, ◌+◌, ◌++◌, Some, suc, length, map, get_or, drop, subst, ap, ◌∙◌, arith}
use Rattle.std.proofs.lemmas.Grind.{common_steps}
use Rattle.arc_ast.specs.Tree.{unit_tree, interface_tree, interface_trees}
use Rattle.arc_spec.specs.Classes.{class_of}
use Rattle.arc_class.specs.private.Entries.{counted_among}
use Rattle.arc_class.specs.Fields.{fields, sorts_of_fields}
use Rattle.arc_spec.specs.Sorts.{counts}
use Rattle.arc_class.specs.RuntimeClasses as running
use Rattle.arc_class.specs.RuntimeClasses.{class_with, classes_from}
use Rattle.arc_class.proofs.FieldLists.{counts_kept}
use Rattle.arc_class.proofs.ListSuffixes.{drop_turn}
use Rattle.arc_class.proofs.TablePartsGrow.{made_turn, pushed_length}
use Rattle.arc_class.proofs.ClassViolations.{interfaces_count}
use Rattle.arc_class.proofs.kept.Source.classes.Goals as goal

pub loop-interface-preserved : goal.loop-interface-preserved
loop-interface-preserved c =
    let u = unit_tree c.args.self.now.unit.now in
    let xs = c.args.self.now.unit.now.interfaces.items in
    let k = c.loop-interface.interface-index in
    let x = c.interface-item.result in
    let i = interface_tree x in
    let all = c.loop-interface.classes.items in
    let within : k < length xs = subst (λ us. k < length us) c.deref-interface-items.ensures.value c.loop-interface-test.true in
    let same : x ≡ get_or xs k x = c.interface-item.is ∙ ap (λ us. get_or us k x) c.deref-interface-items.ensures.value in
    let few : k + 1 ≤ length u.interfaces = omega (arith, within, interfaces_count xs) in
    let number : c.loop-interface.number + 1 ≡ k + 1 = ap (λ n. n + 1) c.loop-interface.invariant.numbered in
    let count : c.counted_among-counted.result ≡ counts (sorts_of_fields (fields u (k + 1))) =
    c.counted_among-counted.ensures ∙ ap (λ n. counted_among c.args.fields.now (Some n)) number ∙ counts_kept u c.args.fields.now c.requires.fields (k + 1) few in
    let one : class_of c.in_ok-class.class ≡ running.class_of u (k + 1) i = c.in_ok-class.ensures.made ∙ ap (λ n. class_with u n i) count in
    let next : suc (k + 1) ≡ k + 1 + 1 = omega arith in
    record {
      made = made_turn class_of all c.push-in-loop-interface.new.self.items c.in_ok-class.class (running.class_of u (k + 1) i) (classes_from u (suc (k + 1)) (interface_trees (drop (k + 1) xs))) _ c.in_ok-push-2.ensures.items one
          (c.loop-interface.invariant.made ∙ ap (λ us. map class_of all ++ classes_from u (k + 1) (interface_trees us)) (drop_turn xs k x within same))
          ∙ ap (λ n. map class_of c.push-in-loop-interface.new.self.items ++ classes_from u n (interface_trees (drop (k + 1) xs))) next;
      numbered = ap (λ n. n + 1) c.loop-interface.invariant.numbered;
      counted = pushed_length all c.push-in-loop-interface.new.self.items c.in_ok-class.class (k + 1) c.in_ok-push-2.ensures.items c.loop-interface.invariant.counted;
    }

pub returns-clause-made : goal.returns-clause-made
returns-clause-made c = grind (arith, common_steps)
