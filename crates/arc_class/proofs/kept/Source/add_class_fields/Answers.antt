use Rattle.std.proofs.Common.{◌≡◌, ◌<◌, ◌≤◌, ◌+◌, ◌++◌, suc, length, map, get_or, drop, subst, ap, ◌∙◌, arith}
use Rattle.std.proofs.lemmas.Grind.{common_steps}
use Rattle.arc_ast.specs.Tree.{unit_tree, interface_tree, interface_trees}
use Rattle.arc_class.specs.Classes.{class_number}
use Rattle.arc_class.specs.private.Entries.{fields_tree, class_fields, class_fields_with, class_fields_from, counted_among}
use Rattle.arc_class.specs.Fields.{inherited_by, sorts_of_fields}
use Rattle.arc_spec.specs.Sorts.{counts}
use Rattle.arc_class.specs.Table.{class_number_in}
use Rattle.arc_class.proofs.FieldLists.{inherited_so_far}
use Rattle.arc_class.proofs.ListSuffixes.{drop_turn}
use Rattle.arc_class.proofs.TablePartsGrow.{made_turn, pushed_length}
use Rattle.arc_class.proofs.ClassViolations.{class_number_kept, interfaces_count}
use Rattle.arc_class.proofs.kept.Source.add_class_fields.Goals as goal

pub loop-interface-preserved : goal.loop-interface-preserved
loop-interface-preserved c =
    let u = unit_tree c.args.self.now.unit.now in
    let source = c.args.self.now in
    let xs = c.args.self.now.unit.now.interfaces.items in
    let k = c.loop-interface.interface-index in
    let x = c.interface-item.result in
    let i = interface_tree x in
    let all = c.loop-interface.all.items in
    let known = c.in_ok-known.known in
    let rest = class_fields_from u (suc (k + 1)) (interface_trees (drop (k + 1) xs)) in
    let within : k < length xs = subst (λ us. k < length us) c.deref-interface-items.ensures.value c.loop-interface-test.true in
    let same : x ≡ get_or xs k x = c.interface-item.is ∙ ap (λ us. get_or us k x) c.deref-interface-items.ensures.value in
    let few : length all ≤ suc (length u.interfaces) = omega (arith, within, c.loop-interface.invariant.counted, interfaces_count xs) in
    let superclass : c.class_number-superclass.result ≡ class_number u.interfaces i.superclass =
    c.class_number-superclass.ensures ∙ ap (class_number_in source.names) c.deref.ensures.value ∙ class_number_kept source.names u.interfaces x.superclass.items (c.requires.knows.class_places x.superclass.items) in
    let inherited : c.counted_among-inherited.result ≡ counts (sorts_of_fields (inherited_by u (length all) (class_number u.interfaces i.superclass))) =
    c.counted_among-inherited.ensures ∙ ap (λ us. counted_among us c.class_number-superclass.result) c.deref-in-loop-interface.ensures.value ∙ inherited_so_far u all (class_fields_from u (k + 1) (interface_trees (drop k xs))) c.loop-interface.invariant.made few c.class_number-superclass.result
    ∙ ap (λ s. counts (sorts_of_fields (inherited_by u (length all) s))) superclass in
    let number : c.loop-interface.class + 1 ≡ k + 1 = ap (λ n. n + 1) c.loop-interface.invariant.numbered in
    let one : fields_tree known ≡ class_fields u (k + 1) i =
    c.in_ok-known.ensures.known ∙ ap (λ n. class_fields_with u n c.counted_among-inherited.result i) number ∙ ap (λ n. class_fields_with u (k + 1) n i) inherited
    ∙ ap (λ n. class_fields_with u (k + 1) (counts (sorts_of_fields (inherited_by u n (class_number u.interfaces i.superclass)))) i) c.loop-interface.invariant.counted in
    let next : suc (k + 1) ≡ k + 1 + 1 = omega arith in
    record {
      made = made_turn fields_tree all c.push-in-loop-interface.new.self.items known (class_fields u (k + 1) i) rest _ c.in_ok-push-2.ensures.items one
          (c.loop-interface.invariant.made ∙ ap (λ us. map fields_tree all ++ class_fields_from u (k + 1) (interface_trees us)) (drop_turn xs k x within same))
          ∙ ap (λ n. map fields_tree c.push-in-loop-interface.new.self.items ++ class_fields_from u n (interface_trees (drop (k + 1) xs))) next;
      numbered = ap (λ n. n + 1) c.loop-interface.invariant.numbered;
      counted = pushed_length all c.push-in-loop-interface.new.self.items known (k + 1) c.in_ok-push-2.ensures.items c.loop-interface.invariant.counted;
    }

pub returns-clause-known : goal.returns-clause-known
returns-clause-known c = grind (arith, common_steps)
