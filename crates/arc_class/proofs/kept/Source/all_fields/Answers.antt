use Rattle.std.proofs.Common.{◌≡◌, ◌<◌, ◌≤◌, ◌+◌, ◌-◌, ◌++◌, suc, length, map, get_or, subst, sym, ap, append-nil, ◌∙◌, arith}
use Rattle.arc_ast.specs.Tree.{unit_tree, interface_tree}
use Rattle.arc_class.specs.Classes.{class_number}
use Rattle.arc_class.specs.Fields.{owned, fields, all_fields_from, fields_declared, inherited_by}
use Rattle.arc_class.specs.Table.{class_number_in, list_of, list_among}
use Rattle.arc_class.proofs.FieldLists.{lists_so_far, class_here}
use Rattle.arc_class.proofs.TablePartsGrow.{made_turn, pushed_length}
use Rattle.arc_class.proofs.ClassViolations.{class_number_kept, interfaces_count, interface_there}
use Rattle.arc_class.proofs.kept.Source.all_fields.Goals as goal

pub loop-interface-preserved : goal.loop-interface-preserved
loop-interface-preserved c =
    let u = unit_tree c.args.self.now.unit.now in
    let source = c.args.self.now in
    let xs = c.args.self.now.unit.now.interfaces.items in
    let k = c.loop-interface.interface-index in
    let x = c.interface-item.result in
    let i = interface_tree x in
    let all = c.loop-interface.all.items in
    let made = c.in_ok-fields.fields in
    let count = length u.interfaces in
    let within : k < length xs = subst (λ us. k < length us) c.deref-interface-items.ensures.value c.loop-interface-test.true in
    let same : x ≡ get_or xs k x = c.interface-item.is ∙ ap (λ us. get_or us k x) c.deref-interface-items.ensures.value in
    let few : length all ≤ suc count = omega (arith, within, c.loop-interface.invariant.counted, interfaces_count xs) in
    let superclass : c.class_number-superclass.result ≡ class_number u.interfaces i.superclass =
    c.class_number-superclass.ensures ∙ ap (class_number_in source.names) c.deref.ensures.value ∙ class_number_kept source.names u.interfaces x.superclass.items (c.requires.class_places x.superclass.items) in
    let inherited : list_of c.in_ok-inherited.inherited ≡ inherited_by u (k + 1) (class_number u.interfaces i.superclass) =
    c.in_ok-inherited.ensures ∙ ap (λ us. list_among us c.class_number-superclass.result) c.deref-in-loop-interface.ensures.value ∙ lists_so_far u all (all_fields_from u (k + 1) (count - k)) c.loop-interface.invariant.made few c.class_number-superclass.result
    ∙ ap (λ s. inherited_by u (length all) s) superclass ∙ ap (λ n. inherited_by u n (class_number u.interfaces i.superclass)) c.loop-interface.invariant.counted in
    let number : c.loop-interface.class + 1 ≡ k + 1 = ap (λ n. n + 1) c.loop-interface.invariant.numbered in
    let number_next : suc k ≡ k + 1 = omega arith in
    let one : list_of made ≡ fields u (k + 1) =
    c.in_ok-fields.ensures ∙ ap (λ n. list_of c.in_ok-inherited.inherited ++ map (owned n) (fields_declared u n i)) number ∙ ap (λ l. l ++ map (owned (k + 1)) (fields_declared u (k + 1) i)) inherited
    ∙ ap (λ n. inherited_by u n (class_number u.interfaces i.superclass) ++ map (owned n) (fields_declared u n i)) (sym number_next) ∙ sym (class_here u k i (interface_there xs k x within same)) ∙ ap (fields u) number_next in
    let more : count - k ≡ suc (count - (k + 1)) = omega (arith, within, interfaces_count xs) in
    let next : suc (k + 1) ≡ k + 1 + 1 = omega arith in
    record {
      made = made_turn list_of all c.push-in-loop-interface.new.self.items made (fields u (k + 1)) (all_fields_from u (suc (k + 1)) (count - (k + 1))) _ c.in_ok-push-2.ensures.items one
          (c.loop-interface.invariant.made ∙ ap (λ n. map list_of all ++ all_fields_from u (k + 1) n) more)
          ∙ ap (λ n. map list_of c.push-in-loop-interface.new.self.items ++ all_fields_from u n (count - (k + 1))) next;
      numbered = ap (λ n. n + 1) c.loop-interface.invariant.numbered;
      counted = pushed_length all c.push-in-loop-interface.new.self.items made (k + 1) c.in_ok-push-2.ensures.items c.loop-interface.invariant.counted;
    }

pub returns : goal.returns
returns c =
    let u = unit_tree c.args.self.now.unit.now in
    let xs = c.args.self.now.unit.now.interfaces.items in
    let k = c.loop-interface.interface-index in
    let all = c.loop-interface.all.items in
    let same : length c.deref-interface-items.result.now ≡ length xs = ap length c.deref-interface-items.ensures.value in
    let none : length u.interfaces - k ≡ 0 = omega (arith, c.loop-interface-test.false, same, interfaces_count xs) in
    sym (c.loop-interface.invariant.made ∙ ap (λ n. map list_of all ++ all_fields_from u (k + 1) n) none ∙ append-nil (map list_of all))
