use Rattle.std.proofs.Common.{◌≡◌, ◌<◌, ◌+◌, ◌++◌, ◌∷◌, [], length, map, get_or, drop, subst, sym, ap, ◌∙◌, arith}
use Rattle.std.proofs.lemmas.Grind.{common_steps}
use Rattle.arc_ast.specs.Tree.{unit_tree, interface_tree, interface_trees}
use Rattle.arc_class.specs.private.Entries.{entry_tree, root_entry, class_entry}
use Rattle.arc_class.proofs.ListSuffixes.{drop_turn}
use Rattle.arc_class.proofs.TablePartsGrow.{made_turn}
use Rattle.arc_class.proofs.kept.Source.entries.Goals as goal

pub loop-interface-preserved : goal.loop-interface-preserved
loop-interface-preserved c =
    let u = unit_tree c.args.self.now.unit.now in
    let xs = c.args.self.now.unit.now.interfaces.items in
    let k = c.loop-interface.interface-index in
    let x = c.interface-item.result in
    let within : k < length xs = subst (λ us. k < length us) c.deref-interface-items.ensures.value c.loop-interface-test.true in
    let same : x ≡ get_or xs k x = c.interface-item.is ∙ ap (λ us. get_or us k x) c.deref-interface-items.ensures.value in
    made_turn (entry_tree c.args.self.now.names) c.loop-interface.entries.items c.push-in-loop-interface.new.self.items c.in_ok-entry.entry (class_entry u (interface_tree x)) (map (class_entry u) (interface_trees (drop (k + 1) xs))) _
    c.in_ok-push-2.ensures.items c.in_ok-entry.ensures
    (c.loop-interface.invariant ∙ ap (λ us. map (entry_tree c.args.self.now.names) c.loop-interface.entries.items ++ map (class_entry u) (interface_trees us)) (drop_turn xs k x within same))

pub loop-interface-init : goal.loop-interface-init
loop-interface-init c =
    let u = unit_tree c.args.self.now.unit.now in
    let names = c.args.self.now.names in
    let made : c.push.new.self.items ≡ c.root_entry.result ∷ [] = c.in_ok-push.ensures.items ∙ ap (λ es. es ++ c.root_entry.result ∷ []) c.new-entries.ensures.items in
    let one : map (entry_tree names) c.push.new.self.items ≡ root_entry ∷ [] = ap (map (entry_tree names)) made ∙ ap (λ t. t ∷ []) (c.root_entry.ensures names) in
    sym (ap (λ ts. ts ++ map (class_entry u) u.interfaces) one)

pub returns : goal.returns
returns c = grind (arith, common_steps)
