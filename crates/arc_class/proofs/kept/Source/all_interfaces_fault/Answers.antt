use Rattle.std.proofs.Common.{◌≡◌, ◌<◌, ◌+◌, suc, length, get_or, take, option_map, subst, ap, ◌∙◌, arith}
use Rattle.std.proofs.lemmas.Grind.{common_steps}
use Rattle.arc_ast.specs.Tree.{unit_tree, interface_tree, interface_trees}
use Rattle.arc_class.specs.private.Scopes.{and_name, holds}
use Rattle.arc_class.specs.BrokenRules.{first}
use Rattle.arc_class.specs.ClassRules.{broken_names, broken_members, broken_interface}
use Rattle.arc_class.specs.Fault.{reported}
use Rattle.arc_class.proofs.FirstBrokenRule.{first_both}
use Rattle.arc_class.proofs.ClassViolations.{interfaces_turn, interfaces_held, interfaces_before, interfaces_count}
use Rattle.arc_class.proofs.ScopeNames.{holds-more}
use Rattle.arc_class.proofs.kept.Source.all_interfaces_fault.Goals as goal

pub members_fault-requires-clause-there : goal.members_fault-requires-clause-there
members_fault-requires-clause-there c =
    let xs = c.args.self.now.unit.now.interfaces.items in
    let k = c.loop-interface.interface-index in
    let within : k < length xs = subst (λ us. k < length us) c.deref-interface-items.ensures.value c.loop-interface-test.true in
    omega (arith, within, interfaces_count xs, c.loop-interface.invariant.counted)

pub loop-interface-preserved : goal.loop-interface-preserved
loop-interface-preserved c =
    let u = unit_tree c.args.self.now.unit.now in
    let xs = c.args.self.now.unit.now.interfaces.items in
    let k = c.loop-interface.interface-index in
    let x = c.interface-item.result in
    let i = interface_tree x in
    let before = interface_trees (take k xs) in
    let within : k < length xs = subst (λ us. k < length us) c.deref-interface-items.ensures.value c.loop-interface-test.true in
    let same : x ≡ get_or xs k x = c.interface-item.is ∙ ap (λ us. get_or us k x) c.deref-interface-items.ensures.value in
    let old = holds c.loop-interface.before in
    let more : holds c.insert.new.self ≡ and_name x.name.items old =
    holds-more c.deref.result.now c.loop-interface.before c.insert.new.self c.in_ok-insert.ensures.updates ∙ ap (λ n. and_name n old) c.deref.ensures.value in
    let number : c.loop-interface.class + 1 ≡ suc (length before) = omega (arith, c.loop-interface.invariant.counted, interfaces_before xs k within) in
    let one : option_map reported c.earlier-own.result ≡ first (broken_interface u before i) =
    first_both (broken_names u before i) (broken_members u (suc (length before)) i) _ _ _
    (c.names_fault.ensures before c.loop-interface.invariant.held) (c.in_ok-members.ensures ∙ ap (λ n. first (broken_members u n i)) number) c.earlier-own.ensures in
    record {
      fault = interfaces_turn u xs k x _ _ _ _ within same one c.earlier-fault.ensures c.loop-interface.invariant.fault;
      held = interfaces_held xs k x old (holds c.insert.new.self) within same more c.loop-interface.invariant.held;
      counted = omega (arith, c.loop-interface.invariant.counted);
    }

pub returns : goal.returns
returns c = grind (arith, common_steps)
