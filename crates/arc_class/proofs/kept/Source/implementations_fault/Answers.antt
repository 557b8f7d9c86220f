use Rattle.std.proofs.Common.{◌≡◌, ◌<◌, length, get_or, take, subst, ap, ◌∙◌, arith}
use Rattle.std.proofs.lemmas.Grind.{common_steps}
use Rattle.arc_ast.specs.Tree.{unit_tree, implementation_trees}
use Rattle.arc_class.specs.private.Scopes.{and_name, holds}
use Rattle.arc_class.proofs.ClassViolations.{implementations_turn, implementations_held}
use Rattle.arc_class.proofs.ScopeNames.{holds-more}
use Rattle.arc_class.proofs.kept.Source.implementations_fault.Goals as goal

pub loop-implementation-preserved : goal.loop-implementation-preserved
loop-implementation-preserved c =
    let u = unit_tree c.args.self.now.unit.now in
    let xs = c.args.self.now.unit.now.implementations.items in
    let k = c.loop-implementation.implementation-index in
    let x = c.implementation-item.result in
    let before = implementation_trees (take k xs) in
    let within : k < length xs = subst (λ us. k < length us) c.deref-implementation-items.ensures.value c.loop-implementation-test.true in
    let same : x ≡ get_or xs k x = c.implementation-item.is ∙ ap (λ us. get_or us k x) c.deref-implementation-items.ensures.value in
    let old = holds c.loop-implementation.before in
    let more : holds c.insert.new.self ≡ and_name x.name.items old =
    holds-more c.deref.result.now c.loop-implementation.before c.insert.new.self c.in_ok-insert.ensures.updates ∙ ap (λ n. and_name n old) c.deref.ensures.value in
    record {
      fault = implementations_turn u xs k x _ _ _ _ within same (c.in_ok-own.ensures before c.loop-implementation.invariant.held) c.earlier-fault.ensures c.loop-implementation.invariant.fault;
      held = implementations_held xs k x old (holds c.insert.new.self) within same more c.loop-implementation.invariant.held;
    }

pub returns : goal.returns
returns c = grind (arith, common_steps)
