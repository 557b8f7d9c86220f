use Rattle.std.proofs.Common.{◌≡◌, ◌+◌, length, drop, sym, ap, ◌∙◌, arith}
use Rattle.std.proofs.lemmas.Grind.{common_steps}
use Rattle.arc_ast.specs.Tree.{method_trees, implementation_trees}
use Rattle.arc_class.specs.Classes.{numbers_after}
use Rattle.arc_class.proofs.ListSuffixes.{drop_turn}
use Rattle.arc_class.proofs.RuntimeMethods.{numbers_grow}
use Rattle.arc_ast.proofs.Trees.{length-method_trees}
use Rattle.arc_class.proofs.kept.numbers_after.Goals as goal

pub loop-implementation-preserved : goal.loop-implementation-preserved
loop-implementation-preserved c =
    let xs = c.args.implementations.now in
    let k = c.loop-implementation.implementation-index in
    let x = c.implementation-item.result in
    let many : length (method_trees x.methods.items) ≡ length c.deref-methods.result.now = length-method_trees x.methods.items ∙ ap length (sym c.deref-methods.ensures.value) in
    c.loop-implementation.invariant ∙ ap (λ us. numbers_after c.loop-implementation.count (implementation_trees us)) (drop_turn xs k x c.loop-implementation-test.true c.implementation-item.is)
    ∙ ap (λ n. numbers_after (c.loop-implementation.count + n) (implementation_trees (drop (k + 1) xs))) many

pub returns-then-methods-count-clause-too_many : goal.returns-then-methods-count-clause-too_many
returns-then-methods-count-clause-too_many c =
    let xs = c.args.implementations.now in
    let k = c.loop-implementation.implementation-index in
    let x = c.implementation-item.result in
    let count = c.loop-implementation.count in
    let many : length (method_trees x.methods.items) ≡ length c.deref-methods.result.now = length-method_trees x.methods.items ∙ ap length (sym c.deref-methods.ensures.value) in
    let rest = implementation_trees (drop (k + 1) xs) in
    let whole : numbers_after c.args.first (implementation_trees xs) ≡ numbers_after (count + length c.deref-methods.result.now) rest =
    c.loop-implementation.invariant ∙ ap (λ us. numbers_after count (implementation_trees us)) (drop_turn xs k x c.loop-implementation-test.true c.implementation-item.is) ∙ ap (λ n. numbers_after (count + n) rest) many in
    omega (arith, whole, numbers_grow (count + length c.deref-methods.result.now) rest)

pub returns-clause-counted : goal.returns-clause-counted
returns-clause-counted c = grind (arith, common_steps)
