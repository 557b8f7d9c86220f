use Rattle.std.proofs.Common.{◌≡◌, ℕ, ◌+◌, ap, ◌∙◌, sym, drop, length}
use Rattle.arc_ast.specs.Tree.{ImplementationTree, method_trees, implementation_tree, implementation_trees}
use Rattle.arc_class.specs.KeptNames.{one_at, implemented_in, implemented_tree}
use Rattle.std.specs.Option.{option_or}
use Rattle.arc_class.specs.RuntimeClasses.{implemented}
use Rattle.arc_class.specs.Table.{at_name}
use Rattle.arc_class.proofs.FirstDeclaration.{kept_turn, kept_map, or_one}
use Rattle.arc_class.proofs.ListSuffixes.{drop_turn}
use Rattle.arc_ast.proofs.Trees.{length-method_trees}
use Rattle.arc_class.proofs.kept.first_implementations.Goals as goal

pub loop-implementation-preserved : goal.loop-implementation-preserved
loop-implementation-preserved c sought =
    let xs = c.args.implementations.now in
    let i = c.loop-implementation.implementation-index in
    let x = c.implementation-item.result in
    let first = c.loop-implementation.first in
    let old = implemented_in c.loop-implementation.map sought in
    let rest = implementation_trees (drop (i + 1) xs) in
    let tree : ℕ × ImplementationTree = (first, implementation_tree x) in
    let kept : implemented_in c.keep_first.new.map sought ≡ option_or old (one_at x.name.items tree sought) =
    kept_map implemented_tree (at_name c.loop-implementation.map sought) _ c.deref.result.now _ sought (c.in_ok-keep_first.ensures sought)
    ∙ ap (λ n. option_or old (one_at n tree sought)) c.deref.ensures.value in
    let many : length (method_trees x.methods.items) ≡ length c.deref-methods.result.now = length-method_trees x.methods.items ∙ ap length (sym c.deref-methods.ensures.value) in
    kept_turn old (one_at x.name.items tree sought) _ _ _ kept
    (c.loop-implementation.invariant sought ∙ ap (option_or old) (ap (λ us. implemented first (implementation_trees us) sought) (drop_turn xs i x c.loop-implementation-test.true c.implementation-item.is)
    ∙ or_one x.name.items tree (implemented (first + length (method_trees x.methods.items)) rest sought) sought ∙ ap (λ n. option_or (one_at x.name.items tree sought) (implemented (first + n) rest sought)) many))
