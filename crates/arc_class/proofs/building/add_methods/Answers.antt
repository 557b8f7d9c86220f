use Rattle.std.proofs.Common.{◌≡◌, ◌+◌, drop, sym, ap, ◌∙◌, arith}
use Rattle.std.proofs.lemmas.Grind.{common_steps}
use Rattle.arc_ast.specs.Tree.{method_trees}
use Rattle.arc_class.specs.Classes.{heads, and_name, with_selectors}
use Rattle.arc_class.specs.Table.{names_of}
use Rattle.arc_class.proofs.ListSuffixes.{drop_turn}
use Rattle.arc_class.proofs.NameEquality.{names_with_key}
use Rattle.arc_class.proofs.building.add_methods.Goals as goal

pub loop-method-preserved : goal.loop-method-preserved
loop-method-preserved c =
    let xs = c.args.methods.now in
    let k = c.loop-method.method-index in
    let x = c.method-item.result in
    let old = c.loop-method.names.keys in
    let more : names_of c.insert.new.self.keys ≡ and_name (names_of old) x.head.selector.items =
    ap names_of c.in_ok-insert.ensures.keys ∙ names_with_key old c.deref.result ∙ ap (and_name (names_of old)) c.deref.ensures.value in
    c.loop-method.invariant ∙ ap (λ us. with_selectors (names_of old) (heads (method_trees us))) (drop_turn xs k x c.loop-method-test.true c.method-item.is)
    ∙ ap (λ ns. with_selectors ns (heads (method_trees (drop (k + 1) xs)))) (sym more)

pub returns : goal.returns
returns c = grind (arith, common_steps)
