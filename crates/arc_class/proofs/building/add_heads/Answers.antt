use Rattle.std.proofs.Common.{◌≡◌, ◌+◌, drop, sym, ap, ◌∙◌, arith}
use Rattle.std.proofs.lemmas.Grind.{common_steps}
use Rattle.arc_ast.specs.Tree.{head_trees}
use Rattle.arc_class.specs.Classes.{and_name, with_selectors}
use Rattle.arc_class.specs.Table.{names_of}
use Rattle.arc_class.proofs.ListSuffixes.{drop_turn}
use Rattle.arc_class.proofs.NameEquality.{names_with_key}
use Rattle.arc_class.proofs.building.add_heads.Goals as goal

pub loop-head-preserved : goal.loop-head-preserved
loop-head-preserved c =
    let xs = c.args.heads.now in
    let k = c.loop-head.head-index in
    let x = c.head-item.result in
    let old = c.loop-head.names.keys in
    let more : names_of c.insert.new.self.keys ≡ and_name (names_of old) x.selector.items =
    ap names_of c.in_ok-insert.ensures.keys ∙ names_with_key old c.deref.result ∙ ap (and_name (names_of old)) c.deref.ensures.value in
    c.loop-head.invariant ∙ ap (λ us. with_selectors (names_of old) (head_trees us)) (drop_turn xs k x c.loop-head-test.true c.head-item.is)
    ∙ ap (λ ns. with_selectors ns (head_trees (drop (k + 1) xs))) (sym more)

pub returns : goal.returns
returns c = grind (arith, common_steps)
