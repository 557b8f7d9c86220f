use Rattle.std.proofs.Common.{◌∷◌, [], ◌+◌, drop, ap, ◌∙◌, arith}
use Rattle.std.proofs.lemmas.Grind.{common_steps}
use Rattle.arc_ast.specs.Tree.{head_tree, head_trees}
use Rattle.arc_class.specs.Classes.{first_head}
use Rattle.arc_class.specs.KeptNames.{head_in}
use Rattle.arc_class.proofs.FirstDeclaration.{kept_turn, first_head-append}
use Rattle.arc_class.proofs.ListSuffixes.{drop_turn}
use Rattle.arc_class.proofs.heads.Heads.keep_heads.Goals as goal
use Rattle.std.specs.Option.{option_or}

pub loop-head-preserved : goal.loop-head-preserved
loop-head-preserved c sign sought =
    let xs = c.args.heads.now in
    let i = c.loop-head.head-index in
    let x = c.head-item.result in
    let old = head_in c.loop-head.self sign sought in
    kept_turn old (first_head sign sought (head_tree x ∷ [])) _ _ _ (c.in_ok-keep.ensures sign sought)
    (c.loop-head.invariant sign sought ∙ ap (option_or old) (ap (λ us. first_head sign sought (head_trees us)) (drop_turn xs i x c.loop-head-test.true c.head-item.is)
    ∙ first_head-append sign sought (head_tree x ∷ []) (head_trees (drop (i + 1) xs))))

pub returns : goal.returns
returns c = grind (arith, common_steps)
