use Rattle.std.proofs.Common.{◌∷◌, [], ◌+◌, drop, ap, ◌∙◌, arith}
use Rattle.std.proofs.lemmas.Grind.{common_steps}
use Rattle.arc_ast.specs.Tree.{head_tree, method_trees}
use Rattle.arc_class.specs.Classes.{heads, first_head}
use Rattle.arc_class.specs.KeptNames.{head_in}
use Rattle.arc_class.proofs.FirstDeclaration.{kept_turn, first_head-append}
use Rattle.arc_class.proofs.ListSuffixes.{drop_turn}
use Rattle.arc_class.proofs.heads.Heads.keep_methods.Goals as goal
use Rattle.std.specs.Option.{option_or}

pub loop-method-preserved : goal.loop-method-preserved
loop-method-preserved c sign sought =
    let xs = c.args.methods.now in
    let i = c.loop-method.method-index in
    let x = c.method-item.result in
    let old = head_in c.loop-method.self sign sought in
    kept_turn old (first_head sign sought (head_tree x.head ∷ [])) _ _ _ (c.in_ok-keep.ensures sign sought)
    (c.loop-method.invariant sign sought ∙ ap (option_or old) (ap (λ us. first_head sign sought (heads (method_trees us))) (drop_turn xs i x c.loop-method-test.true c.method-item.is)
    ∙ first_head-append sign sought (head_tree x.head ∷ []) (heads (method_trees (drop (i + 1) xs)))))

pub returns : goal.returns
returns c = grind (arith, common_steps)
