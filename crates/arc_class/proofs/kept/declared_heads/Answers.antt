use Rattle.std.proofs.Common.{◌+◌, ap, ◌∙◌, drop, sym, option_map, arith}
use Rattle.std.proofs.lemmas.Grind.{common_steps}
use Rattle.arc_ast.specs.Tree.{head_tree, head_trees, interface_trees}
use Rattle.arc_class.specs.Classes.{first_head, declared}
use Rattle.arc_class.specs.KeptNames.{head_in}
use Rattle.arc_class.proofs.FirstDeclaration.{kept_turn, first_head-append}
use Rattle.arc_class.proofs.ListSuffixes.{drop_turn}
use Rattle.arc_class.proofs.kept.declared_heads.Goals as goal
use Rattle.std.specs.Option.{option_or}

pub loop-interface-init : goal.loop-interface-init
loop-interface-init c sign sought =
    sym (ap (λ o. option_or (option_map (λ h. head_tree h.now) o) (first_head sign sought (declared (interface_trees c.args.interfaces.now)))) (c.in_ok-map.ensures sign sought))

pub loop-interface-preserved : goal.loop-interface-preserved
loop-interface-preserved c sign sought =
    let xs = c.args.interfaces.now in
    let i = c.loop-interface.interface-index in
    let x = c.interface-item.result in
    let old = head_in c.loop-interface.map sign sought in
    kept_turn old (first_head sign sought (head_trees x.methods.items)) _ _ _ (c.in_ok-keep_heads.ensures sign sought ∙ ap (λ us. option_or old (first_head sign sought (head_trees us))) c.deref.ensures.value)
    (c.loop-interface.invariant sign sought ∙ ap (option_or old) (ap (λ us. first_head sign sought (declared (interface_trees us))) (drop_turn xs i x c.loop-interface-test.true c.interface-item.is)
    ∙ first_head-append sign sought (head_trees x.methods.items) (declared (interface_trees (drop (i + 1) xs)))))

pub returns : goal.returns
returns c = grind (arith, common_steps)
