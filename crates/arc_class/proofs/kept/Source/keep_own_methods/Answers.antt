use Rattle.std.proofs.Common.{◌≡◌, Bool, true, false, List, ◌++◌, if◌then◌else◌, sym, ap, ◌∙◌}
use Rattle.std.proofs.lemmas.Result.{on_ok_weaker}
use Rattle.arc_ast.specs.Tree.{HeadTree, unit_tree, head_trees}
use Rattle.arc_class.specs.Classes.{heads, first_head, defined_by, implemented_before}
use Rattle.arc_class.specs.KeptNames.{head_in}
use Rattle.arc_class.proofs.FirstDeclaration.{both_kept}
use Rattle.arc_class.proofs.kept.Source.keep_own_methods.Goals as goal
use Rattle.std.specs.Option.{option_or}

abbrev in_order : (declared defined : List HeadTree) → Bool → List HeadTree
in_order declared defined before = if before then defined ++ declared else declared ++ defined

pub returns-then-implemented_before : goal.returns-then-implemented_before
returns-then-implemented_before c =
    let u = unit_tree c.args.self.now.unit.now in
    let i = c.args.interface.now in
    let declared = head_trees i.methods.items in
    let own = heads (defined_by u.implementations i.name.items) in
    let here : implemented_before u.implementations i.name.items i.at ≡ true =
    ap (λ n. implemented_before u.implementations n i.at) (sym c.deref-2.ensures.value) ∙ sym c.implemented_before.ensures ∙ c.if-implemented_before.true in
    on_ok_weaker c.keep_heads.result (λ kept sign sought. both_kept sign sought own declared _ _ _ (c.requires.none sign sought)
    (c.in_ok-keep_methods.ensures sign sought ∙ ap (λ hs. option_or (head_in c.args.map.now sign sought) (first_head sign sought hs)) (ap heads (c.defined_methods-defined.ensures ∙ ap (defined_by u.implementations) c.deref.ensures.value)))
    (kept sign sought ∙ ap (λ us. option_or (head_in c.keep_methods.new.self sign sought) (first_head sign sought (head_trees us))) c.deref-then-implemented_before.ensures.value)
    ∙ sym (ap (λ b. first_head sign sought (in_order declared own b)) here)) c.keep_heads.ensures

pub returns : goal.returns
returns c =
    let u = unit_tree c.args.self.now.unit.now in
    let i = c.args.interface.now in
    let declared = head_trees i.methods.items in
    let own = heads (defined_by u.implementations i.name.items) in
    let here : implemented_before u.implementations i.name.items i.at ≡ false =
    ap (λ n. implemented_before u.implementations n i.at) (sym c.deref-2.ensures.value) ∙ sym c.implemented_before.ensures ∙ c.if-implemented_before.false in
    on_ok_weaker c.keep_methods-2.result (λ kept sign sought. both_kept sign sought declared own _ _ _ (c.requires.none sign sought)
    (c.in_ok-keep_heads.ensures sign sought ∙ ap (λ us. option_or (head_in c.args.map.now sign sought) (first_head sign sought (head_trees us))) c.deref-3.ensures.value)
    (kept sign sought ∙ ap (λ hs. option_or (head_in c.keep_heads-2.new.self sign sought) (first_head sign sought hs)) (ap heads (c.defined_methods-defined.ensures ∙ ap (defined_by u.implementations) c.deref.ensures.value)))
    ∙ sym (ap (λ b. first_head sign sought (in_order declared own b)) here)) c.keep_methods-2.ensures
