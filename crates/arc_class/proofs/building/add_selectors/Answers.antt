use Rattle.std.proofs.Common.{◌≡◌, fold, ap, ◌∙◌}
use Rattle.std.proofs.lemmas.Result.{on_ok_weaker}
use Rattle.arc_ast.specs.Tree.{interface_trees, implementation_trees}
use Rattle.arc_class.specs.Classes.{and_name, built_in_selectors, selectors_in_order}
use Rattle.arc_class.specs.Table.{names_of}
use Rattle.arc_class.proofs.building.add_selectors.Goals as goal

pub returns : goal.returns
returns c =
    let unit = c.args.unit.now in
    let start : names_of c.add_names.new.names.keys ≡ built_in_selectors = c.in_ok-add_names.ensures ∙ ap (λ ns. fold and_name ns built_in_selectors) c.requires in
    on_ok_weaker c.add_in_order.result (λ e. e ∙ ap (λ ns. selectors_in_order ns (interface_trees c.deref.result.now) (implementation_trees c.deref-2.result.now)) start
    ∙ ap (λ is. selectors_in_order built_in_selectors (interface_trees is) (implementation_trees c.deref-2.result.now)) c.deref.ensures.value
    ∙ ap (λ is. selectors_in_order built_in_selectors (interface_trees unit.interfaces.items) (implementation_trees is)) c.deref-2.ensures.value) c.add_in_order.ensures
