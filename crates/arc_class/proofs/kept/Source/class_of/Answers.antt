use Rattle.std.proofs.Common.{◌≡◌, [], None, option_map, sym, ap, ◌∙◌}
use Rattle.std.specs.Option.{option_and_then, option_map_or}
use Rattle.arc_ast.specs.Tree.{unit_tree, interface_tree, method_trees}
use Rattle.arc_class.specs.KeptNames.{implemented_tree}
use Rattle.arc_class.specs.RuntimeClasses.{implementation_of, methods_from, dealloc_from}
use Rattle.arc_class.specs.Table.{at_name, class_number_in}
use Rattle.arc_class.proofs.TablePartsGrow.{class_is}
use Rattle.arc_class.proofs.ClassViolations.{class_number_kept}
use Rattle.arc_class.proofs.kept.Source.class_of.Goals as goal

pub returns-in_default-clause-made : goal.returns-in_default-clause-made
returns-in_default-clause-made c =
    let u = unit_tree c.args.self.now.unit.now in
    let source = c.args.self.now in
    let x = c.args.interface.now in
    let i = interface_tree x in
    let superclass = c.class_number-superclass.ensures ∙ ap (class_number_in source.names) c.deref.ensures.value ∙ class_number_kept source.names u.interfaces x.superclass.items (c.requires.knows.class_places x.superclass.items) in
    let own : implementation_of u i ≡ None = sym (c.requires.knows.implementations x.name.items) ∙ ap (option_map implemented_tree) (ap (at_name source.implemented) (sym c.deref-2.ensures.value) ∙ sym c.at_name.ensures ∙ c.in_default.is) in
    class_is u c.args.fields i c.class_number-superclass.result c.new-methods.result.items None superclass (c.new-methods.ensures.items ∙ sym (ap (λ o. option_map_or (λ p. methods_from u p.0 (p.1).methods) o []) own)) (sym (ap (option_and_then (λ p. dealloc_from p.0 (p.1).methods)) own))

pub returns-clause-made : goal.returns-clause-made
returns-clause-made c =
    let u = unit_tree c.args.self.now.unit.now in
    let source = c.args.self.now in
    let x = c.args.interface.now in
    let i = interface_tree x in
    let first = c.in-Some.own.first in
    let superclass = c.class_number-superclass.ensures ∙ ap (class_number_in source.names) c.deref.ensures.value ∙ class_number_kept source.names u.interfaces x.superclass.items (c.requires.knows.class_places x.superclass.items) in
    let own = sym (c.requires.knows.implementations x.name.items) ∙ ap (option_map implemented_tree) (ap (at_name source.implemented) (sym c.deref-2.ensures.value) ∙ sym c.at_name.ensures ∙ c.in-Some.is) in
    class_is u c.args.fields i c.class_number-superclass.result c.in_ok-methods.methods.items c.in_ok-dealloc.dealloc superclass
    (c.in_ok-methods.ensures.made u c.requires.selectors ∙ ap (λ ms. methods_from u first (method_trees ms)) c.deref-all.ensures.value ∙ sym (ap (λ o. option_map_or (λ p. methods_from u p.0 (p.1).methods) o []) own))
    (c.in_ok-dealloc.ensures.found ∙ ap (λ ms. dealloc_from first (method_trees ms)) c.deref-all.ensures.value ∙ sym (ap (option_and_then (λ p. dealloc_from p.0 (p.1).methods)) own))
