use Rattle.std.proofs.Common.{List, ap, subst, ◌∙◌}
use Rattle.arc_ast.specs.declared.tree.Sign.TheVariants as signs
use Rattle.arc_class.specs.declared.table.Entry.{Entry}
use Rattle.arc_class.specs.Lookups.{superclass_among}
use Rattle.arc_class.specs.Owners.{FindsMethods}
use Rattle.arc_class.proofs.OwnerLookup.{root_is_top}
use Rattle.arc_class.proofs.building.parts_and_owners.Goals as goal

pub method_owners-requires : goal.method_owners-requires
method_owners-requires c = ap (λ es. superclass_among es 0) c.deref.ensures.value ∙ root_is_top c.args.source.now.names c.in_ok-parts.parts.entries.items _ c.in_ok-parts.ensures.parts.entries

pub method_owners-requires-2 : goal.method_owners-requires-2
method_owners-requires-2 c = ap (λ es. superclass_among es 0) c.deref-2.ensures.value ∙ root_is_top c.args.source.now.names c.in_ok-parts.parts.entries.items _ c.in_ok-parts.ensures.parts.entries

pub returns-clause-class_methods : goal.returns-clause-class_methods
returns-clause-class_methods c =
    let Class : List Entry → Type 0 = λ es. FindsMethods es signs.Class c.in_ok-class_methods.class_methods in
    subst Class c.deref.ensures.value c.in_ok-class_methods.ensures.finds

pub returns-clause-instance_methods : goal.returns-clause-instance_methods
returns-clause-instance_methods c =
    let Instance : List Entry → Type 0 = λ es. FindsMethods es signs.Instance c.in_ok-instance_methods.instance_methods in
    subst Instance c.deref-2.ensures.value c.in_ok-instance_methods.ensures.finds
