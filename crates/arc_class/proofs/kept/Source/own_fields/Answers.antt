use Rattle.std.proofs.Common.{◌≡◌, ◌++◌, Bool, List, [], ◌∷◌, length, nat_eq, true, false, if◌then◌else◌, refl, sym, ap, ◌∙◌, arith}
use Rattle.std.proofs.lemmas.List.{append-nil}
use Rattle.std.proofs.lemmas.Bool.Decides.{nat_tests}
use Rattle.arc_ast.specs.declared.tree.Field.{Field}
use Rattle.arc_ast.specs.Tree.{unit_tree, interface_tree, field_trees}
use Rattle.arc_class.specs.Classes.{class_number, implemented_before}
use Rattle.arc_class.specs.Fields.{is_number, fields_by, fields_added}
use Rattle.arc_class.proofs.kept.Source.own_fields.Goals as goal

abbrev in_order : {X : Type 0} → (added declared : List X) → Bool → List X
in_order added declared b = if b then added ++ declared else declared ++ added

pub returns-then-implemented_before : goal.returns-then-implemented_before
returns-then-implemented_before c =
    let u = unit_tree c.args.self.now.unit.now in
    let i = c.args.interface.now in
    let declared = field_trees i.fields.items in
    let added = fields_added u c.args.class (interface_tree i) in
    let here : implemented_before u.implementations i.name.items i.at ≡ true =
    ap (λ n. implemented_before u.implementations n i.at) (sym c.deref-2.ensures.value) ∙ sym c.implemented_before.ensures ∙ c.if-implemented_before.true in
    ap (λ fs. fs ++ field_trees c.deref-declared.result.now) c.fields_added-added.ensures ∙ ap (λ us. added ++ field_trees us) c.deref-declared.ensures.value ∙ sym (ap (in_order added declared) here)

pub returns-else-implemented_before : goal.returns-else-implemented_before
returns-else-implemented_before c =
    let u = unit_tree c.args.self.now.unit.now in
    let i = c.args.interface.now in
    let declared = field_trees i.fields.items in
    let added = fields_added u c.args.class (interface_tree i) in
    let here : implemented_before u.implementations i.name.items i.at ≡ false =
    ap (λ n. implemented_before u.implementations n i.at) (sym c.deref-2.ensures.value) ∙ sym c.implemented_before.ensures ∙ c.if-implemented_before.false in
    ap (λ fs. field_trees c.deref-declared.result.now ++ fs) c.fields_added-added.ensures ∙ ap (λ us. field_trees us ++ added) c.deref-declared.ensures.value ∙ sym (ap (in_order added declared) here)

no_fields : (fields : List Field) → true ≡ nat_eq (length fields) 0 → field_trees fields ≡ []
no_fields [] e = refl
no_fields (f ∷ fields) e = grind (arith, nat_tests)

none_if : {X : Type 0} (all : List X) (b : Bool) → all ≡ [] → (if b then all else []) ≡ []
none_if all true e = e
none_if all false e = refl

none_added : {X : Type 0} (added declared : List X) (b : Bool) → added ≡ [] → declared ++ [] ≡ in_order added declared b
none_added added declared true e = append-nil declared ∙ sym (ap (λ us. us ++ declared) e)
none_added added declared false e = ap (λ us. declared ++ us) (sym e)

pub returns-then-is_empty : goal.returns-then-is_empty
returns-then-is_empty c =
    let u = unit_tree c.args.self.now.unit.now in
    let i = c.args.interface.now in
    let none : fields_by u.implementations i.name.items ≡ [] =
    ap (fields_by u.implementations) (sym c.deref.ensures.value) ∙ sym c.fields_by.ensures ∙ no_fields c.fields_by.result.now c.if-is_empty.ensures in
    let added = none_if (fields_by u.implementations i.name.items) (is_number c.args.class (class_number u.interfaces i.name.items)) none in
    ap (λ us. field_trees us ++ []) c.deref-declared.ensures.value
    ∙ none_added (fields_added u c.args.class (interface_tree i)) (field_trees i.fields.items) (implemented_before u.implementations i.name.items i.at) added
