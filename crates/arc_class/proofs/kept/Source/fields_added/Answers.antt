use Rattle.std.proofs.Common.{◌≡◌, Bool, List, [], true, false, if◌then◌else◌, sym, ap, ◌∙◌}
use Rattle.arc_ast.specs.Tree.{unit_tree}
use Rattle.arc_class.specs.Classes.{class_number}
use Rattle.arc_class.specs.Fields.{is_number, fields_by}
use Rattle.arc_class.specs.Table.{class_number_in}
use Rattle.arc_class.proofs.ClassViolations.{class_number_kept}
use Rattle.arc_class.proofs.kept.Source.fields_added.Goals as goal

abbrev fields_if : {X : Type 0} → List X → Bool → List X
fields_if all b = if b then all else []

pub returns-then-is_number : goal.returns-then-is_number
returns-then-is_number c =
    let u = unit_tree c.args.self.now.unit.now in
    let source = c.args.self.now in
    let i = c.args.interface.now in
    let number : c.class_number.result ≡ class_number u.interfaces i.name.items = c.class_number.ensures ∙ ap (class_number_in source.names) c.deref.ensures.value ∙ class_number_kept source.names u.interfaces i.name.items (c.requires.class_places i.name.items) in
    let here : is_number c.args.class (class_number u.interfaces i.name.items) ≡ true = ap (is_number c.args.class) (sym number) ∙ sym c.is_number.ensures ∙ c.if-is_number.true in
    c.fields_by.ensures ∙ ap (fields_by u.implementations) c.deref-then-is_number.ensures.value ∙ sym (ap (fields_if (fields_by u.implementations i.name.items)) here)

pub returns-else-is_number : goal.returns-else-is_number
returns-else-is_number c =
    let u = unit_tree c.args.self.now.unit.now in
    let source = c.args.self.now in
    let i = c.args.interface.now in
    let number : c.class_number.result ≡ class_number u.interfaces i.name.items = c.class_number.ensures ∙ ap (class_number_in source.names) c.deref.ensures.value ∙ class_number_kept source.names u.interfaces i.name.items (c.requires.class_places i.name.items) in
    let here : is_number c.args.class (class_number u.interfaces i.name.items) ≡ false = ap (is_number c.args.class) (sym number) ∙ sym c.is_number.ensures ∙ c.if-is_number.false in
    sym (ap (fields_if (fields_by u.implementations i.name.items)) here)
