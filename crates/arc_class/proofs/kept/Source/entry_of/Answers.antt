use Rattle.std.proofs.Common.{◌≡◌, ℕ, List, ap, ◌∙◌}
use Rattle.arc_ast.specs.Tree.{unit_tree, interface_tree}
use Rattle.arc_class.specs.Classes.{class_number}
use Rattle.arc_class.specs.Table.{class_number_in}
use Rattle.arc_class.proofs.TablePartsGrow.{entry_is}
use Rattle.arc_class.proofs.ClassViolations.{class_number_kept}
use Rattle.arc_class.proofs.kept.Source.entry_of.Goals as goal

pub returns : goal.returns
returns c =
    let u = unit_tree c.args.self.now.unit.now in
    let source = c.args.self.now in
    let x = c.args.interface.now in
    let same : (sought : List ℕ) → class_number_in source.names sought ≡ class_number u.interfaces sought = λ sought. class_number_kept source.names u.interfaces sought (c.requires.class_places sought) in
    entry_is u (interface_tree x) source.names c.class_number-superclass.result c.in_ok-methods.methods
    (c.class_number-superclass.ensures ∙ ap (class_number_in source.names) c.deref.ensures.value ∙ same x.superclass.items)
    same c.in_ok-methods.ensures
