use Rattle.std.proofs.Common.{◌≡◌, not, is_some, ap, ◌∙◌}
use Rattle.arc_ast.specs.Tree.{unit_tree}
use Rattle.arc_class.specs.BrokenRules.{broken_if, first}
use Rattle.arc_class.specs.Classes.{class_number}
use Rattle.arc_class.specs.Table.{class_number_in}
use Rattle.arc_class.proofs.ClassViolations.{class_number_kept, there_none}
use Rattle.arc_class.proofs.types.type_fault.Goals as goal

pub returns-in-Object : goal.returns-in-Object
returns-in-Object c knows =
    let u = unit_tree c.args.source.now.unit.now in
    let names = c.args.source.now.names in
    let name = c.in-Object.name.items in
    let known : c.is_some-known.result ≡ is_some (class_number u.interfaces name) =
    c.is_some-known.ensures ∙ ap is_some (c.class_number.ensures ∙ ap (class_number_in names) c.deref.ensures.value ∙ class_number_kept names u.interfaces name (knows.class_places name)) in
    rw c.in-Object.is (c.fault_if.ensures ∙ ap (λ b. first (broken_if b c.in-Object.at 22)) (ap not known ∙ there_none (class_number u.interfaces name)))
