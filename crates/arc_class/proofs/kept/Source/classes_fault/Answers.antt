use Rattle.arc_ast.specs.Tree.{unit_tree}
use Rattle.arc_class.specs.ClassRules.{broken_interface, broken_implementation}
use Rattle.arc_class.specs.BrokenRules.{in_order}
use Rattle.arc_class.proofs.FirstBrokenRule.{first_both}
use Rattle.arc_class.proofs.kept.Source.classes_fault.Goals as goal

pub returns : goal.returns
returns c =
    let u = unit_tree c.args.self.now.unit.now in
    first_both (in_order (broken_interface u) _ u.interfaces) (in_order (broken_implementation u) _ u.implementations) _ _ _ c.in_ok-interfaces.ensures c.in_ok-implementations_fault.ensures c.earlier.ensures
