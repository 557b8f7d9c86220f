use Rattle.std.proofs.Common.{ap, ◌∙◌}
use Rattle.arc_ast.specs.Tree.{unit_tree}
use Rattle.arc_class.specs.Fields.{if_before}
use Rattle.arc_class.specs.Table.{class_number_in}
use Rattle.arc_class.proofs.ClassViolations.{class_number_kept}
use Rattle.arc_class.proofs.kept.Source.superclass_before.Goals as goal

pub returns : goal.returns
returns c =
    let u = unit_tree c.args.self.now.unit.now in
    let names = c.args.self.now.names in
    let superclass = c.args.interface.now.superclass.items in
    c.if_before.ensures ∙ ap (if_before c.args.class) (c.class_number.ensures ∙ ap (class_number_in names) c.deref.ensures.value ∙ class_number_kept names u.interfaces superclass (c.requires.class_places superclass))
