use Rattle.std.proofs.Common.{refl}
use Rattle.arc_ast.specs.Tree.{type_tree}
use Rattle.arc_class.proofs.ClassesOfTypes.{class_same}
use Rattle.arc_class.proofs.fields.field_after.Goals as goal

pub returns-clause-field : goal.returns-clause-field
returns-clause-field c = λ interfaces same.
    rw (c.next.ensures, c.field_sort-qual.ensures, c.kind.ensures, c.type_class.ensures, class_same c.args.names.now interfaces same (type_tree c.args.field.now.type_name)) refl
