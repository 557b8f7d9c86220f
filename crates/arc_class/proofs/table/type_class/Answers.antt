use Rattle.std.proofs.Common.{sym, ap, ◌∙◌, option_map}
use Rattle.arc_ast.specs.Tree.{type_tree}
use Rattle.arc_class.specs.Table.{class_number_in, type_class_in}
use Rattle.arc_class.proofs.ClassesOfTypes.{class_back, with_number}
use Rattle.arc_class.proofs.table.type_class.Goals as goal

pub returns-in-Object : goal.returns-in-Object
returns-in-Object c =
    class_back c.class_id.result ∙ ap (option_map with_number) (c.class_id.ensures ∙ c.class_number.ensures ∙ ap (class_number_in c.args.names.now) c.deref.ensures.value)
    ∙ sym (ap (λ t. type_class_in c.args.names.now (type_tree t)) c.in-Object.is)
