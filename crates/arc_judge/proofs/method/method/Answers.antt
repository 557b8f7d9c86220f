use Rattle.std.proofs.Common.{option_map}
use Rattle.arc_class.specs.Table.{number_of_class}
use Rattle.arc_judge.specs.Fault.{reported}
use Rattle.arc_scope.specs.Views.{known_in, seen}
use Rattle.arc_judge.proofs.MethodViolations.{method_is}
use Rattle.arc_judge.proofs.method.method.Goals as goal

pub returns : goal.returns
returns c =
    let table = c.args.table.now in
    method_is (known_in table) (option_map number_of_class c.args.class) c.args.method.now (seen table c.in_method-visible.result) c.deref.result.now c.deref-2.result.now (option_map reported c.head.result) (option_map reported c.in_ok-inside.inside) (option_map reported c.earlier.result)
    c.head.ensures (c.in_method-visible.ensures table) c.deref.ensures.value c.deref-2.ensures.value c.in_ok-inside.ensures c.earlier.ensures
