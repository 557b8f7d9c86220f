-- What is known of the names of a source.
use Rattle.std.specs.Prelude.{option_map}
use Rattle.arc_ast.specs.Tree.{UnitTree}
use Rattle.arc_class.specs.Classes.{kinds_passed, class_number, class_of_result, superclass, known_result, any_result, selector_number}
use Rattle.arc_class.specs.Table.{number_of_class}
use Rattle.arc_class.specs.Fields.{known_field}
use Rattle.arc_class.specs.RuntimeClasses.{classes}
use Rattle.arc_class.specs.Globals.{known_global}
use Rattle.arc_class.specs.FunctionNames.{kinds_of_parameters, known}
use Rattle.arc_spec.specs.Classes.{descends}
use Rattle.arc_scope.specs.Scopes.{Known}

abbrev pub known_of : UnitTree → Known
known_of u = record {
  function = known u.functions;
  global = known_global u.interfaces u.globals;
  parameters = kinds_of_parameters u.functions;
  passed = kinds_passed u;
  class = class_number u.interfaces;
  superclass = superclass u.interfaces;
  descends = descends (classes u);
  function_class = λ name. option_map number_of_class (class_of_result u name);
  result = known_result u;
  result_of_any = any_result u;
  selector = selector_number u;
  field = known_field u;
}
