-- How what the code keeps of names is seen as the scopes of the definitions.
use Rattle.std.specs.Prelude.{ℕ, List, [], ◌∷◌, Option, Some, None, is_some, option_map, if◌then◌else◌}
use Rattle.std.specs.Str.{bytes_eq}
use Rattle.std.specs.Borrow.{Bor}
use Rattle.arc_ast.specs.declared.tree.Kind.{Kind}
use Rattle.arc_ast.specs.declared.tree.Parameter.{Parameter}
use Rattle.arc_ast.specs.declared.tree.Sign.TheVariants as signs
use Rattle.arc_ast.specs.Tree.{parameter_trees}
use Rattle.std.specs.Option.{option_or}
use Rattle.arc_class.specs.FunctionNames.{parameter_kinds}
use Rattle.arc_class.specs.declared.table.ClassTable.{ClassTable}
use Rattle.arc_class.specs.Table.{function_in, global_in, parameters_in, passed_in, class_in, superclass_in, function_class_in, result_in_table, any_result_in, field_in_table, selector_in, number_of_class}
use Rattle.arc_spec.specs.Classes.{classes_of, descends, same_sign}
use Rattle.arc_scope.specs.declared.scope.Bound.{Bound}
use Rattle.arc_scope.specs.declared.scope.Local as declared
use Rattle.arc_scope.specs.declared.scope.Local.TheVariants as l
use Rattle.arc_scope.specs.declared.scope.Visible.{Visible}
use Rattle.arc_scope.specs.Scopes.{Known, Local, Number, Object, Scope, class_given, kind_given, of_global, own_field, sent_result, super_result}

-- the kinds of the parameters that are there
abbrev pub kinds_wanted : Option (Bor (List Parameter)) → Option (List Kind)
kinds_wanted = option_map (λ all. parameter_kinds (parameter_trees all.now))

-- a variable, by the number of its class
abbrev pub local_of : declared.Local → Local
local_of (l.Number kind n) = Number kind n
local_of (l.Object n class) = Object n (option_map number_of_class class)

-- the last that there is of two
abbrev pub later : Option Local → Option Local → Option Local
later a None = a
later a (Some b) = Some b

abbrev pub local_at : Bound → List ℕ → Option Local
local_at b name = if bytes_eq b.name.now name then Some (local_of b.local) else None

-- the last variable with a name
abbrev pub local_in : List Bound → List ℕ → Option Local
local_in [] name = None
local_in (b ∷ others) name = later (local_at b name) (local_in others name)

-- what a message gives, where a method is known for it: the kind, and the static class
abbrev pub sent_kind : Known → (class static : Option ℕ) → List ℕ → Option Kind
sent_kind known class static selector = kind_given (sent_result known class static selector)

abbrev pub sent_class : Known → (class static : Option ℕ) → List ℕ → Option ℕ
sent_class known class static selector = class_given (option_or class static) (sent_result known class static selector)

-- the same of a message to `super`, which goes to `self`
abbrev pub super_kind : Scope → List ℕ → Option Kind
super_kind s selector = kind_given (super_result s selector)

abbrev pub super_class : Scope → List ℕ → Option ℕ
super_class s selector = class_given s.class (super_result s selector)

-- the class whose method this is, in a class method: there it is `self`
abbrev pub class_itself : Scope → Option ℕ
class_itself s = if same_sign s.sign signs.Class then s.class else None

-- the variable of the whole program that a name means which no field of `self` has
abbrev pub global_variable : Scope → List ℕ → Option Local
global_variable s name = if is_some (own_field s name) then None else option_map of_global (s.known.global name)

-- what a table knows of a source's names
abbrev pub known_in : ClassTable → Known
known_in table = record {
  function = function_in table;
  global = global_in table;
  parameters = parameters_in table;
  passed = passed_in table;
  class = class_in table;
  superclass = superclass_in table;
  descends = descends (classes_of table.classes.items);
  function_class = λ name. option_map number_of_class (function_class_in table name);
  result = result_in_table table;
  result_of_any = any_result_in table;
  selector = selector_in table;
  field = field_in_table table;
}

-- what names mean where these variables are visible
abbrev pub seen : ClassTable → Visible → Scope
seen table visible = record {
  known = known_in table;
  class = option_map number_of_class visible.class;
  sign = visible.sign;
  result = visible.result;
  owns = visible.owns;
  hidden = visible.hidden;
  variables = local_in visible.bound.items;
  next = visible.next;
  names = visible.names;
}
