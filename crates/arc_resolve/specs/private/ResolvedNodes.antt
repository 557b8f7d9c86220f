-- What the functions that resolve nodes of a source give: expressions, arguments, statements, functions and methods.
use Rattle.std.specs.Prelude.{◌≡◌, ℕ, ℤ, not, List, [], ◌∷◌, map, Option, Some, None, option_map}
use Rattle.std.specs.List.{filter}
use Rattle.arc_ast.specs.Tree.{ExprTree, ExprTrees, GlobalTree, ImplementationTree, Text}
use Rattle.arc_class.specs.Table.{number_of_class}
use Rattle.arc_spec.specs.Resolved as spec
use Rattle.arc_spec.specs.Resolved.{Arguments, Commands, and_command}
use Rattle.arc_checked.specs.declared.program.Argument as checked_argument
use Rattle.arc_checked.specs.declared.program.Command as checked_command
use Rattle.arc_checked.specs.declared.program.CheckedFunction.{CheckedFunction}
use Rattle.arc_resolve.specs.declared.resolution.Resolution as built
use Rattle.arc_resolve.specs.declared.resolution.Resolution.TheVariants as b
use Rattle.arc_resolve.specs.declared.resolution.Part.{Part}
use Rattle.arc_resolve.specs.declared.resolution.Part.TheVariants as p
use Rattle.arc_resolve.specs.declared.resolution.ClassReceiver.{ClassReceiver}
use Rattle.arc_resolve.specs.declared.resolution.Typed.{Typed}
use Rattle.arc_checked.specs.Checked as checked
use Rattle.arc_resolve.specs.SourceResolution as resolving
use Rattle.arc_resolve.specs.SourceResolution.{Resolution, Gives, Refers, resolved, resolved_all}
use Rattle.arc_scope.specs.declared.format.Begun.TheVariants.{Nothing}
use Rattle.arc_scope.specs.Formats.{parts, printed}
use Rattle.arc_scope.specs.Scopes.{Known, Scope, class_of}

-- what an expression is resolved to
abbrev pub resolution : built.Resolution → Resolution
resolution (b.Gives kind a) = Gives kind (checked.value a)
resolution (b.Refers a) = Refers (checked.reference a)

-- what an expression is resolved to that is a part of another one
abbrev pub part_of : Part → Resolution
part_of (p.Number kind a) = Gives kind (checked.value a.value)
part_of (p.Object a) = Refers (checked.reference a.value)

-- the resolved expression, and its static class
pub record Resolves (s : Scope) (a : ExprTree) (typed : Typed) : Type 0 where
  pub class : option_map number_of_class typed.class ≡ class_of s a
  pub value : resolution typed.value ≡ resolved s a

-- the function that a checked one stands for
abbrev pub function_of : CheckedFunction → spec.Function
function_of f = record { slots = f.slots; names = f.names; parameters = f.parameters; gives = f.gives; owns = f.owns; body = checked.commands f.body.items }

-- functions in front of others
abbrev pub functions_ahead : List CheckedFunction → List spec.Function → List spec.Function
functions_ahead [] others = others
functions_ahead (a ∷ all) others = function_of a ∷ functions_ahead all others

-- what gets a message that is sent to a class
abbrev pub class_receiver_of : ClassReceiver → spec.Receiver
class_receiver_of to = receiver_from to.from (checked.value to.class)
  where
    receiver_from : Option ℕ → spec.Value → spec.Receiver
    receiver_from None class = spec.ClassValue class
    receiver_from (Some from) class = spec.ClassSuper from

-- a call of printf with these arguments
abbrev pub printing : Scope → ExprTrees → spec.Value
printing s arguments = spec.Print (printed (parts Nothing (resolving.format arguments))) (resolving.but_first (resolved_all s None arguments))

-- the bytes of a text
abbrev pub text_of : ExprTree → List ℕ
text_of (Text at bytes) = bytes
text_of _ = []

-- the methods of an implementation
abbrev pub resolved_methods : Known → ImplementationTree → List spec.Function
resolved_methods known i = map (resolving.resolved_method known (known.class i.name)) i.methods

-- what those of these variables hold first that hold numbers
abbrev pub first_numbers : List GlobalTree → List ℤ
first_numbers globals = map resolving.first_number (filter (λ g. not (resolving.names_objects g)) globals)

-- arguments in front of others
abbrev pub in_front : List checked_argument.Argument → Arguments → Arguments
in_front [] others = others
in_front (a ∷ all) others = checked.and_argument a (in_front all others)

-- commands in front of others
abbrev pub ahead_of : List checked_command.Command → Commands → Commands
ahead_of [] others = others
ahead_of (a ∷ all) others = and_command (checked.command a) (ahead_of all others)
