-- Programs whose events are known, with which the definitions are compared.
use Rattle.std.specs.Prelude.{◌≡◌, ℕ, true, false, pos, negsuc, List, [], ◌∷◌, ◌++◌, map, codes, Option, Some, None}
use Rattle.arc_ast.specs.declared.tree.Sign.{Sign}
use Rattle.arc_ast.specs.declared.tree.Sign.TheVariants as signs
use Rattle.arc_ast.specs.declared.tree.Kind.TheVariants.{Int, Long}
use Rattle.arc_ast.specs.declared.tree.Qual.{Qual}
use Rattle.arc_ast.specs.declared.tree.Qual.TheVariants as quals
use Rattle.arc_ast.specs.declared.tree.UnaryOperator.TheVariants.{Negate}
use Rattle.arc_ast.specs.declared.tree.BinaryOperator.TheVariants.{Add, Multiply, Divide}
use Rattle.arc_spec.specs.declared.event.Event.{Event}
use Rattle.arc_spec.specs.declared.event.Event.TheVariants.{Byte, Dealloc}
use Rattle.arc_spec.specs.declared.class.Gives.TheVariants as gives
use Rattle.arc_spec.specs.Classes.{Class}
use Rattle.arc_spec.specs.Sorts.{none_counted, counts}
use Rattle.arc_spec.specs.declared.class.Method.{Method}
use Rattle.arc_spec.specs.Resolved.{Value, Number, ReadByte, Print, Unary, Binary, Local, Global, Read, Send, ClassValue, ClassSuper, ObjectValue, GetField, SetField, Reference, Nil, Itself, Variable, AssignObject, GetObjectField, SetObjectField, Alloc, New, ObjectCall, ObjectSend, Program, no_arguments, number_argument, object_argument, Call, Command, Commands, Evaluate, EvaluateReference, InitVariable, Return, Give, Sequence, Function, no_commands, and_command, Bytes, Decimal, Character}
use Rattle.arc_spec.specs.Correctness.{Stop, meaning_seen}
use Rattle.arc_spec.specs.Meaning.{mean}

-- a program shows these events on this input, and then stops so
abbrev pub HasTrace : Program → (input : List ℕ) → List Event → Stop → Type 0
HasTrace P input events stop = meaning_seen (mean P input 0) ≡ record { trace = events; stop = Some stop }

-- a program prints these bytes on this input, and then stops so
abbrev pub Shows : Program → (input bytes : List ℕ) → Stop → Type 0
Shows P input bytes stop = HasTrace P input (map Byte bytes) stop

-- the same of a program that is this body of main alone
abbrev pub Prints : Commands → (input bytes : List ℕ) → Stop → Type 0
Prints body = Shows (record { functions = record { slots = 0; names = 0; parameters = 0; gives = gives.Number; owns = false; body = body } ∷ []; main = 0; globals = []; strong_globals = 0; classes = [] })

-- { printf("42"); return 7; }
abbrev pub forty_two : Commands
forty_two = and_command (Evaluate (Print (Bytes (codes "42") ∷ []) no_arguments)) (and_command (Return (Some (Number (pos 7)))) no_commands)

-- 2 + 3 * 4
abbrev pub fourteen : Value
fourteen = Binary Add Int (Number (pos 2)) (Binary Multiply Int (Number (pos 3)) (Number (pos 4)))

-- -7 / 2
abbrev pub minus_three : Value
minus_three = Binary Divide Int (Unary Negate Int (Number (pos 7))) (Number (pos 2))

-- { printf("%d%d", 2 + 3 * 4, -7 / 2); return 1 / 0; }
abbrev pub division_fault : Commands
division_fault =
    and_command (Evaluate (Print (Decimal ∷ Decimal ∷ []) (number_argument fourteen (number_argument minus_three no_arguments))))
    (and_command (Return (Some (Binary Divide Int (Number (pos 1)) (Number (pos 0))))) no_commands)

-- { printf("%c%d", getchar(), getchar()); printf("after"); }, which prints a byte of the input, and -1 for its end
abbrev pub one_byte : Commands
one_byte =
    and_command (Evaluate (Print (Character ∷ Decimal ∷ []) (number_argument ReadByte (number_argument ReadByte no_arguments))))
    (and_command (Evaluate (Print (Bytes (codes "after") ∷ []) no_arguments)) no_commands)

-- { return printf("%d", 2147483647 + 1); }
abbrev pub wrapped_sum : Commands
wrapped_sum = and_command (Return (Some (Print (Decimal ∷ []) (number_argument (Binary Add Int (Number (pos 2147483647)) (Number (pos 1))) no_arguments)))) no_commands

-- { return -9223372036854775807 / -1; } with one less: the least Long by -1
abbrev pub least_long : Commands
least_long = and_command (Return (Some (Binary Divide Long (Number (negsuc 9223372036854775807)) (Number (negsuc 0))))) no_commands

-- a method with this selector and no arguments, which runs a function
abbrev pub method : Sign → (selector runs : ℕ) → Method
method sign selector runs = record { sign = sign; selector = selector; takes = 0; objects = 0; gives = gives.Number; runs = runs }

-- the sort of a field that holds a number, and of one that names an object
abbrev pub a_number : Option Qual
a_number = None

abbrev pub an_object : Option Qual
an_object = Some quals.Strong

-- a class without fields and dealloc
abbrev pub plain_class : Option ℕ → List Method → Class
plain_class superclass methods = record { superclass = superclass; methods = methods; dealloc = None; fields = none_counted }

-- a method's body that returns this
abbrev pub returns : Value → Function
returns a = record { slots = 1; names = 0; parameters = 0; gives = gives.Number; owns = false; body = and_command (Return (Some a)) no_commands }

-- a class's number, as a value
abbrev pub class_value : ℕ → Value
class_value n = Number (pos n)

-- Classes P and Q with the selectors a, b and z. P's a gives 1 and its b is [self a] * 10; Q, whose superclass P is, has an a that gives [super a] + 1; nobody
-- has z. { printf("%d %d", [P b], [Q b]); [Q z]; }
abbrev pub class_methods : Program
class_methods = record {
  functions = record {
    slots = 0;
    names = 0;
    parameters = 0;
    gives = gives.Number;
    owns = false;
    body = and_command (Evaluate (Print (Decimal ∷ Bytes (codes " ") ∷ Decimal ∷ [])
        (number_argument (Send (ClassValue (class_value 1)) 1 no_arguments) (number_argument (Send (ClassValue (class_value 2)) 1 no_arguments) no_arguments))))
        (and_command (Evaluate (Send (ClassValue (class_value 2)) 2 no_arguments)) no_commands);
  }
      ∷ returns (Number (pos 1)) ∷ returns (Binary Multiply Int (Send (ClassValue (Read (Local 0))) 0 no_arguments) (Number (pos 10)))
      ∷ returns (Binary Add Int (Send (ClassSuper 1) 0 no_arguments) (Number (pos 1))) ∷ [];
  main = 0;
  globals = [];
  strong_globals = 0;
  classes = plain_class None [] ∷ plain_class (Some 0) (method signs.Class 0 1 ∷ method signs.Class 1 2 ∷ []) ∷ plain_class (Some 1) (method signs.Class 0 3 ∷ []) ∷ [];
}

-- the field _v of self, which is the class 1's own
abbrev pub own_field : Value
own_field = GetField Itself 1 0

-- [what v]
abbrev pub sent_v : Reference → Value
sent_v what = Send (ObjectValue what) 0 no_arguments

-- [A alloc]
abbrev pub new_a : Reference
new_a = Alloc (class_value 1)

-- printf of a text without values
abbrev pub printed : List ℕ → Command
printed text = Evaluate (Print (Bytes text ∷ []) no_arguments)

-- A class A with a field _v, a method v that gives it, and a dealloc that prints it after a `d`; and main with this body and one variable that names an object.
abbrev pub with_class_a : Commands → Program
with_class_a body = record {
  functions = record { slots = 0; names = 1; parameters = 0; gives = gives.Number; owns = false; body = body }
      ∷ record { slots = 0; names = 0; parameters = 0; gives = gives.Number; owns = false; body = and_command (Return (Some own_field)) no_commands }
      ∷ record { slots = 0; names = 0; parameters = 0; gives = gives.Number; owns = false; body = and_command (Evaluate (Print (Bytes (codes "d") ∷ Decimal ∷ []) (number_argument own_field no_arguments))) no_commands } ∷ [];
  main = 0;
  globals = [];
  strong_globals = 0;
  classes = plain_class None [] ∷ record { superclass = Some 0; methods = method signs.Instance 0 1 ∷ []; dealloc = Some 2; fields = counts (a_number ∷ []) } ∷ plain_class (Some 0) [] ∷ [];
}

-- { A *a = [A alloc]; a->_v = 3; printf("%d", [a v]); [[A alloc] v]; printf("x"); a = nil; printf("y"); }
abbrev pub objects_with_dealloc : Program
objects_with_dealloc = with_class_a
    (and_command (InitVariable 0 new_a)
    (and_command (Evaluate (SetField (Variable (Local 0)) 1 0 (Number (pos 3))))
    (and_command (Evaluate (Print (Decimal ∷ []) (number_argument (sent_v (Variable (Local 0))) no_arguments)))
    (and_command (Evaluate (sent_v new_a))
    (and_command (printed (codes "x"))
    (and_command (EvaluateReference (AssignObject (Local 0) Nil))
    (and_command (printed (codes "y")) no_commands)))))))

-- what it shows: the dealloc of the second object begins after the 3, and that of the first one after the x
abbrev pub dealloc_events : List Event
dealloc_events = map Byte (codes "3") ++ Dealloc 2 1 ∷ map Byte (codes "d0x") ++ Dealloc 1 1 ∷ map Byte (codes "d3y")

-- { id b = [A alloc]; printf("%d", ((B *)b)->w); }, where w is the class 2's own
abbrev pub field_of_another_class : Program
field_of_another_class = with_class_a (and_command (InitVariable 0 new_a) (and_command (Evaluate (Print (Decimal ∷ []) (number_argument (GetField (Variable (Local 0)) 2 0) no_arguments))) no_commands))

-- { return [nil v]; }, and { return ((A *)nil)->_v; }
abbrev pub sent_to_nil : Commands
sent_to_nil = and_command (Return (Some (Send (ObjectValue Nil) 0 no_arguments))) no_commands

abbrev pub field_of_nil : Commands
field_of_nil = and_command (Return (Some (GetField Nil 1 0))) no_commands

-- ---- strong places everywhere

-- a class with a dealloc, and with fields of these sorts
abbrev pub dying_class : (dealloc : ℕ) → (sorts : List (Option Qual)) → Class
dying_class dealloc sorts = record { superclass = Some 0; methods = []; dealloc = Some dealloc; fields = counts sorts }

-- a program with a variable that names objects, `g`, a main with this body and one such variable, functions, and the classes after the root
abbrev pub with_global : Commands → List Function → List Class → Program
with_global body functions classes = record {
  functions = record { slots = 0; names = 1; parameters = 0; gives = gives.Number; owns = false; body = body } ∷ functions;
  main = 0;
  globals = [];
  strong_globals = 1;
  classes = plain_class None [] ∷ classes;
}

-- a function without variables that does this
abbrev pub does : Commands → Function
does body = record { slots = 0; names = 0; parameters = 0; gives = gives.Number; owns = false; body = body }

-- a dealloc that prints the field _v of self after a `d`
abbrev pub prints_v : Function
prints_v = does (and_command (Evaluate (Print (Bytes (codes "d") ∷ Decimal ∷ []) (number_argument own_field no_arguments))) no_commands)

-- A class with fields _v and _next, and that dealloc: { A *h = [A alloc]; h->_next = [A alloc]; h->_next->_v = 2; printf("c"); }
abbrev pub chain_of_two : Program
chain_of_two = with_global
    (and_command (InitVariable 0 new_a)
    (and_command (EvaluateReference (SetObjectField (Variable (Local 0)) 1 0 new_a))
    (and_command (Evaluate (SetField (GetObjectField (Variable (Local 0)) 1 0) 1 0 (Number (pos 2))))
    (and_command (printed (codes "c")) no_commands))))
    (prints_v ∷ []) (dying_class 1 (a_number ∷ an_object ∷ []) ∷ [])

-- what it shows: the second object ends when the fields of the first one are destroyed, after its dealloc
abbrev pub chain_events : List Event
chain_events = map Byte (codes "c") ++ Dealloc 1 1 ∷ map Byte (codes "d0") ++ Dealloc 2 1 ∷ map Byte (codes "d2")

-- void keep(id p) { g = p; } and { keep([A alloc]); printf("k"); g = nil; printf("n"); }
abbrev pub replaced_global : Program
replaced_global = with_global
    (and_command (Evaluate (Call 2 (object_argument new_a no_arguments)))
    (and_command (printed (codes "k"))
    (and_command (EvaluateReference (AssignObject (Global 0) Nil))
    (and_command (printed (codes "n")) no_commands))))
    (prints_v
    ∷ record { slots = 0; names = 1; parameters = 1; gives = gives.Number; owns = false; body = and_command (EvaluateReference (AssignObject (Global 0) (Variable (Local 0)))) no_commands } ∷ [])
    (dying_class 1 (a_number ∷ []) ∷ [])

-- what it shows: the variable holds the object after the call
abbrev pub replaced_events : List Event
replaced_events = map Byte (codes "k") ++ Dealloc 1 1 ∷ map Byte (codes "d0n")

-- A class whose dealloc is printf("s"); g = self; and { A *a = [A alloc]; a = nil; printf("n"); }
abbrev pub resurrection : Program
resurrection = with_global
    (and_command (InitVariable 0 new_a) (and_command (EvaluateReference (AssignObject (Local 0) Nil)) (and_command (printed (codes "n")) no_commands)))
    (does (and_command (printed (codes "s")) (and_command (EvaluateReference (AssignObject (Global 0) Itself)) no_commands)) ∷ [])
    (dying_class 1 [] ∷ [])

abbrev pub resurrection_events : List Event
resurrection_events = Dealloc 1 1 ∷ map Byte (codes "s")

-- A class A with a field _next, whose dealloc is g = self;, a class B whose dealloc is ((A *)g)->_next = nil;, and { A *a = [A alloc]; a->_next = [B alloc]; }
abbrev pub written_while_destroyed : Program
written_while_destroyed = with_global
    (and_command (InitVariable 0 new_a) (and_command (EvaluateReference (SetObjectField (Variable (Local 0)) 1 0 (Alloc (class_value 2)))) no_commands))
    (does (and_command (EvaluateReference (AssignObject (Global 0) Itself)) no_commands)
    ∷ does (and_command (EvaluateReference (SetObjectField (Variable (Global 0)) 1 0 Nil)) no_commands) ∷ [])
    (dying_class 1 (an_object ∷ []) ∷ dying_class 2 [] ∷ [])

abbrev pub written_events : List Event
written_events = Dealloc 1 1 ∷ Dealloc 2 2 ∷ []

-- ---- families and init

-- A class Z whose init is { self = nil; printf("i"); return nil; }, and its dealloc { printf("z"); }; and { [Z new]; printf("k"); [[Z alloc] init]; }
abbrev pub init_gives_nil : Program
init_gives_nil = with_global
    (and_command (EvaluateReference (New None (class_value 1)))
    (and_command (printed (codes "k"))
    (and_command (EvaluateReference (ObjectSend (ObjectValue (Alloc (class_value 1))) 2 no_arguments)) no_commands)))
    (record {
      slots = 0;
      names = 1;
      parameters = 0;
      gives = gives.Object;
      owns = true;
      body = and_command (EvaluateReference (AssignObject (Local 0) Nil)) (and_command (printed (codes "i")) (and_command (Give Nil) no_commands));
    }
    ∷ does (and_command (printed (codes "z")) no_commands) ∷ [])
    (record {
      superclass = Some 0;
      methods = record { sign = signs.Instance; selector = 2; takes = 0; objects = 0; gives = gives.Object; runs = 1 } ∷ [];
      dealloc = Some 2;
      fields = none_counted;
    } ∷ [])

-- what it shows: what new made ends with it, before anything else is done
abbrev pub init_events : List Event
init_events = map Byte (codes "i") ++ Dealloc 1 1 ∷ map Byte (codes "zki") ++ Dealloc 2 1 ∷ map Byte (codes "z")

-- f() { A *a = [A alloc]; { A *b = [A alloc]; b->_v = 2; return b; } } and { printf("%d", f()->_v); printf("k"); }
abbrev pub result_of_a_block : Program
result_of_a_block = with_global
    (and_command (Evaluate (Print (Decimal ∷ []) (number_argument (GetField (ObjectCall 2 no_arguments) 1 0) no_arguments)))
    (and_command (printed (codes "k")) no_commands))
    (prints_v
    ∷ record {
      slots = 0;
      names = 2;
      parameters = 0;
      gives = gives.Object;
      owns = false;
      body = and_command (InitVariable 0 new_a) (and_command (Sequence 1 1
          (and_command (InitVariable 1 new_a)
          (and_command (Evaluate (SetField (Variable (Local 1)) 1 0 (Number (pos 2))))
          (and_command (Give (Variable (Local 1))) no_commands)))) no_commands);
    } ∷ [])
    (dying_class 1 (a_number ∷ []) ∷ [])

-- what it shows: the function's variables are dropped while the result is held, which ends with the caller's full-expression
abbrev pub result_events : List Event
result_events = Dealloc 1 1 ∷ map Byte (codes "d02") ++ Dealloc 2 1 ∷ map Byte (codes "d2k")
