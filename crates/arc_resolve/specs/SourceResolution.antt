-- The resolved program of a source that breaks no rule.
use Rattle.std.specs.Prelude.{ℕ, ◌-◌, ℤ, pos, Bool, not, ◌&&◌, codes, List, [], ◌∷◌, ◌++◌, length, drop, map, flat_map, filter_map, Option, Some, None, option_map, option_and_then, unwrap_or, if◌then◌else◌}
use Rattle.std.specs.List.{filter}
use Rattle.std.specs.Option.{option_map_or}
use Rattle.std.specs.Str.{bytes_eq}
use Rattle.arc_ast.specs.declared.tree.Moment.{Moment}
use Rattle.arc_ast.specs.declared.tree.Moment.TheVariants.{Before}
use Rattle.arc_ast.specs.declared.tree.UnaryOperator.{UnaryOperator}
use Rattle.arc_ast.specs.declared.tree.UnaryOperator.TheVariants as u
use Rattle.arc_ast.specs.declared.tree.BinaryOperator.{BinaryOperator}
use Rattle.arc_ast.specs.declared.tree.BinaryOperator.TheVariants as o
use Rattle.arc_ast.specs.declared.tree.Constant.{Constant}
use Rattle.arc_ast.specs.declared.tree.Constant.TheVariants as constants
use Rattle.arc_ast.specs.Operators.{sort_of}
use Rattle.arc_ast.specs.Types as types
use Rattle.arc_ast.specs.Types.{type_kind}
use Rattle.arc_ast.specs.declared.tree.OperatorSort.{OperatorSort}
use Rattle.arc_ast.specs.declared.tree.OperatorSort.TheVariants.{Equality, Logic}
use Rattle.arc_ast.specs.declared.tree.Kind.{Kind}
use Rattle.arc_ast.specs.declared.tree.Kind.TheVariants as k
use Rattle.arc_ast.specs.declared.tree.Qual.{Qual}
use Rattle.arc_ast.specs.declared.tree.Sign.{Sign}
use Rattle.arc_ast.specs.declared.tree.Sign.TheVariants as signs
use Rattle.arc_ast.specs.Tree as tree
use Rattle.arc_ast.specs.Tree.{TypeTree, GlobalTree, ExprTree, ExprTrees, Integer, Text, Paren, Call, Name, Unary, Cast, Binary, Conditional, Arrow, Assign, Update, Send, SendSuper, no_exprs, and_expr, VariableTree, StmtTree, StmtTrees, Block, Empty, Simple, Variables, If, IfElse, While, For, no_stmts, and_stmt, FunctionTree, MethodTree, UnitTree}
use Rattle.arc_spec.specs.Classes.{gives_of}
use Rattle.arc_spec.specs.declared.location.Location.TheVariants.{Local}
use Rattle.arc_spec.specs.Number as number
use Rattle.arc_spec.specs.Resolved.{Value, Reference, Number, ReadByte, Print, Convert, Read, AssignNumber, GetField, SetField, UpdateField, NotSame, IsObject, Nil, Itself, Variable, ObjectConditional, AssignObject, GetObjectField, SetObjectField, Alloc, New, ObjectCall, ObjectSend, Receiver, ClassValue, ClassSuper, ObjectValue, ObjectSuper, Arguments, no_arguments, number_argument, object_argument, Command, Sequence, Evaluate, EvaluateReference, InitVariable, Return, Give, Break, Continue, Commands, no_commands, and_command, Function, Program}
use Rattle.arc_spec.specs.Resolved as spec
use Rattle.arc_sites.specs.Sites.{named_parameters}
use Rattle.arc_class.specs.FunctionRules.{same_kind}
use Rattle.arc_class.specs.RuntimeClasses.{classes}
use Rattle.arc_class.specs.FunctionNames.{number_of, is_main}
use Rattle.arc_class.specs.Table.{number_of_class}
use Rattle.arc_class.specs.declared.table.FoundField.{FoundField}
use Rattle.arc_scope.specs.declared.callee.Callee.{Callee}
use Rattle.arc_scope.specs.declared.callee.Callee.TheVariants.{Printf, GetChar, Defined, Unknown}
use Rattle.arc_scope.specs.declared.format.Begun.TheVariants.{Nothing}
use Rattle.arc_scope.specs.Kinds.{literal_kind, is_number, wider, computing_kind, given_kind, is_object}
use Rattle.arc_scope.specs.Formats.{parts, printed}
use Rattle.arc_scope.specs.Scopes as scopes
use Rattle.arc_scope.specs.Scopes.{Known, Scope, declare, with_parameters, leave, scope_after, scope_after_all, outermost, owned_in, callee, own_field, variable, class_receiver, kind_given, sent_result, super_result, class_of, of_method}
use Rattle.arc_scope.specs.KnownNames.{known_of}
use Rattle.arc_scope.specs.ParameterKinds.{first_wanted, wanted_by, receiver_sign}

-- What an expression is resolved to, which breaks no rule: a number of a kind, or an object. What stands below for one that breaks a rule is never asked for.
pub data Resolution : Type 0 where
  Gives : Kind → Value → Resolution
  Refers : Reference → Resolution

-- the kind of what an expression is resolved to
abbrev pub kind_in : Resolution → Kind
kind_in (Gives kind a) = kind
kind_in (Refers r) = k.Object

-- the number, and of an object whether it is one: so tests are resolved (C99, section 6.8.4.1)
abbrev pub number_in : Resolution → Value
number_in (Gives kind a) = a
number_in (Refers r) = IsObject r

-- the object, and nil of a number
abbrev pub object_in : Resolution → Reference
object_in (Gives kind a) = Nil
object_in (Refers r) = r

-- a value of one kind as one of another (C99, section 6.3.1.8; for a cast section 6.5.4, for an assignment section 6.5.16.1, and for a returned value section 6.8.6.4)
abbrev pub as_kind : Kind → Kind → Value → Value
as_kind wanted kind a = if is_number wanted && (is_number kind && not (same_kind wanted kind)) then Convert wanted a else a

-- a number as one of a kind
abbrev pub converted : Kind → Resolution → Value
converted kind a = as_kind kind (kind_in a) (number_in a)

-- ---- operators and calls

-- an operator before an operand: `!` asks of any kind, and the others compute with a BOOL as with an int (C99, section 6.5.3.3)
abbrev pub unary : UnaryOperator → Resolution → Resolution
unary u.Not a = Gives k.Int (spec.Unary u.Not (kind_in a) (number_in a))
unary operator a =
    let kind = wider (kind_in a) k.Int in
    Gives kind (spec.Unary operator kind (converted kind a))

-- a cast: a number becomes one of the type's kind, and an object is the same (C99, section 6.5.4; OPL, "Static Typing")
abbrev pub cast : Kind → Resolution → Resolution
cast kind a = if is_object (Some kind) then a else Gives kind (converted kind a)

-- an operator whose operands become numbers of the kind in which it computes; the count of a shift too, which counts modulo the width of that kind
abbrev pub combined : BinaryOperator → Kind → Resolution → Resolution → Resolution
combined operator kind a b = Gives (given_kind (sort_of operator) kind) (spec.Binary operator kind (converted kind a) (converted kind b))

-- what compares two objects, from whether they differ: `==` is 1 where that is 0 (C99, section 6.5.9, paragraph 3)
abbrev pub compared : BinaryOperator → Value → Value
compared o.Equal differs = spec.Binary o.Equal k.Int differs (Number (pos 0))
compared _ differs = differs

-- the operands of `==` and `!=` are numbers, or objects
abbrev pub equality : BinaryOperator → Resolution → Resolution → Resolution
equality operator (Refers a) (Refers b) = Gives k.Int (compared operator (NotSame a b))
equality operator a b = combined operator (wider (kind_in a) (kind_in b)) a b

-- By its first operand `||` chooses 1 or else the second one as a BOOL, and `&&` the second one as a BOOL or else 0 (C99, sections 6.5.13 and 6.5.14).
abbrev pub logic : BinaryOperator → Value → Value → Value
logic o.Or a b = spec.Conditional a (Number (pos 1)) (Convert k.Bool b)
logic _ a b = spec.Conditional a (Convert k.Bool b) (Number (pos 0))

-- an operator between two operands, by its sort
abbrev pub binary : OperatorSort → BinaryOperator → Resolution → Resolution → Resolution
binary Equality operator a b = equality operator a b
binary Logic operator a b = Gives k.Int (logic operator (number_in a) (number_in b))
binary sort operator a b = combined operator (computing_kind sort (kind_in a) (kind_in b)) a b

-- one of two objects by a test, or of two numbers, as numbers of the wider kind (C99, section 6.5.15)
abbrev pub conditional : Value → Resolution → Resolution → Resolution
conditional test (Refers a) (Refers b) = Refers (ObjectConditional test a b)
conditional test a b =
    let kind = wider (kind_in a) (kind_in b) in
    Gives kind (spec.Conditional test (converted kind a) (converted kind b))

-- the format of a call of printf, its first argument
abbrev pub format : ExprTrees → List ℕ
format (and_expr (Text at bytes) others) = bytes
format _ = []

-- arguments without the first one, as those of printf without its format
abbrev pub but_first : Arguments → Arguments
but_first no_arguments = no_arguments
but_first (number_argument a others) = others
but_first (object_argument a others) = others

-- a call of the function with a number, which gives a value of a kind
abbrev pub invoked : Kind → (function : ℕ) → Arguments → Resolution
invoked kind function all = if is_object (Some kind) then Refers (ObjectCall function all) else Gives kind (spec.Call function all)

-- a call, from its arguments and their values
abbrev pub called : Callee → ExprTrees → Arguments → Resolution
called Printf arguments all = Gives k.Int (Print (printed (parts Nothing (format arguments))) (but_first all))
called GetChar arguments all = Gives k.Int ReadByte
called (Defined result count body) arguments all = invoked result (unwrap_or body 0) all
called Unknown arguments all = Gives k.Int ReadByte

-- an argument before others: an object, or a number, which becomes one of its parameter's kind
abbrev pub argument : (wanted : Option Kind) → Resolution → Arguments → Arguments
argument None a others = number_argument (number_in a) others
argument (Some kind) a others = if is_object (Some kind) then object_argument (object_in a) others else number_argument (converted kind a) others

-- ---- names, fields and assignments

-- a field of an object, by its sort: it holds a number, or names an object; and an assignment to it
abbrev pub read_field : Reference → FoundField → Resolution
read_field r f = read f.qual
  where
    read : (sort : Option Qual) → Resolution
    read None = Gives f.kind (GetField r (number_of_class f.owner) f.index)
    read (Some held) = Refers (GetObjectField r (number_of_class f.owner) f.index)

abbrev pub store_field : Reference → FoundField → Resolution → Resolution
store_field r f a = store f.qual
  where
    store : (sort : Option Qual) → Resolution
    store None = Gives f.kind (SetField r (number_of_class f.owner) f.index (converted f.kind a))
    store (Some held) = Refers (SetObjectField r (number_of_class f.owner) f.index (object_in a))

-- the same of a field that may be there
abbrev pub field : Reference → Option FoundField → Resolution
field r found = option_map_or (read_field r) found (Gives k.Int (Number (pos 0)))

abbrev pub field_assigned : Reference → Option FoundField → Resolution → Resolution
field_assigned r found a = option_map_or (λ f. store_field r f a) found a

-- `self`, which a method that owns it has as the first of its variables that name objects (ARC, "Semantics of init")
abbrev pub itself : (owns : Bool) → Reference
itself owns = if owns then Variable (Local 0) else Itself

-- what a name means: a variable, or else a field of `self`; and an assignment to it
abbrev pub named : (owns : Bool) → Option scopes.Local → Option FoundField → Resolution
named owns None own = field (itself owns) own
named owns (Some (scopes.Number kind n)) own = Gives kind (Read n)
named owns (Some (scopes.Object n class)) own = Refers (Variable n)

abbrev pub name_assigned : (owns : Bool) → Option scopes.Local → Option FoundField → Resolution → Resolution
name_assigned owns None own a = field_assigned (itself owns) own a
name_assigned owns (Some (scopes.Number kind n)) own a = Gives kind (AssignNumber n (converted kind a))
name_assigned owns (Some (scopes.Object n class)) own a = Refers (AssignObject n (object_in a))

-- ---- updates

-- the kind in which an update of a number of a kind computes: that of its operator between two operands (C99, section 6.5.16.2)
abbrev pub updating_kind : BinaryOperator → Kind → Resolution → Kind
updating_kind operator kind a = computing_kind (sort_of operator) kind (kind_in a)

-- What is updated is what the left side reads: a variable, or a field of an object, which is evaluated once.
abbrev pub place_updated : Moment → BinaryOperator → (computed kept : Kind) → (place operand : Value) → Value
place_updated moment operator computed kept (Read n) a = spec.Update moment n operator computed kept a
place_updated moment operator computed kept (GetField r class index) a = UpdateField moment r class index operator computed kept a
place_updated moment operator computed kept _ a = a

-- an update of a number, by an operand that becomes one of the kind in which the operator computes; an object, which breaks a rule, stays as it is
abbrev pub updated : Moment → BinaryOperator → Resolution → Resolution → Resolution
updated moment operator (Refers r) a = Refers r
updated moment operator (Gives kind place) a =
    Gives kind (place_updated moment operator (updating_kind operator kind a) kind place (converted (updating_kind operator kind a) a))

-- ---- messages

-- the value of a receiver that is the class of a number: that number, where it is a name, and else `self`, the first number of a class method
abbrev pub class_value : ExprTree → (class : ℕ) → Value
class_value (Name at name) class = Number (pos class)
class_value _ class = Read (Local 0)

-- a message that gives a value of a kind, or none
abbrev pub sent_to : Option Kind → Receiver → (selector : ℕ) → Arguments → Resolution
sent_to kind receiver selector all =
    if is_object kind then Refers (ObjectSend receiver selector all) else Gives (unwrap_or kind k.Int) (spec.Send receiver selector all)

-- A message to a class, whose method is looked up from another one for `super`. No source has an `alloc` of its own, and `new` is the root's where the source has none
-- (OPL, "Allocating and Initializing Objects").
abbrev pub to_class : Option Kind → (from : Option ℕ) → Value → List ℕ → Receiver → (selector : ℕ) → Arguments → Resolution
to_class kind from class name receiver selector all =
    if bytes_eq name (codes "alloc") then Refers (Alloc class) else if bytes_eq name (codes "new") then Refers (New from class) else sent_to kind receiver selector all

-- a message to a class, or else to an object with a static class (OPL, "Messages to self and super")
abbrev pub sent : Scope → ExprTree → (class static : Option ℕ) → Resolution → List ℕ → Arguments → Resolution
sent s receiver (Some class) static a name all =
    let itself = class_value receiver class in
    to_class (kind_given (s.known.result (Some class) signs.Class name)) None itself name (ClassValue itself) (unwrap_or (s.known.selector name) 0) all
sent s receiver None static a name all = sent_to (kind_given (sent_result s.known None static name)) (ObjectValue (object_in a)) (unwrap_or (s.known.selector name) 0) all

-- a message to `super`: it goes to `self`, and its method is looked up from the superclass of the class whose method has it
abbrev pub to_super : Sign → (owns : Bool) → Option Kind → (from : ℕ) → List ℕ → (selector : ℕ) → Arguments → Resolution
to_super signs.Class owns kind from name selector all = to_class kind (Some from) (Read (Local 0)) name (ClassSuper from) selector all
to_super signs.Instance owns kind from name selector all = sent_to kind (ObjectSuper (itself owns) from) selector all

-- a message to `super` at a place
abbrev pub sent_super : Scope → List ℕ → Arguments → Resolution
sent_super s name all =
    to_super s.sign s.owns (kind_given (super_result s name)) (unwrap_or (option_and_then s.known.superclass s.class) 0) name (unwrap_or (s.known.selector name) 0) all

-- ---- expressions

-- An expression; a text is resolved with its call, and parentheses vanish.
abbrev mutual
  pub resolved : Scope → ExprTree → Resolution
  resolved s (Integer at n suffixed) = Gives (literal_kind n suffixed) (Number n)
  resolved s (Text at bytes) = Gives k.Int (Number (pos 0))
  resolved s (Paren at a) = resolved s a
  resolved s (Call at name arguments) =
      called (callee s.known name) arguments (resolved_all s (wanted_by (callee s.known name) (s.known.parameters name)) arguments)
  resolved s (tree.Nil at) = Refers Nil
  resolved s (tree.Itself at) = Refers (itself s.owns)
  resolved s (Name at name) = named s.owns (variable s name) (own_field s name)
  resolved s (Unary at operator a) = unary operator (resolved s a)
  resolved s (Cast at type a) = cast (type_kind type) (resolved s a)
  resolved s (Binary at operator a b) = binary (sort_of operator) operator (resolved s a) (resolved s b)
  resolved s (Conditional at c a b) = conditional (number_in (resolved s c)) (resolved s a) (resolved s b)
  resolved s (Arrow at name_at a name) = field (object_in (resolved s a)) (s.known.field (class_of s a) name)
  resolved s (Assign at sign a b) = assigned s a (resolved s b)
  resolved s (Update at sign moment operator a b) = updated moment operator (resolved s a) (resolved s b)
  resolved s (Send at part receiver selector arguments) =
      sent s receiver (class_receiver s receiver) (class_of s receiver) (resolved s receiver) selector (resolved_all s (Some (s.known.passed (receiver_sign (class_receiver s receiver)) selector)) arguments)
  resolved s (SendSuper at part super_at selector arguments) = sent_super s selector (resolved_all s (Some (s.known.passed s.sign selector)) arguments)

  -- an assignment to its left side; one to a `self` that isn't owned, which the rules of ownership refuse, stands here as what is assigned
  pub assigned : Scope → ExprTree → Resolution → Resolution
  assigned s (Paren at a) b = assigned s a b
  assigned s (tree.Itself at) b = if s.owns then Refers (AssignObject (Local 0) (object_in b)) else b
  assigned s (Name at name) b = name_assigned s.owns (variable s name) (own_field s name) b
  assigned s (Arrow at name_at a name) b = field_assigned (object_in (resolved s a)) (s.known.field (class_of s a) name) b
  assigned s _ b = b

  pub resolved_all : Scope → (wanted : Option (List Kind)) → ExprTrees → Arguments
  resolved_all s wanted no_exprs = no_arguments
  resolved_all s wanted (and_expr a others) = argument (first_wanted wanted) (resolved s a) (resolved_all s (option_map (drop 1) wanted) others)

-- ---- statements

-- a statement that does nothing
abbrev pub nothing : Command
nothing = Sequence 0 0 no_commands

-- an expression statement (C99, section 6.8.3)
abbrev pub evaluated : Resolution → Command
evaluated (Gives kind a) = Evaluate a
evaluated (Refers r) = EvaluateReference r

-- a value is put into the variable of this number
abbrev pub put : (n : ℕ) → Value → Command
put n a = Evaluate (AssignNumber (Local n) a)

-- A number begins anew, with 0, each time that its declaration runs (this project's own choice); then it takes what is written, if something is, as a number of its kind
-- (C99, section 6.7.8). It is in scope where that is written, and is 0 there (C99, section 6.2.1).
abbrev pub begun_number : Kind → Scope → (n : ℕ) → Option ExprTree → Commands → Commands
begun_number kind s n a others =
    and_command (put n (Number (pos 0))) (option_map_or (λ e. and_command (put n (converted kind (resolved s e))) others) a others)

-- A variable that names objects begins anew with nil, and then names what is written (ARC, "Ownership qualification"). No command is needed for the nil: its
-- function begins with it, and each end of its block drops the variable.
abbrev pub begun_object : Scope → (n : ℕ) → Option ExprTree → Commands → Commands
begun_object s n a others = option_map_or (λ e. and_command (InitVariable n (object_in (resolved s e))) others) a others

-- a declared variable, from the scope before it and the one after it
abbrev pub declared : TypeTree → (before after : Scope) → Option ExprTree → Commands → Commands
declared type before after a others =
    if is_object (Some (type_kind type)) then begun_object after before.names a others else begun_number (type_kind type) after before.next a others

-- a declaration gives its variables their values in turn, each time that it runs
abbrev pub resolved_variables : TypeTree → Scope → List VariableTree → Commands
resolved_variables type s [] = no_commands
resolved_variables type s (v ∷ others) = declared type s (declare v.name type s) v.initial (resolved_variables type (declare v.name type s) others)

-- the test of a `for`, which isn't 0 where there is none, and its step, which does nothing where there is none (C99, section 6.8.5.3)
abbrev pub tested : Scope → Option ExprTree → Value
tested s c = option_map_or (λ a. number_in (resolved s a)) c (Number (pos 1))

abbrev pub stepped : Scope → Option ExprTree → Command
stepped s e = option_map_or (λ a. evaluated (resolved s a)) e nothing

-- A `for` is what comes before its loop, and the loop, in a scope with the variables that are declared before the loop (C99, section 6.8.5.3).
abbrev pub with_loop : (before inside : Scope) → (first loop : Command) → Command
with_loop before inside first loop = Sequence before.names (inside.names - before.names) (and_command first (and_command loop no_commands))

-- a return of a number of a kind, or of an object
abbrev pub returned : Kind → Resolution → Command
returned kind a = if is_object (Some kind) then Give (object_in a) else Return (Some (converted kind a))

-- A statement. A block's own variables that name objects are those that got their numbers in it. The step of a `while` and a `do` does nothing.
abbrev mutual
  pub resolved_stmt : Scope → StmtTree → Command
  resolved_stmt s (Block at all) = Sequence s.names ((scope_after_all s all).names - s.names) (resolved_stmts s all)
  resolved_stmt s (Empty at) = nothing
  resolved_stmt s (Simple a) = evaluated (resolved s a)
  resolved_stmt s (tree.Return at a) = option_map_or (λ e. returned s.result (resolved s e)) a (Return None)
  resolved_stmt s (Variables at qualifiers type all) = Sequence 0 0 (resolved_variables type s all)
  resolved_stmt s (If at c a) = spec.If (number_in (resolved s c)) (resolved_stmt s a) nothing
  resolved_stmt s (IfElse at c a b) = spec.If (number_in (resolved s c)) (resolved_stmt s a) (resolved_stmt (leave s (scope_after s a)) b)
  resolved_stmt s (While at moment c a) = spec.While moment (number_in (resolved s c)) nothing (resolved_stmt s a)
  resolved_stmt s (For at a c e b) =
      with_loop s (scope_after s a) (resolved_stmt s a) (spec.While Before (tested (scope_after s a) c) (stepped (scope_after s a) e) (resolved_stmt (scope_after s a) b))
  resolved_stmt s (tree.Break at) = Break
  resolved_stmt s (tree.Continue at) = Continue

  pub resolved_stmts : Scope → StmtTrees → Commands
  resolved_stmts s no_stmts = no_commands
  resolved_stmts s (and_stmt a others) = and_command (resolved_stmt s a) (resolved_stmts (scope_after s a) others)

-- A function, from the scope after its parameters: it has as many variables of each sort as have got numbers at its end, and as many parameters that name objects as
-- have got such numbers before its body, but for that of an owned `self`.
abbrev pub resolved_body : Scope → StmtTrees → Function
resolved_body s body = record {
  slots = (scope_after_all s body).next;
  names = (scope_after_all s body).names;
  parameters = s.names - owned_in s.owns;
  gives = gives_of s.result;
  owns = s.owns;
  body = resolved_stmts s body;
}

-- a function, if it has a body
abbrev pub resolved_function : Known → FunctionTree → Option Function
resolved_function known f = option_map (resolved_body (with_parameters (outermost known (types.result_kind f.result)) (named_parameters f.parameters))) f.body

abbrev pub resolved_method : Known → (class : Option ℕ) → MethodTree → Function
resolved_method known class m = resolved_body (with_parameters (of_method known class m.head) m.head.parameters) m.body

abbrev pub names_objects : GlobalTree → Bool
names_objects g = is_object (Some (type_kind g.type))

abbrev pub number_written : Option Constant → ℤ
number_written (Some (constants.Number at n)) = n
number_written _ = pos 0

-- What a global variable holds first that holds a number: what is written, as a number of its kind, and else 0 (C99, section 6.7.8, paragraphs 10 and 11). One that
-- names objects begins as nil (ARC, "Ownership qualification").
abbrev pub first_number : GlobalTree → ℤ
first_number g = number.converted (type_kind g.type) (number_written g.initial)

-- the program of a source: its functions with a body, and then its methods, in their order
abbrev pub resolved_unit : UnitTree → Program
resolved_unit u = record {
  functions = filter_map (resolved_function (known_of u)) u.functions ++ flat_map (λ i. map (resolved_method (known_of u) ((known_of u).class i.name)) i.methods) u.implementations;
  main = unwrap_or (number_of is_main u.functions) 0;
  globals = map first_number (filter (λ g. not (names_objects g)) u.globals);
  strong_globals = length (filter names_objects u.globals);
  classes = classes u;
}
