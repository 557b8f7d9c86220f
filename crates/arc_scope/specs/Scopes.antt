-- What names mean at a place of a body.
use Rattle.std.specs.Prelude.{ℕ, suc, ◌+◌, Bool, true, false, ◌||◌, nat_lt, nat_eq, List, fold, Option, Some, None, is_some, option_map, option_and_then, unwrap_or, codes, if◌then◌else◌}
use Rattle.std.specs.Option.{option_map_or, option_or}
use Rattle.std.specs.Str.{bytes_eq}
use Rattle.arc_ast.specs.declared.tree.Kind.{Kind}
use Rattle.arc_ast.specs.declared.tree.Kind.TheVariants as k
use Rattle.arc_ast.specs.declared.tree.Sign.{Sign}
use Rattle.arc_ast.specs.declared.tree.Sign.TheVariants as signs
use Rattle.arc_ast.specs.declared.tree.Visibility.{Visibility}
use Rattle.arc_ast.specs.declared.tree.Visibility.TheVariants as v
use Rattle.arc_ast.specs.Tree as tree
use Rattle.arc_ast.specs.Tree.{TypeTree, ExprTree, Paren, Call, Nil, Cast, Conditional, Itself, Name, Arrow, Assign, Send, SendSuper, VariableTree, StmtTree, StmtTrees, Block, Variables, If, IfElse, While, For, no_stmts, and_stmt, ParameterTree, HeadTree}
use Rattle.arc_ast.specs.Types as types
use Rattle.arc_spec.specs.Classes.{same_sign}
use Rattle.arc_spec.specs.Families.{method_family, is_init}
use Rattle.arc_spec.specs.declared.location.Location.{Location}
use Rattle.arc_spec.specs.declared.location.Location.TheVariants as location
use Rattle.arc_class.specs.declared.table.Declared.{Declared}
use Rattle.arc_class.specs.declared.table.FoundField.{FoundField}
use Rattle.arc_class.specs.declared.table.MethodResult.{MethodResult}
use Rattle.arc_class.specs.declared.table.Variable.{Variable}
use Rattle.arc_class.specs.FunctionRules.{same_number}
use Rattle.arc_class.specs.Table.{number_of_class}
use Rattle.arc_scope.specs.Kinds.{is_object}
use Rattle.arc_scope.specs.declared.scope.TheConstants.{MOST_VARIABLES}
use Rattle.arc_scope.specs.declared.callee.Callee.{Callee}
use Rattle.arc_scope.specs.declared.callee.Callee.TheVariants.{Printf, GetChar, Defined, Unknown}

-- What is known of a source's names.
pub record Known : Type 0 where
  pub function : List ℕ → Option Declared
  pub global : List ℕ → Option Variable
  -- the kinds of the parameters of the functions of a name, and of the methods of a sign with a selector
  pub parameters : List ℕ → List Kind
  pub passed : Sign → List ℕ → List Kind
  -- the numbers of classes, and whether a class is another or comes from it
  pub class : List ℕ → Option ℕ
  pub superclass : ℕ → Option ℕ
  pub descends : Option ℕ → ℕ → Bool
  -- the class of what a function gives
  pub function_class : List ℕ → Option ℕ
  -- what the method gives that is known for a message of a sign to a class, and to objects of any class
  pub result : Option ℕ → Sign → List ℕ → Option MethodResult
  pub result_of_any : List ℕ → Option Kind
  pub selector : List ℕ → Option ℕ
  -- the field that a name means in the objects of a class
  pub field : Option ℕ → List ℕ → Option FoundField

-- A variable, by where it is: one that holds a number of a kind, or one that names objects, with its static class, of which `id` has none (OPL, "Static Typing").
-- The two sorts are numbered apart.
pub data Local : Type 0 where
  Number : Kind → Location → Local
  Object : Location → (class : Option ℕ) → Local

-- What names mean at a place: what is known of the source; the class in whose method the place is, if it is in one, and the method's sign; the kind of what the
-- function or the method gives; whether the method owns `self`; how many variables come before all others, which is one in a class method and in a method that owns
-- `self`, for `self`; the variables in scope; and the numbers that the next number and the next name of objects get.
pub record Scope : Type 0 where
  pub known : Known
  pub class : Option ℕ
  pub sign : Sign
  pub result : Kind
  pub owns : Bool
  pub hidden : ℕ
  pub variables : List ℕ → Option Local
  pub next : ℕ
  pub names : ℕ

-- whether there is place for one variable more: how many parameters and variables, of both sorts together, a body has at most is this project's own choice
abbrev pub has_place : Scope → Bool
has_place s = nat_lt (s.next + s.names) (MOST_VARIABLES + s.hidden)

-- variables and one more, which hides those of its name
abbrev pub bound : List ℕ → Local → (List ℕ → Option Local) → List ℕ → Option Local
bound one local variables name = if bytes_eq one name then Some local else variables name

-- one more variable, which holds a number of a kind, or names objects
abbrev pub with_number : List ℕ → Kind → Scope → Scope
with_number name kind s = record s { variables = bound name (Number kind (location.Local s.next)) s.variables; next = suc s.next }

abbrev pub with_object : List ℕ → (class : Option ℕ) → Scope → Scope
with_object name class s = record s { variables = bound name (Object (location.Local s.names) class) s.variables; names = suc s.names }

-- the class of a type, of which `id` has none
abbrev pub static_class : Known → TypeTree → Option ℕ
static_class known (tree.Object at name) = known.class name
static_class known _ = None

-- one more variable of a type
abbrev pub with_variable : List ℕ → TypeTree → Scope → Scope
with_variable name type s = if is_object (Some (types.type_kind type)) then with_object name (static_class s.known type) s else with_number name (types.type_kind type) s

-- A variable more, which hides an outer one of its name (C99, section 6.2.1). One past the 200th, which breaks a rule, gets no number and isn't in scope.
abbrev pub declare : List ℕ → TypeTree → Scope → Scope
declare name type s = if has_place s then with_variable name type s else s

-- the variables of a declaration, and parameters, one after the other
abbrev pub with_variables : TypeTree → Scope → List VariableTree → Scope
with_variables type = fold (λ s v. declare v.name type s)

abbrev pub with_parameters : Scope → List ParameterTree → Scope
with_parameters = fold (λ s p. declare p.name p.type s)

-- after an inner scope (C99, section 6.2.1): the names mean what they meant before it, and the numbers that it gave aren't given again
abbrev pub leave : (outer inner : Scope) → Scope
leave outer inner = record outer { next = inner.next; names = inner.names }

-- what names mean after a statement
abbrev mutual
  pub scope_after : Scope → StmtTree → Scope
  scope_after s (Block at all) = leave s (scope_after_all s all)
  scope_after s (Variables at qualifiers type all) = with_variables type s all
  scope_after s (If at c a) = leave s (scope_after s a)
  scope_after s (IfElse at c a b) = leave s (scope_after (leave s (scope_after s a)) b)
  scope_after s (While at moment c a) = leave s (scope_after s a)
  scope_after s (For at a c e b) = leave s (scope_after (scope_after s a) b)
  scope_after s _ = s

  pub scope_after_all : Scope → StmtTrees → Scope
  scope_after_all s no_stmts = s
  scope_after_all s (and_stmt a others) = scope_after_all (scope_after s a) others

-- before the parameters of a function that gives a value of a kind (C99, section 6.9.1)
abbrev pub outermost : Known → (result : Kind) → Scope
outermost known result = record { known = known; class = None; sign = signs.Class; result = result; owns = false; hidden = 0; variables = λ name. None; next = 0; names = 0 }

-- the first number of a class method is `self`
abbrev pub hidden_in : Sign → ℕ
hidden_in sign = if same_sign sign signs.Class then 1 else 0

-- the first variable that names objects is `self`, where it is owned
abbrev pub owned_in : (owns : Bool) → ℕ
owned_in owns = if owns then 1 else 0

-- before the parameters of a method of a class, which owns `self` or doesn't
abbrev pub in_method : (owns : Bool) → Known → Option ℕ → Sign → (result : Kind) → Scope
in_method owns known class sign result =
    record (outermost known result) { class = class; sign = sign; owns = owns; hidden = hidden_in sign + owned_in owns; next = hidden_in sign; names = owned_in owns }

-- the same from what is written of it: a method of init owns its `self`, which is the first of its variables that name objects (ARC, "Semantics of init")
abbrev pub of_method : Known → (class : Option ℕ) → HeadTree → Scope
of_method known class h =
    let result = types.result_kind h.result in
    in_method (is_init (method_family h.sign h.selector result)) known class h.sign result

-- ---- functions

-- a function that takes arguments; a count and texts are `main`'s alone
abbrev pub callee_known : Option Declared → Callee
callee_known f = unwrap_or (option_and_then (λ d. option_map (λ count. Defined d.signature.result count d.body) d.signature.takes) f) Unknown

-- The function that a name calls: the two of the library, or one of the source. Variables aren't looked at, and no program calls `main` (both are this
-- project's own choice).
abbrev pub callee : Known → List ℕ → Callee
callee known name =
    if bytes_eq name (codes "printf") then Printf else (if bytes_eq name (codes "getchar") then GetChar else (if bytes_eq name (codes "main") then Unknown else callee_known (known.function name)))

-- the kind that a call gives
abbrev pub result_kind : Callee → Kind
result_kind (Defined result count body) = result
result_kind _ = k.Int

abbrev pub is_printf : Callee → Bool
is_printf Printf = true
is_printf _ = false

-- ---- classes and fields

-- the class of the objects that a method is sent to; None in class methods, and outside methods
abbrev pub own_class : Scope → Option ℕ
own_class s = if same_sign s.sign signs.Instance then s.class else None

-- the field of `self` that a name means which is no variable's, in a method of objects
abbrev pub own_field : Scope → List ℕ → Option FoundField
own_field s name = s.known.field (own_class s) name

-- a variable of the whole program, as names mean it
abbrev pub of_global : Variable → Local
of_global v = if is_object (Some v.kind) then Object (location.Global v.number) (option_map number_of_class v.class) else Number v.kind (location.Global v.number)

-- the variable that a name means: one of the body, or else one of the whole program, where no field of `self` has the name (C99, section 6.2.1; it is known in the
-- whole source, which is this project's own choice)
abbrev pub variable : Scope → List ℕ → Option Local
variable s name = option_or (s.variables name) (if is_some (own_field s name) then None else option_map of_global (s.known.global name))

-- Where a field may be named (OPL, "The Scope of Instance Variables"): public ones everywhere, private ones in the methods of the class whose own they are, and
-- protected ones in those of classes that come from it, too.
abbrev pub may_name : Visibility → Scope → (owner : ℕ) → Bool
may_name v.Public s owner = true
may_name v.Protected s owner = s.known.descends s.class owner
may_name v.Private s owner = option_map_or (λ class. nat_eq class owner) s.class false

-- whether a field may be named at a place
abbrev pub is_visible : Scope → FoundField → Bool
is_visible s f = may_name f.visibility s (number_of_class f.owner)

-- ---- messages

-- the class that `self` is in a class method, also in parentheses
abbrev pub itself_in : Scope → ExprTree → Option ℕ
itself_in s (Paren at a) = itself_in s a
itself_in s (Itself at) = if same_sign s.sign signs.Class then s.class else None
itself_in s _ = None

-- The class that a receiver is, where it is one: a name that means no variable and no field (OPL, "Class Names in Source Code"), or `self` in a class method,
-- also in parentheses.
abbrev pub class_receiver : Scope → ExprTree → Option ℕ
class_receiver s (Name at name) = if is_some (variable s name) || is_some (own_field s name) then None else s.known.class name
class_receiver s a = itself_in s a

-- the kind of what a method gives that is known
abbrev pub kind_given : Option MethodResult → Option Kind
kind_given = option_map (λ r. r.kind)

-- what the method gives that is known for a message: to a class, or else to an object with a static class; of what `id` is sent, which has none, only the kind is known
abbrev pub sent_result : Known → (class static : Option ℕ) → List ℕ → Option MethodResult
sent_result known class static selector =
    if is_some class then known.result class signs.Class selector
    else if is_some static then known.result static signs.Instance selector
    else option_map (λ kind. record { kind = kind; class = None; related = false }) (known.result_of_any selector)

-- the same of a message to `super`, which has the methods of the superclass of the class whose method has it (OPL, "Messages to self and super")
abbrev pub super_result : Scope → List ℕ → Option MethodResult
super_result s selector = option_and_then (λ class. s.known.result (Some class) s.sign selector) (option_and_then s.known.superclass s.class)

-- ---- static classes

-- the static class of what a method gives that is known: that of what gets the message, or the one that its type names (ARC, "Related result types")
abbrev pub class_given : (receiver : Option ℕ) → Option MethodResult → Option ℕ
class_given receiver given = option_and_then (λ r. if r.related then receiver else option_map number_of_class r.class) given

-- the static class of a field that names objects, and of what a name means: a variable, or else a field of `self`
abbrev pub field_class : Option FoundField → Option ℕ
field_class found = option_and_then (λ f. option_map number_of_class f.class) found

abbrev pub name_class : Option Local → Option FoundField → Option ℕ
name_class None own = field_class own
name_class (Some (Number kind n)) own = None
name_class (Some (Object n class)) own = class

-- whether an expression is `nil`, parentheses aside
abbrev pub is_nil : ExprTree → Bool
is_nil (Paren at a) = is_nil a
is_nil (Nil at) = true
is_nil _ = false

-- the static class of one of two objects, by whether they are `nil`: that of the other, where one is, and else the one that both have (this project's own choice)
abbrev pub either_class : (first_nil second_nil : Bool) → Option ℕ → Option ℕ → Option ℕ
either_class first_nil second_nil a b = if first_nil then b else if second_nil then a else if same_number a b then a else None

-- The static class of an expression; what has none, or gives no object, is as `id`.
abbrev pub class_of : Scope → ExprTree → Option ℕ
class_of s (Paren at a) = class_of s a
class_of s (Itself at) = own_class s
class_of s (Name at name) = name_class (variable s name) (own_field s name)
class_of s (Cast at type a) = static_class s.known type
class_of s (Conditional at c a b) = either_class (is_nil a) (is_nil b) (class_of s a) (class_of s b)
class_of s (Arrow at name_at a name) = field_class (s.known.field (class_of s a) name)
class_of s (Assign at sign a b) = class_of s a
class_of s (Call at name arguments) = s.known.function_class name
class_of s (Send at part receiver selector arguments) =
    class_given (option_or (class_receiver s receiver) (class_of s receiver)) (sent_result s.known (class_receiver s receiver) (class_of s receiver) selector)
class_of s (SendSuper at part super_at selector arguments) = class_given s.class (super_result s selector)
class_of s _ = None
