-- The rules for bodies and for first constants: names, kinds, counts of arguments, formats, fields, loops, and the numbers of parameters, variables and objects.
use Rattle.std.specs.Prelude.{ℕ, Bool, true, false, ◌&&◌, ◌||◌, not, List, [], ◌∷◌, ◌++◌, length, flat_map, drop, Option, Some, None, is_some, is_none, option_map, option_and_then, nat_lt, nat_eq, slice_get, if◌then◌else◌}
use Rattle.std.specs.Option.{option_map_or}
use Rattle.arc_ast.specs.declared.tree.UnaryOperator.{UnaryOperator}
use Rattle.arc_ast.specs.declared.tree.UnaryOperator.TheVariants as u
use Rattle.arc_ast.specs.declared.tree.Kind.{Kind}
use Rattle.arc_ast.specs.declared.tree.Kind.TheVariants as k
use Rattle.arc_ast.specs.Operators.{sort_of}
use Rattle.arc_ast.specs.declared.tree.OperatorSort.{OperatorSort}
use Rattle.arc_ast.specs.declared.tree.OperatorSort.TheVariants.{Arithmetic, Shift, Equality, Logic}
use Rattle.arc_ast.specs.Types.{type_kind}
use Rattle.arc_ast.specs.Types as types
use Rattle.arc_ast.specs.Tree.{TypeTree, ExprTree, ExprTrees, Integer, Text, Paren, Call, Nil, Itself, Name, Unary, Cast, Binary, Conditional, Arrow, Assign, Update, Send, SendSuper, no_exprs, and_expr, place, VariableTree, StmtTree, StmtTrees, Block, Empty, Simple, Return, Variables, If, IfElse, While, For, Break, Continue, no_stmts, and_stmt, ParameterTree, FunctionTree, GlobalTree, HeadTree, MethodTree, UnitTree}
use Rattle.arc_ast.specs.declared.tree.Constant.{Constant}
use Rattle.arc_ast.specs.declared.tree.Constant.TheVariants as constants
use Rattle.arc_class.specs.BrokenRules.{broken_if, Broken}
use Rattle.arc_class.specs.FunctionRules.{same_kind}
use Rattle.arc_sites.specs.Sites.{named_parameters}
use Rattle.arc_class.specs.declared.table.FoundField.{FoundField}
use Rattle.arc_sites.specs.Violations.{violates}
use Rattle.arc_judge.specs.declared.body.TheConstants.{MOST_PARAMETERS}
use Rattle.arc_judge.specs.declared.taken.TheConstants.{MOST_TAKEN}
use Rattle.arc_scope.specs.declared.callee.Callee.{Callee}
use Rattle.arc_scope.specs.declared.callee.Callee.TheVariants.{Printf, GetChar, Defined, Unknown}
use Rattle.arc_scope.specs.Formats.{wanted, fits}
use Rattle.arc_scope.specs.Kinds.{literal_kind, is_number, wider, is_object}
use Rattle.arc_scope.specs.ParameterKinds.{first_wanted, wanted_by, receiver_sign}
use Rattle.arc_scope.specs.Scopes.{Known, Local, Scope, has_place, declare, with_parameters, leave, scope_after, outermost, variable, callee, result_kind, is_printf, own_class, own_field, is_visible, itself_in, class_receiver, kind_given, sent_result, super_result, class_of, of_method}
use Rattle.arc_scope.specs.KnownNames.{known_of}
use Rattle.arc_scope.specs.Scopes as scopes

-- whether an expression is a text, which one in parentheses is not
abbrev pub is_text : ExprTree → Bool
is_text (Text at bytes) = true
is_text _ = false

-- whether the first argument is a text that is a format, and the kinds of the others fit it
abbrev pub prints : ExprTrees → List (Option Kind) → Bool
prints (and_expr (Text at format) others) (_ ∷ kinds) = fits (wanted format) kinds
prints _ _ = false

-- the number of a rule, unless it is kept
abbrev pub unless_so : Bool → ℕ → Option ℕ
unless_so so number = if so then None else Some number

-- the number of the rule that a call breaks at its function's name, if it breaks one: 46 Format for printf (C99, section 7.19.6.1), else 45 ArgumentCount for
-- another number of arguments than the function takes (section 6.5.2.2), and 41 UnknownName for a name that is no function's
abbrev pub call_rule : Callee → ExprTrees → List (Option Kind) → Option ℕ
call_rule Printf arguments kinds = unless_so (prints arguments kinds) 46
call_rule GetChar arguments kinds = unless_so (nat_eq (length kinds) 0) 45
call_rule (Defined result wanted body) arguments kinds = unless_so (nat_eq (length kinds) wanted) 45
call_rule Unknown arguments kinds = Some 41

-- ---- kinds

abbrev pub kind_if : Bool → Kind → Option Kind
kind_if so kind = if so then Some kind else None

-- the kind in which an operator computes with an operand: int for a BOOL (C99, section 6.3.1.1), and none, where it is no number
abbrev pub number_kind : Option Kind → Option Kind
number_kind a = option_and_then (λ kind. kind_if (is_number kind) (wider kind k.Int)) a

-- the wider kind of two operands: none, where one has none
abbrev pub both_kinds : Option Kind → Option Kind → Option Kind
both_kinds a b = option_and_then (λ one. option_map (wider one) b) a

-- the kind of what an operator before its operand gives: `!` gives an int, the others a number of the kind in which their operand computes (C99, section 6.5.3.3)
abbrev pub unary_kind : UnaryOperator → Option Kind → Option Kind
unary_kind u.Not a = Some k.Int
unary_kind _ a = number_kind a

-- The kind of what an operator gives, from those of its operands. A shift's is that of the first (C99, section 6.5.7); a comparison gives an int, whatever its operands
-- are (sections 6.5.8 and 6.5.9).
abbrev pub binary_kind : OperatorSort → Option Kind → Option Kind → Option Kind
binary_kind Arithmetic a b = both_kinds (number_kind a) (number_kind b)
binary_kind Shift a b = number_kind a
binary_kind _ a b = Some k.Int

-- the kind of one of two values, which are both objects or both numbers (C99, section 6.5.15)
abbrev pub either_kind : Option Kind → Option Kind → Option Kind
either_kind a b = if is_object a && is_object b then Some k.Object else both_kinds (number_kind a) (number_kind b)

-- the kind of a field that may be named
abbrev pub field_kind : Scope → Option FoundField → Option Kind
field_kind s = option_and_then (λ f. kind_if (is_visible s f) f.kind)

-- the kind of what a name means: this variable, or else a field of `self`
abbrev pub name_kind : Scope → Option Local → List ℕ → Option Kind
name_kind s None name = field_kind s (own_field s name)
name_kind s (Some (scopes.Number kind n)) name = Some kind
name_kind s (Some (scopes.Object n class)) name = Some k.Object

-- the kind of a field of an expression of a kind, which has to be an object
abbrev pub arrow_kind : Scope → Option Kind → Option FoundField → Option Kind
arrow_kind s kind f = if is_object kind then field_kind s f else None

-- the kind of a message to a class, or else to what has a kind and a static class
abbrev pub message_kind : Scope → (class : Option ℕ) → Option Kind → (static : Option ℕ) → List ℕ → Option Kind
message_kind s class kind static selector = if is_some class || is_object kind then kind_given (sent_result s.known class static selector) else None

-- whether an assignment's left side is a name, a field or `self`, parentheses aside
abbrev pub is_assignable : ExprTree → Bool
is_assignable (Paren at a) = is_assignable a
is_assignable (Itself at) = true
is_assignable (Name at name) = true
is_assignable (Arrow at name_at a name) = true
is_assignable _ = false

-- whether an update's left side, which is of a kind, is a variable or a field that holds a number; one without a kind breaks another rule, and `self` of a class
-- method is no variable
abbrev pub is_updatable : Scope → ExprTree → Option Kind → Bool
is_updatable s a kind = (is_assignable a && is_none (itself_in s a)) && not (is_object kind)

-- The kind of an expression, where it has one: it breaks no rule itself, and those have one on whose kinds its own rests. An assignment and an update have their
-- left side's kind (C99, section 6.5.16).
abbrev mutual
  pub kind_of : Scope → ExprTree → Option Kind
  kind_of s (Integer at n suffixed) = Some (literal_kind n suffixed)
  kind_of s (Text at bytes) = None
  kind_of s (Paren at a) = kind_of s a
  kind_of s (Call at name arguments) = kind_if (is_none (call_rule (callee s.known name) arguments (kinds s arguments))) (result_kind (callee s.known name))
  kind_of s (Nil at) = Some k.Object
  kind_of s (Itself at) = kind_if (is_some (own_class s)) k.Object
  kind_of s (Name at name) = name_kind s (variable s name) name
  kind_of s (Unary at operator a) = unary_kind operator (kind_of s a)
  kind_of s (Cast at type a) = Some (type_kind type)
  kind_of s (Binary at operator a b) = binary_kind (sort_of operator) (kind_of s a) (kind_of s b)
  kind_of s (Conditional at c a b) = either_kind (kind_of s a) (kind_of s b)
  kind_of s (Arrow at name_at a name) = arrow_kind s (kind_of s a) (s.known.field (class_of s a) name)
  kind_of s (Assign at sign a b) = if is_assignable a then kind_of s a else None
  kind_of s (Update at sign moment operator a b) = if is_updatable s a (kind_of s a) then kind_of s a else None
  kind_of s (Send at part receiver selector arguments) = message_kind s (class_receiver s receiver) (kind_of s receiver) (class_of s receiver) selector
  kind_of s (SendSuper at part super_at selector arguments) = kind_given (super_result s selector)

  pub kinds : Scope → ExprTrees → List (Option Kind)
  kinds s no_exprs = []
  kinds s (and_expr a others) = kind_of s a ∷ kinds s others

-- what an expression is needed for: a value at all, a number, or an object
pub data Need : Type 0 where
  AValue : Need
  ANumber : Need
  AnObject : Need

-- what the operand of an operator before it is needed for
abbrev pub operand_need : UnaryOperator → Need
operand_need u.Not = AValue
operand_need _ = ANumber

-- what the left operand of an operator between two is needed for, by its sort
abbrev pub left_need : OperatorSort → Need
left_need Equality = AValue
left_need Logic = AValue
left_need _ = ANumber

-- whether a value of a kind isn't what is needed (of a value at all C99, section 6.3.2.2)
abbrev pub lacks : Need → Kind → Bool
lacks AValue kind = same_kind kind k.Void
lacks ANumber kind = not (is_number kind)
lacks AnObject kind = not (same_kind kind k.Object)

-- 43 KindMismatch, at an expression's place: its value isn't what is needed; what has no kind breaks another rule
abbrev pub unmet : Need → Option Kind → ℕ → List Broken
unmet need kind at = broken_if (option_map_or (lacks need) kind false) at 43

-- An object is assigned to what names objects, and a number to any number (C99, section 6.5.16.1); the same goes for what is cast (section 6.5.4, and OPL, "Static
-- Typing").
abbrev pub need_of : Kind → Need
need_of kind = if same_kind kind k.Object then AnObject else ANumber

-- what is given isn't what is needed where a value of a kind is wanted; where the kind isn't known, another rule is broken
abbrev pub no_such : (wanted given : Option Kind) → ℕ → List Broken
no_such wanted given at = option_map_or (λ kind. unmet (need_of kind) given at) wanted []

-- The right operand is needed for what the left one is (`left_need`), but that `==` and `!=` compare two numbers or two objects, and report an object and a number at
-- the second (C99, section 6.5.9). So are the two values of `?:` reported (6.5.15).
abbrev pub no_right : OperatorSort → Option Kind → Option Kind → ℕ → List Broken
no_right Equality a b at = unmet (option_map_or need_of a ANumber) b at
no_right sort a b at = unmet (left_need sort) b at

-- 41 UnknownName, at a field's name: there is no such field; so it is for a name that means neither a variable nor a field of `self` (C99, section 6.5.1).
-- 49 FieldHidden, there too: it may not be named here (OPL, "The Scope of Instance Variables").
abbrev pub no_field : Scope → Option FoundField → ℕ → List Broken
no_field s found at = option_map_or (λ f. broken_if (not (is_visible s f)) at 49) found (record { at = at; number = 41 } ∷ [])

-- 42 NoSuchMethod, at the first part of the selector: no method is known for a message to a class, or else to what has a kind and a static class
abbrev pub no_method : Scope → (class : Option ℕ) → Option Kind → (static : Option ℕ) → List ℕ → ℕ → List Broken
no_method s class kind static selector part =
    broken_if ((is_some class || is_object kind) && is_none (kind_given (sent_result s.known class static selector))) part 42

-- All that is wrong with an expression but for the number of objects that it takes. `self` is known in methods alone, and in a class method it is only sent messages: 41
-- UnknownName, and 43 KindMismatch (this project's own choice). 43 too: a text stands anywhere but as the first argument of printf
-- (this project's own choice). 44 NotAssignable, at the `=`: the left side is no variable, no field and not `self` (C99, section 6.5.16); at the operator
-- of an update: it is none of these, `self` of a class method, or an object (6.5.16.2; with objects nothing is computed). A receiver is a class or has to be an object.
abbrev mutual
  pub broken : Scope → ExprTree → List Broken
  broken s (Text at bytes) = record { at = at; number = 43 } ∷ []
  broken s (Paren at a) = broken s a
  broken s (Call at name arguments) =
      option_map_or (broken_if true at) (call_rule (callee s.known name) arguments (kinds s arguments)) []
      ++ broken_arguments s (wanted_by (callee s.known name) (s.known.parameters name)) (is_printf (callee s.known name)) arguments
  broken s (Itself at) = if is_some (own_class s) then [] else broken_if true at (if is_some s.class then 43 else 41)
  broken s (Name at name) = if is_some (variable s name) then [] else no_field s (own_field s name) at
  broken s (Unary at operator a) = broken s a ++ unmet (operand_need operator) (kind_of s a) (place a)
  broken s (Cast at type a) = broken s a ++ no_such (Some (type_kind type)) (kind_of s a) (place a)
  broken s (Binary at operator a b) =
      (broken s a ++ unmet (left_need (sort_of operator)) (kind_of s a) (place a)) ++ (broken s b ++ no_right (sort_of operator) (kind_of s a) (kind_of s b) (place b))
  broken s (Conditional at c a b) =
      (broken s c ++ unmet AValue (kind_of s c) (place c))
      ++ ((broken s a ++ unmet AValue (kind_of s a) (place a)) ++ (broken s b ++ no_right Equality (kind_of s a) (kind_of s b) (place b)))
  broken s (Arrow at name_at a name) =
      (broken s a ++ unmet AnObject (kind_of s a) (place a)) ++ (if is_object (kind_of s a) then no_field s (s.known.field (class_of s a) name) name_at else [])
  broken s (Assign at sign a b) = (broken s a ++ broken_if (not (is_assignable a)) sign 44) ++ (broken s b ++ no_such (kind_of s a) (kind_of s b) (place b))
  broken s (Update at sign moment operator a b) =
      (broken s a ++ broken_if (not (is_updatable s a (kind_of s a))) sign 44) ++ (broken s b ++ unmet ANumber (kind_of s b) (place b))
  broken s (Send at part receiver selector arguments) =
      ((if is_some (class_receiver s receiver) then [] else broken s receiver ++ unmet AnObject (kind_of s receiver) (place receiver))
      ++ no_method s (class_receiver s receiver) (kind_of s receiver) (class_of s receiver) selector part)
      ++ broken_arguments s (Some (s.known.passed (receiver_sign (class_receiver s receiver)) selector)) false arguments
  broken s (SendSuper at part super_at selector arguments) =
      broken_if (is_none (kind_given (super_result s selector))) part 42 ++ broken_arguments s (Some (s.known.passed s.sign selector)) false arguments
  broken s _ = []

  -- An argument has to be what its parameter is, an object or a number (C99, section 6.5.2.2, paragraph 7); what printf prints may be of any kind here, since a wrong
  -- one breaks the rule of formats.
  pub broken_arguments : Scope → (wanted : Option (List Kind)) → (text_may_begin : Bool) → ExprTrees → List Broken
  broken_arguments s wanted text_may_begin no_exprs = []
  broken_arguments s wanted text_may_begin (and_expr a others) =
      ((if text_may_begin && is_text a then [] else broken s a) ++ no_such (first_wanted wanted) (kind_of s a) (place a)) ++ broken_arguments s (option_map (drop 1) wanted) false others

-- ---- how many objects an expression takes

abbrev pub place_if : Bool → ℕ → List ℕ
place_if so at = if so then at ∷ [] else []

-- a name reads `self`, where it means a field of it and no variable, whether that is read or assigned to
abbrev pub unread_name : Scope → Option Local → List ℕ → ℕ → List ℕ
unread_name s local name at = place_if (is_none local && is_some (own_field s name)) at

-- The places at which an expression takes an object, in the order of the source: each read of a variable that names objects, and of `self` (by `super` and by
-- the name of a field too), each read of a field that names one, at its name, each call that gives an object, at its function's name, each message that does, at its selector's first part, and each assignment
-- of one, at its `=` (this project's own choice).
abbrev mutual
  pub taken : Scope → ExprTree → List ℕ
  taken s (Paren at a) = taken s a
  taken s (Call at name arguments) = place_if (is_object (kind_of s (Call at name arguments))) at ++ all_taken s arguments
  taken s (Itself at) = place_if (is_some (own_class s)) at
  taken s (Name at name) = unread_name s (variable s name) name at ++ place_if (is_object (name_kind s (variable s name) name)) at
  taken s (Unary at operator a) = taken s a
  taken s (Cast at type a) = taken s a
  taken s (Binary at operator a b) = taken s a ++ taken s b
  taken s (Conditional at c a b) = taken s c ++ (taken s a ++ taken s b)
  taken s (Arrow at name_at a name) = taken s a ++ place_if (is_object (arrow_kind s (kind_of s a) (s.known.field (class_of s a) name))) name_at
  taken s (Assign at sign a b) = ((if is_assignable a then unread s a else taken s a) ++ place_if (is_object (kind_of s a)) sign) ++ taken s b
  taken s (Update at sign moment operator a b) = taken s a ++ taken s b
  taken s (Send at part receiver selector arguments) =
      (taken s receiver ++ place_if (is_object (message_kind s (class_receiver s receiver) (kind_of s receiver) (class_of s receiver) selector)) part) ++ all_taken s arguments
  taken s (SendSuper at part super_at selector arguments) =
      (place_if (is_some (own_class s)) super_at ++ place_if (is_object (kind_given (super_result s selector))) part) ++ all_taken s arguments
  taken s _ = []

  -- what a variable, a field or `self` takes that isn't read, but assigned to: the object whose field it is
  pub unread : Scope → ExprTree → List ℕ
  unread s (Paren at a) = unread s a
  unread s (Name at name) = unread_name s (variable s name) name at
  unread s (Arrow at name_at a name) = taken s a
  unread s _ = []

  pub all_taken : Scope → ExprTrees → List ℕ
  all_taken s no_exprs = []
  all_taken s (and_expr a others) = taken s a ++ all_taken s others

-- All that is wrong with a full-expression (C99, section 6.8). 50 TooManyLocals, at the place at which it takes one object more than is allowed (this project's
-- own choice).
abbrev pub broken_whole : Scope → ExprTree → List Broken
broken_whole s a = broken s a ++ violates 50 (slice_get (taken s a) MOST_TAKEN)

-- ---- statements

-- all that is wrong with a test, which is a number or an object (C99, section 6.8.4.1)
abbrev pub broken_test : Scope → ExprTree → List Broken
broken_test s a = broken_whole s a ++ unmet AValue (kind_of s a) (place a)

-- all that is wrong with what a variable of a type begins with, if that is written (C99, section 6.7.8)
abbrev pub broken_initial : Scope → TypeTree → Option ExprTree → List Broken
broken_initial s type a = option_map_or (λ e. broken_whole s e ++ no_such (Some (type_kind type)) (kind_of s e) (place e)) a []

-- 50 TooManyLocals too: a variable past the 200th, at its name; a variable is in scope in its own initializer (C99, section 6.2.1)
abbrev pub broken_variables : TypeTree → Scope → List VariableTree → List Broken
broken_variables type s [] = []
broken_variables type s (v ∷ others) =
    broken_if (not (has_place s)) v.at 50 ++ (broken_initial (declare v.name type s) type v.initial ++ broken_variables type (declare v.name type s) others)

-- the same of parameters
abbrev pub broken_parameters : Scope → List ParameterTree → List Broken
broken_parameters s [] = []
broken_parameters s (p ∷ others) = broken_if (not (has_place s)) p.at 50 ++ broken_parameters (declare p.name p.type s) others

-- 43 KindMismatch too: a value that a function without a result returns, an object that one returns which gives a number, and the reverse, at the value (C99, section
-- 6.8.6.4)
abbrev pub broken_result : Scope → Option ExprTree → List Broken
broken_result s None = []
broken_result s (Some a) = broken_whole s a ++ (if same_kind s.result k.Void then broken_if true (place a) 43 else no_such (Some s.result) (kind_of s a) (place a))

-- all that is wrong with the test and the step of a `for`, if they are there (C99, section 6.8.5.3)
abbrev pub broken_clauses : Scope → (test step : Option ExprTree) → List Broken
broken_clauses s test step = option_map_or (broken_test s) test [] ++ option_map_or (broken_whole s) step []

-- All that is wrong with a statement, which is in the body of a loop or isn't. 48 OutsideLoop: a `break` or a `continue` in no such body, at its first byte (C99,
-- sections 6.8.6.2 and 6.8.6.3).
abbrev mutual
  pub broken_stmt : (in_loop : Bool) → Scope → StmtTree → List Broken
  broken_stmt in_loop s (Block at all) = broken_stmts in_loop s all
  broken_stmt in_loop s (Empty at) = []
  broken_stmt in_loop s (Simple a) = broken_whole s a
  broken_stmt in_loop s (Return at a) = broken_result s a
  broken_stmt in_loop s (Variables at qualifiers type all) = broken_variables type s all
  broken_stmt in_loop s (If at c a) = broken_test s c ++ broken_stmt in_loop s a
  broken_stmt in_loop s (IfElse at c a b) = broken_test s c ++ (broken_stmt in_loop s a ++ broken_stmt in_loop (leave s (scope_after s a)) b)
  broken_stmt in_loop s (While at moment c a) = broken_test s c ++ broken_stmt true s a
  broken_stmt in_loop s (For at a c e b) =
      broken_stmt false s a ++ (broken_clauses (scope_after s a) c e ++ broken_stmt true (scope_after s a) b)
  broken_stmt in_loop s (Break at) = broken_if (not in_loop) at 48
  broken_stmt in_loop s (Continue at) = broken_if (not in_loop) at 48

  pub broken_stmts : (in_loop : Bool) → Scope → StmtTrees → List Broken
  broken_stmts in_loop s no_stmts = []
  broken_stmts in_loop s (and_stmt a others) = broken_stmt in_loop s a ++ broken_stmts in_loop (scope_after s a) others

-- and with a body and its parameters
abbrev pub broken_body : Scope → List ParameterTree → StmtTrees → List Broken
broken_body s parameters body = broken_parameters s parameters ++ broken_stmts false (with_parameters s parameters) body

-- ---- variables of the whole program

-- 43 KindMismatch too: a number with which a variable begins that names objects, or `nil` with which one begins that holds a number, at the constant's first byte
-- (C99, section 6.7.8, paragraph 11)
abbrev pub broken_constant : Need → Constant → List Broken
broken_constant need (constants.Number at n) = unmet need (Some k.Int) at
broken_constant need (constants.Nil at) = unmet need (Some k.Object) at

abbrev pub broken_global : GlobalTree → List Broken
broken_global g = option_map_or (broken_constant (need_of (type_kind g.type))) g.initial []

-- ---- functions, methods and classes

-- 45 ArgumentCount too: a function with more parameters than are allowed, at its name (this project's own choice); those of a mere declaration are only counted
abbrev pub broken_function : Known → FunctionTree → List Broken
broken_function known f =
    broken_if (nat_lt MOST_PARAMETERS (length (named_parameters f.parameters))) f.at 45
    ++ option_map_or (broken_body (outermost known (types.result_kind f.result)) (named_parameters f.parameters)) f.body []

-- 45 ArgumentCount too: a method with more parameters, declared or defined, at its sign
abbrev pub broken_head : HeadTree → List Broken
broken_head h = broken_if (nat_lt MOST_PARAMETERS (length h.parameters)) h.at 45

abbrev pub broken_method : Known → (class : Option ℕ) → MethodTree → List Broken
broken_method known class m = broken_head m.head ++ broken_body (of_method known class m.head) m.head.parameters m.body

-- all that is wrong in the functions and the methods of a source
abbrev pub broken_unit : UnitTree → List Broken
broken_unit u = flat_map (broken_function (known_of u)) u.functions
    ++ (flat_map broken_global u.globals
    ++ (flat_map (λ i. flat_map broken_head i.methods) u.interfaces ++ flat_map (λ i. flat_map (broken_method (known_of u) ((known_of u).class i.name)) i.methods) u.implementations))
