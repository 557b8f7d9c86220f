-- The rules that a site of a source breaks by itself: names of one scope, functions, global variables and methods beside others of their names, classes of
-- types, and calls of functions that have no body. Each says what is broken at a node.
use Rattle.std.specs.Prelude.{ℕ, Bool, false, ◌&&◌, ◌||◌, not, nat_lt, List, [], ◌∷◌, ◌++◌, map, flat_map, Option, Some, None, is_none, codes, if◌then◌else◌}
use Rattle.std.specs.Option.{option_map_or, option_or}
use Rattle.std.specs.Str.{bytes_eq}
use Rattle.arc_ast.specs.declared.tree.Kind.{Kind}
use Rattle.arc_ast.specs.declared.tree.Kind.TheVariants as k
use Rattle.arc_ast.specs.declared.tree.Sign.{Sign}
use Rattle.arc_ast.specs.declared.tree.Sign.TheVariants as signs
use Rattle.arc_ast.specs.Tree as t
use Rattle.arc_ast.specs.Tree.{TypeTree, ResultTree, Call, Cast, VariableTree, StmtTree, StmtTrees, Block, Variables, no_stmts, and_stmt, ParameterTree, FunctionTree, GlobalTree, HeadTree, InterfaceTree, UnitTree}
use Rattle.arc_sites.specs.Sites.{Enclosing, Node, Value, Statement, Body, Function, Global, Field, Declared, Defined, named_parameters}
use Rattle.arc_spec.specs.Classes.{same_sign}
use Rattle.arc_class.specs.declared.table.Declared as table
use Rattle.arc_class.specs.BrokenRules.{Broken, broken_if}
use Rattle.arc_class.specs.Classes.{is_root, class_number, first_head, result_of, built_in_result, declared, defined}
use Rattle.arc_class.specs.FunctionRules.{is_library, same_kind, same_kinds}
use Rattle.arc_class.specs.Globals.{known_global, variable_before}
use Rattle.arc_class.specs.FunctionNames.{known, first_named, parameter_kinds, listed_kinds}

-- ---- names

-- whether a function is there, and stands before a place; and whether the first interface with a name does
abbrev pub stands_before : Option FunctionTree → ℕ → Bool
stands_before f at = option_map_or (λ f. nat_lt f.at at) f false

abbrev pub interface_before : List InterfaceTree → List ℕ → ℕ → Bool
interface_before [] name at = false
interface_before (i ∷ others) name at = if bytes_eq name i.name then nat_lt i.at at else interface_before others name at

-- whether a class has the name whose interface stands before a place; the root is before all
abbrev pub class_before : List InterfaceTree → List ℕ → ℕ → Bool
class_before interfaces name at = is_root name || interface_before interfaces name at

-- whether a function's parameters are of other kinds than those of the first function of its name
abbrev pub other_parameters : Option FunctionTree → FunctionTree → Bool
other_parameters first f = option_map_or (λ e. not (same_kinds (listed_kinds e) (listed_kinds f))) first false

-- 21 Duplicate: a function with the name of the root, of an earlier interface's class (this project's own choice) or of an earlier global variable (C99, section
-- 6.7, paragraph 3), or whose parameters are of other kinds than those of the first function of its name (C99, section 6.7.5.3), at its name
abbrev pub clashes_with : List InterfaceTree → List GlobalTree → List FunctionTree → FunctionTree → Bool
clashes_with interfaces globals functions f =
    class_before interfaces f.name f.at || (variable_before (known_global interfaces globals f.name) f.at || other_parameters (first_named f.name functions) f)

-- 21 Duplicate: a global variable of a name of the library's, of the root, or of an earlier interface's class, function or global variable, at its name (C99,
-- section 6.7, paragraph 3; that a declaration without a first number may not stand again is this project's own choice)
abbrev pub is_again : UnitTree → GlobalTree → Bool
is_again u g = is_library g.name || (class_before u.interfaces g.name g.at
    || (stands_before (first_named g.name u.functions) g.at || variable_before (known_global u.interfaces u.globals g.name) g.at))

-- what a statement declares in the scope in which it stands (C99, section 6.2.1), and what statements declare there
abbrev pub declared_in : StmtTree → List VariableTree
declared_in (Variables at qualifiers type all) = all
declared_in _ = []

abbrev pub all_declared : StmtTrees → List VariableTree
all_declared no_stmts = []
all_declared (and_stmt a others) = declared_in a ++ all_declared others

-- a parameter, which is a variable of its body
abbrev pub as_variable : ParameterTree → VariableTree
as_variable p = record { at = p.at; qualifiers = p.qualifiers; name = p.name; initial = None }

-- The variables of the scope that a node makes: a body, in one scope with its parameters (C99, section 6.9.1), a block (section 6.8), and a declaration, which may
-- stand alone in one, as before a `for` (section 6.8.5.3).
abbrev pub scope : Node → List VariableTree
scope (Body parameters body) = map as_variable parameters ++ all_declared body
scope (Statement (Block at all)) = all_declared all
scope (Statement (Variables at qualifiers type all)) = all
scope _ = []

-- the variables whose name stands in their scope already, at the name, where a test says of a name whether it stands there before all of them
abbrev pub repeated : (stands : List ℕ → Bool) → List VariableTree → List Broken
repeated stands [] = []
repeated stands (v ∷ others) = broken_if (stands v.name) v.at 21 ++ repeated (λ name. bytes_eq v.name name || stands name) others

-- 21 Duplicate: also a variable or a parameter whose name stands in its scope already (C99, section 6.7)
abbrev pub rule_21 : UnitTree → Node → List Broken
rule_21 u (Function f) = broken_if (clashes_with u.interfaces u.globals u.functions f) f.at 21
rule_21 u (Global g) = broken_if (is_again u g) g.at 21
rule_21 u n = repeated (λ name. false) (scope n)

-- ---- types

-- the types of a function or of a method: that of its result, and those of its parameters
abbrev pub result_types : ResultTree → List TypeTree
result_types (t.Value type) = type ∷ []
result_types _ = []

abbrev pub signature_types : ResultTree → List ParameterTree → List TypeTree
signature_types result parameters = result_types result ++ map (λ p. p.type) parameters

-- the types that stand at a node
abbrev pub types : Node → List TypeTree
types (Value (Cast at type a)) = type ∷ []
types (Statement (Variables at qualifiers type all)) = type ∷ []
types (Function f) = signature_types f.result (named_parameters f.parameters)
types (Global g) = g.type ∷ []
types (Field f) = f.type ∷ []
types (Declared h) = signature_types h.result h.parameters
types (Defined h) = signature_types h.result h.parameters
types _ = []

-- 22 UnknownClass: a type that names no class with an interface, at the class's name (OPL, "Static Typing"); the root needs none
abbrev pub unknown_class : UnitTree → TypeTree → List Broken
unknown_class u (t.Object at name) = broken_if (is_none (class_number u.interfaces name)) at 22
unknown_class u _ = []

abbrev pub rule_22 : UnitTree → Node → List Broken
rule_22 u n = flat_map (unknown_class u) (types n)

-- ---- methods

-- whether two methods give the same kind of value, and have parameters of the same kinds
abbrev pub same_kinds_of : HeadTree → HeadTree → Bool
same_kinds_of e h = same_kind (result_of e) (result_of h) && same_kinds (parameter_kinds e.parameters) (parameter_kinds h.parameters)

-- whether a method stands before another, and they differ in a kind
abbrev pub differs_before : Option HeadTree → HeadTree → Bool
differs_before earlier h = option_map_or (λ e. nat_lt e.at h.at && not (same_kinds_of e h)) earlier false

-- whether a method that is built in gives another kind of value
abbrev pub differs_from : Option Kind → HeadTree → Bool
differs_from kind h = option_map_or (λ given. not (same_kind given (result_of h))) kind false

-- the selectors of the methods of the root that say what an object's class is or has (OPL, "Introspection")
abbrev pub asks_class : List ℕ → Bool
asks_class selector = bytes_eq selector (codes "isKindOfClass:") || (bytes_eq selector (codes "isMemberOfClass:")
    || (bytes_eq selector (codes "respondsToSelector:") || bytes_eq selector (codes "conformsToProtocol:")))

-- these give a BOOL; no source can send them yet
abbrev pub asked_kind : Sign → List ℕ → Option Kind
asked_kind sign selector = if same_sign sign signs.Instance && asks_class selector then Some k.Bool else None

-- what the methods of the root give, which are built in
abbrev pub built_in_kind : Sign → List ℕ → Option Kind
built_in_kind sign selector = option_or (built_in_result sign selector) (asked_kind sign selector)

-- 24 SelectorKinds: a method whose result or one of whose parameters is of another kind than that of an earlier method of its sign with its selector, those of
-- the root being built in, at its `+` or `-` (this project's own choice)
abbrev pub changes_kind : UnitTree → HeadTree → Bool
changes_kind u h = differs_before (first_head h.sign h.selector (declared u.interfaces)) h
    || (differs_before (first_head h.sign h.selector (defined u.implementations)) h || differs_from (built_in_kind h.sign h.selector) h)

-- 28 HookMethod: a class method that would change how classes are loaded or objects are made (Runtime Reference, "+load" and "+initialize"; OPL, "Allocating
-- and Initializing Objects"), a method of objects that says what their class is or has, or one of either sign that gives the class, at its `+` or `-` (this
-- project's own choice)
abbrev pub is_class_hook : List ℕ → Bool
is_class_hook selector = bytes_eq selector (codes "load") || (bytes_eq selector (codes "initialize") || bytes_eq selector (codes "alloc"))

abbrev pub is_hook_of : Sign → List ℕ → Bool
is_hook_of sign selector = if same_sign sign signs.Class then is_class_hook selector else asks_class selector

abbrev pub is_hook : HeadTree → Bool
is_hook h = is_hook_of h.sign h.selector || bytes_eq h.selector (codes "class")

-- the method that a node declares or defines
abbrev pub method_at : Node → Option HeadTree
method_at (Declared h) = Some h
method_at (Defined h) = Some h
method_at _ = None

abbrev pub rule_24 : UnitTree → Node → List Broken
rule_24 u n = option_map_or (λ h. broken_if (changes_kind u h) h.at 24) (method_at n) []

abbrev pub rule_28 : Node → List Broken
rule_28 n = option_map_or (λ h. broken_if (is_hook h) h.at 28) (method_at n) []

-- ---- calls

-- 30 UndefinedFunction: a call of a function that is declared and has no body, at its name (C99, section 6.9)
abbrev pub lacks_body : Option table.Declared → Bool
lacks_body f = option_map_or (λ f. is_none f.body) f false

abbrev pub rule_30 : UnitTree → Node → List Broken
rule_30 u (Value (Call at name arguments)) = broken_if (lacks_body (known u.functions name)) at 30
rule_30 u _ = []

-- all that is broken at a site
abbrev pub violations : UnitTree → Enclosing → Node → List Broken
violations u m n = rule_21 u n ++ (rule_22 u n ++ (rule_24 u n ++ (rule_28 n ++ rule_30 u n)))
