-- The rules of ownership: what a program can't say, since the compiler counts references for it. Each is a predicate on a site: the place at which the site
-- breaks it, if it does.
use Rattle.std.specs.Prelude.{ℕ, Bool, true, false, ◌||◌, ◌&&◌, not, List, [], ◌∷◌, ◌++◌, Option, Some, None, option_and_then, unwrap_or, codes, if◌then◌else◌}
use Rattle.std.specs.Option.{option_map_or}
use Rattle.std.specs.Str.{bytes_eq}
use Rattle.arc_ast.specs.declared.tree.Kind.{Kind}
use Rattle.arc_ast.specs.declared.tree.Kind.TheVariants as k
use Rattle.arc_ast.specs.declared.tree.Qualifiers.{Qualifiers}
use Rattle.arc_ast.specs.declared.tree.Qualifiers.TheVariants as qualifiers
use Rattle.arc_ast.specs.declared.tree.Sign.TheVariants as signs
use Rattle.arc_ast.specs.Tree as t
use Rattle.arc_ast.specs.Tree.{TypeTree, ResultTree, Assign, ParameterTree, FunctionTree, HeadTree, InterfaceTree, UnitTree}
use Rattle.arc_ast.specs.Types.{type_kind, result_kind, both_qualifiers}
use Rattle.arc_class.specs.Classes.{class_number, superclasses, any_result}
use Rattle.arc_class.specs.SiteRules.{method_at}
use Rattle.arc_sites.specs.declared.violation.Violation.{Violation}
use Rattle.arc_sites.specs.Violations.{at_if, violates}
use Rattle.arc_spec.specs.Classes.{same_sign, ancestry}
use Rattle.arc_spec.specs.Families.{method_family, is_init, is_owning, is_object}
use Rattle.arc_spec.specs.declared.signature.Family.{Family}
use Rattle.std.specs.List.{list_any}
use Rattle.std.specs.Bool.{nat_eq}
use Rattle.arc_sites.specs.Sites.{Enclosing, InMethod, InInterface, Node, Value, Variable, Function, Global, Field, Declared, Defined, named_parameters, unit_sites}
use Rattle.arc_sites.specs.Messages.{Message, sends, is_itself, is_to_itself}
use Rattle.arc_sites.specs.FoundViolations.{violations_of}

-- the family of a method
abbrev pub head_family : HeadTree → Family
head_family h = method_family h.sign h.selector (result_kind h.result)

-- whether what has a node owns `self`: a method of the init family (ARC, "Semantics of init")
abbrev pub owns_self : Enclosing → Bool
owns_self (InMethod class h) = is_init (head_family h)
owns_self _ = false

-- 47 SelfConst: `self` is assigned outside of the methods of the init family (ARC, "self"); at the `=`
abbrev pub rule_47 : Enclosing → Node → Option ℕ
rule_47 m (Value (Assign at sign left right)) = at_if (is_itself left && not (owns_self m)) sign
rule_47 m _ = None

-- whether a method gives an object that it doesn't retain for who sends the message (ARC, "Unretained return values")
abbrev pub gives_unretained : HeadTree → Bool
gives_unretained h = is_object (result_kind h.result) && not (is_owning (head_family h))

-- 60 Unretained: a function or a method that gives such an object, at its name or its `+` or `-`; there is nothing yet that holds it until who called may take it (this
-- project's own choice)
abbrev pub rule_60 : Node → Option ℕ
rule_60 (Function f) = at_if (is_object (result_kind f.result)) f.at
rule_60 n = option_and_then (λ h. at_if (gives_unretained h) h.at) (method_at n)

-- the selectors of the methods that count references by hand (ARC, "Memory management methods")
abbrev pub is_manual : List ℕ → Bool
is_manual selector =
    bytes_eq selector (codes "retain") || (bytes_eq selector (codes "release") || (bytes_eq selector (codes "autorelease") || bytes_eq selector (codes "retainCount")))

-- 61 ManualMemory: such a method is declared or defined, at its `+` or `-`, or is sent, at the first part of the selector. ARC, "Memory management methods",
-- refuses a definition and a message; that a declaration is refused too is this project's own choice.
abbrev pub rule_61 : Node → Option ℕ
rule_61 (Value a) = sends (λ m. is_manual m.selector) a
rule_61 n = option_and_then (λ h. at_if (is_manual h.selector) h.at) (method_at n)

abbrev pub is_dealloc : List ℕ → Bool
is_dealloc selector = bytes_eq selector (codes "dealloc")

-- 62 DeallocSent: `dealloc` is sent (ARC, "dealloc"); at the selector
abbrev pub rule_62 : Node → Option ℕ
rule_62 (Value a) = sends (λ m. is_dealloc m.selector) a
rule_62 _ = None

-- whether a message is one of the init family, whose methods give objects; all methods of objects with one selector give the same (ARC, "Method families")
abbrev pub is_init_message : UnitTree → Message → Bool
is_init_message u m = is_init (method_family signs.Instance m.selector (unwrap_or (any_result u m.selector) k.Void))

-- whether `self` is an object: in the methods of objects
abbrev pub is_in_instance : Enclosing → Bool
is_in_instance (InMethod class h) = same_sign h.sign signs.Instance
is_in_instance _ = false

-- whether a message is one of the init family to `self` or `super`, in a method of objects that isn't
abbrev pub is_delegated : UnitTree → Enclosing → Message → Bool
is_delegated u enclosing m = (is_in_instance enclosing && not (owns_self enclosing)) && (is_to_itself m && is_init_message u m)

-- 63 DelegateInit: an init method is sent to `self` or `super` in a method of objects that isn't of init (ARC, "Semantics of init"); at the first part of the selector
abbrev pub rule_63 : UnitTree → Enclosing → Node → Option ℕ
rule_63 u m (Value a) = sends (is_delegated u m) a
rule_63 u m _ = None

-- whether a class is another one, or above it
abbrev pub is_above : UnitTree → (class other : Option ℕ) → Bool
is_above u class other = option_map_or (λ c. list_any (λ a. nat_eq a c) (ancestry (superclasses u.interfaces) other)) class false

-- whether one of two classes, by their names, is the other one, or above it
abbrev pub are_related : UnitTree → (name other : List ℕ) → Bool
are_related u name other =
    let a = class_number u.interfaces name in
    let b = class_number u.interfaces other in
    is_above u a b || is_above u b a

-- whether an object of a type may be given by an init method of the class with a name: `id`, `instancetype`, or a reference to a class that is related to it
abbrev pub may_be_given : UnitTree → (class : List ℕ) → ResultTree → Bool
may_be_given u class (t.Value (t.Object at name)) = are_related u class name
may_be_given u class _ = true

-- 66 InitResult: an init method that gives an object of another class, at its `-` (ARC, "Method families")
abbrev pub is_wrong_init : UnitTree → (class : List ℕ) → HeadTree → Bool
is_wrong_init u class h = is_init (head_family h) && not (may_be_given u class h.result)

abbrev pub rule_66 : UnitTree → Enclosing → Node → Option ℕ
rule_66 u (InInterface class) (Declared h) = at_if (is_wrong_init u class h) h.at
rule_66 u (InMethod class own) (Defined h) = at_if (is_wrong_init u class h) h.at
rule_66 u _ _ = None

-- whether these qualifiers can't stand of a variable of a kind: more than one, or one of what holds no object (ARC, "Ownership qualification", which allows some of these)
abbrev pub is_misqualified : Qualifiers → Kind → Bool
is_misqualified qualifiers.Unqualified kind = false
is_misqualified (qualifiers.Qualified q) kind = not (is_object kind)
is_misqualified qualifiers.Several kind = true

-- the first of some parameters that has such qualifiers
abbrev pub misqualified_among : List ParameterTree → Option ℕ
misqualified_among [] = None
misqualified_among (p ∷ others) = if is_misqualified p.qualifiers (type_kind p.type) then Some p.at else misqualified_among others

-- 67 Qualifier: a variable, a field or a parameter that has such qualifiers, at its name (this project's own choice)
abbrev pub rule_67 : Node → Option ℕ
rule_67 (Variable before type v) = at_if (is_misqualified (both_qualifiers before v.qualifiers) (type_kind type)) v.at
rule_67 (Global g) = at_if (is_misqualified g.qualifiers (type_kind g.type)) g.at
rule_67 (Field f) = at_if (is_misqualified f.qualifiers (type_kind f.type)) f.at
rule_67 (Function f) = misqualified_among (named_parameters f.parameters)
rule_67 n = option_and_then (λ h. misqualified_among h.parameters) (method_at n)

-- the rules that are broken at a site
abbrev pub violations : UnitTree → Enclosing → Node → List Violation
violations u m n = violates 47 (rule_47 m n) ++ (violates 60 (rule_60 n) ++ (violates 61 (rule_61 n) ++ (violates 62 (rule_62 n) ++ (violates 63 (rule_63 u m n)
    ++ (violates 66 (rule_66 u m n) ++ violates 67 (rule_67 n))))))

-- all that breaks the rules of ownership in a source
abbrev pub broken : UnitTree → List Violation
broken u = violations_of (violations u) (unit_sites u)
