-- Classes as a running program knows them, which is this project's own choice.
use Rattle.std.specs.Prelude.{ℕ, suc, ◌+◌, List, [], ◌∷◌, ◌++◌, length, Option, Some, None, option_and_then, unwrap_or, if◌then◌else◌}
use Rattle.std.specs.Option.{option_map_or}
use Rattle.std.specs.Str.{bytes_eq}
use Rattle.arc_ast.specs.Tree.{HeadTree, MethodTree, InterfaceTree, ImplementationTree, UnitTree}
use Rattle.arc_spec.specs.declared.class.Method.{Method}
use Rattle.arc_spec.specs.Classes.{Class, gives_of}
use Rattle.arc_class.specs.Classes.{class_number, result_of, selectors, number_among, is_dealloc, bodies}
use Rattle.arc_spec.specs.declared.sort_counts.SortCounts.{SortCounts}
use Rattle.arc_class.specs.Fields.{fields, sorts_of_fields}
use Rattle.arc_class.specs.FunctionNames.{parameter_kinds}
use Rattle.arc_spec.specs.Sorts.{none_counted, counts, counts_of_kinds}

-- a method that runs this function, where selectors have these names
abbrev pub method_made : (selectors : List (List ℕ)) → (runs : ℕ) → HeadTree → Method
method_made selectors runs h =
    let passed = counts_of_kinds (parameter_kinds h.parameters) in
    record { sign = h.sign; selector = unwrap_or (number_among selectors h.selector) 0; takes = passed.numbers; objects = passed.objects; gives = gives_of (result_of h); runs = runs }

-- methods and one more, unless it ends objects
abbrev pub with_method : (selectors : List (List ℕ)) → (runs : ℕ) → HeadTree → List Method → List Method
with_method selectors runs h all = if is_dealloc h then all else all ++ method_made selectors runs h ∷ []

-- methods with the functions that they run, of which the first has this number; one that ends objects isn't sent as a message
abbrev pub methods_from : UnitTree → (first : ℕ) → List MethodTree → List Method
methods_from u first [] = []
methods_from u first (m ∷ others) =
    if is_dealloc m.head then methods_from u (suc first) others
    else method_made (selectors u) first m.head ∷ methods_from u (suc first) others

-- the function that the first of them runs that ends objects
abbrev pub dealloc_from : (first : ℕ) → List MethodTree → Option ℕ
dealloc_from first [] = None
dealloc_from first (m ∷ others) = if is_dealloc m.head then Some first else dealloc_from (suc first) others

-- the first implementation with a name, and the number of the function that its first method runs, where the first of all methods runs this one
abbrev pub implemented : (first : ℕ) → List ImplementationTree → List ℕ → Option (ℕ × ImplementationTree)
implemented first [] name = None
implemented first (i ∷ others) name = if bytes_eq name i.name then Some (first, i) else implemented (first + length i.methods) others name

abbrev pub implementation_of : UnitTree → InterfaceTree → Option (ℕ × ImplementationTree)
implementation_of u i = implemented (bodies u.functions) u.implementations i.name

-- a class whose objects have so many fields of each sort
abbrev pub class_with : UnitTree → SortCounts → InterfaceTree → Class
class_with u fields i = record {
  superclass = class_number u.interfaces i.superclass;
  methods = option_map_or (λ p. methods_from u p.0 (p.1).methods) (implementation_of u i) [];
  dealloc = option_and_then (λ p. dealloc_from p.0 (p.1).methods) (implementation_of u i);
  fields = fields;
}

abbrev pub class_of : UnitTree → (number : ℕ) → InterfaceTree → Class
class_of u number i = class_with u (counts (sorts_of_fields (fields u number))) i

-- the classes of these interfaces, of which the first has this number
abbrev pub classes_from : UnitTree → (number : ℕ) → List InterfaceTree → List Class
classes_from u number [] = []
classes_from u number (i ∷ others) = class_of u number i ∷ classes_from u (suc number) others

-- The classes of a source as a running program knows them: the root, and then those of the interfaces.
abbrev pub classes : UnitTree → List Class
classes u = record { superclass = None; methods = []; dealloc = None; fields = none_counted } ∷ classes_from u 1 u.interfaces
