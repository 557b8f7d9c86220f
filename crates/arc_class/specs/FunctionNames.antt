-- Functions by their names.
use Rattle.std.specs.Prelude.{ℕ, suc, Bool, true, false, ◌&&◌, List, [], ◌∷◌, length, map, Option, Some, None, is_some, option_map, codes, if◌then◌else◌}
use Rattle.std.specs.List.{find}
use Rattle.std.specs.Option.{option_map_or}
use Rattle.std.specs.Str.{bytes_eq}
use Rattle.arc_ast.specs.declared.tree.Kind.{Kind}
use Rattle.arc_ast.specs.declared.tree.Kind.TheVariants as k
use Rattle.arc_ast.specs.Types.{type_kind, result_kind}
use Rattle.arc_ast.specs.Tree.{FunctionTree, ParameterTree, ParametersTree, Listed, CountAndTexts}
use Rattle.arc_sites.specs.Sites.{named_parameters}
use Rattle.arc_class.specs.declared.table.Signature.{Signature}
use Rattle.arc_class.specs.declared.table.Declared.{Declared}

abbrev pub has_body : FunctionTree → Bool
has_body f = is_some f.body

-- how many parameters a function has that are listed, and none for a count and texts
abbrev pub takes : ParametersTree → Option ℕ
takes (Listed all) = Some (length all)
takes CountAndTexts = None

-- what the declarations of a function have to agree in (C99, section 6.7.5.3)
abbrev pub signature : FunctionTree → Signature
signature f = record { result = result_kind f.result; takes = takes f.parameters }

abbrev pub is_named : List ℕ → FunctionTree → Bool
is_named name f = bytes_eq name f.name

-- the first function with a name
abbrev pub first_named : List ℕ → List FunctionTree → Option FunctionTree
first_named name functions = find (is_named name) functions

-- the number of the first function that has a body and passes a test, counted from 0 among those with a body
abbrev pub number_of : (FunctionTree → Bool) → List FunctionTree → Option ℕ
number_of test [] = None
number_of test (f ∷ others) =
    if has_body f then (if test f then Some 0 else option_map (λ n. suc n) (number_of test others)) else number_of test others

-- what is known of a name: the signature of the first function with it, and the number of the first one with a body
abbrev pub known : List FunctionTree → List ℕ → Option Declared
known functions name = option_map (λ f. record { signature = signature f; body = number_of (is_named name) functions }) (first_named name functions)

-- the kinds of parameters, in their order
abbrev pub parameter_kinds : List ParameterTree → List Kind
parameter_kinds = map (λ p. type_kind p.type)

-- the kinds of the parameters that a function lists
abbrev pub listed_kinds : FunctionTree → List Kind
listed_kinds f = parameter_kinds (named_parameters f.parameters)

-- the kinds of the parameters of the functions of a name, of which all have those of the first
abbrev pub kinds_of_parameters : List FunctionTree → List ℕ → List Kind
kinds_of_parameters functions name = option_map_or listed_kinds (first_named name functions) []

abbrev pub is_int : Kind → Bool
is_int k.Int = true
is_int _ = false

-- by how many parameters are listed: none, or a count and texts
abbrev pub starts_program : Option ℕ → Bool
starts_program (Some (suc n)) = false
starts_program _ = true

-- The function that a program begins with gives an int, and takes nothing or a count and the arguments' texts (C99, section 5.1.2.2.1).
abbrev pub is_main : FunctionTree → Bool
is_main f = is_named (codes "main") f && (is_int (result_kind f.result) && starts_program (takes f.parameters))
