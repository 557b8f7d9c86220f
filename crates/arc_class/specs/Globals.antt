-- The variables of the whole program by their names.
use Rattle.std.specs.Prelude.{ℕ, Bool, false, nat_lt, List, [], ◌∷◌, Option, Some, None, if◌then◌else◌}
use Rattle.std.specs.Option.{option_map_or}
use Rattle.std.specs.Str.{bytes_eq}
use Rattle.arc_ast.specs.Tree.{GlobalTree, InterfaceTree}
use Rattle.arc_ast.specs.Types.{type_kind}
use Rattle.arc_spec.specs.declared.sort_counts.SortCounts.{SortCounts}
use Rattle.arc_class.specs.declared.table.Variable.{Variable}
use Rattle.arc_class.specs.Classes.{type_class}
use Rattle.arc_spec.specs.Sorts.{held_by, none_counted, next_of, with_one}

-- a variable after so many of each sort, where classes have these interfaces
abbrev pub variable_after : List InterfaceTree → (before : SortCounts) → GlobalTree → Variable
variable_after interfaces before g = record { number = next_of (held_by (type_kind g.type)) before; kind = type_kind g.type; class = type_class interfaces g.type; at = g.at }

-- the first variable with a name, where so many of each sort come before these
abbrev pub variables : List InterfaceTree → (before : SortCounts) → List GlobalTree → List ℕ → Option Variable
variables interfaces before [] name = None
variables interfaces before (g ∷ others) name =
    if bytes_eq name g.name then Some (variable_after interfaces before g) else variables interfaces (with_one (held_by (type_kind g.type)) before) others name

-- the same of all variables of a source
abbrev pub known_global : List InterfaceTree → List GlobalTree → List ℕ → Option Variable
known_global interfaces = variables interfaces none_counted

-- whether a variable is there, and stands before a place
abbrev pub variable_before : Option Variable → ℕ → Bool
variable_before v at = option_map_or (λ v. nat_lt v.at at) v false
