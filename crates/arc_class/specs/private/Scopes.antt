-- The names that stand in a scope, as tests.
use Rattle.std.specs.Prelude.{ℕ, Bool, false, ◌||◌, List, [], ◌∷◌, is_some}
use Rattle.std.specs.Str.{bytes_eq}
use Rattle.arc_ast.specs.Tree.{VariableTree}
use Rattle.arc_class.specs.NameMaps.{Named}
use Rattle.arc_class.specs.Lookups.{at_name}

-- no name, and one more
abbrev pub no_name : List ℕ → Bool
no_name name = false

abbrev pub and_name : List ℕ → (List ℕ → Bool) → List ℕ → Bool
and_name one names name = bytes_eq one name || names name

-- those of some variables too
abbrev pub names_with : (List ℕ → Bool) → List VariableTree → List ℕ → Bool
names_with names [] = names
names_with names (v ∷ others) = names_with (and_name v.name names) others

-- whether a name stands in a scope
abbrev pub holds : Named (Unit {0}) → List ℕ → Bool
holds scope name = is_some (at_name scope name)
