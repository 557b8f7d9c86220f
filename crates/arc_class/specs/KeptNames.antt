-- What maps keep of the names of a source.
use Rattle.std.specs.Prelude.{◌≡◌, ℕ, suc, Bool, false, nat_lt, List, [], ◌∷◌, Option, Some, None, option_map, if◌then◌else◌}
use Rattle.arc_class.specs.NameMaps.{Named}
use Rattle.std.specs.Borrow.{Bor}
use Rattle.std.specs.Str.{bytes_eq}
use Rattle.arc_ast.specs.declared.tree.Function.{Function}
use Rattle.arc_ast.specs.declared.tree.Sign.{Sign}
use Rattle.arc_ast.specs.Tree.{FunctionTree, HeadTree, InterfaceTree, ImplementationTree, UnitTree, function_tree, head_tree, implementation_tree}
use Rattle.arc_class.specs.declared.heads.Heads.{Heads}
use Rattle.arc_class.specs.declared.kept.Implemented.{Implemented}
use Rattle.arc_class.specs.declared.kept.Source.{Source}
use Rattle.arc_class.specs.declared.table.Place.{Place}
use Rattle.arc_class.specs.Classes.{first_head, bodies, declared, defined, function_count}
use Rattle.arc_class.specs.Globals.{known_global}
use Rattle.arc_class.specs.FunctionNames.{known, first_named}
use Rattle.arc_class.specs.RuntimeClasses.{implemented}
use Rattle.arc_class.specs.Lookups.{at_name, head_at}

-- a value at one name alone
abbrev pub one_at : {X : Type 0} → List ℕ → X → List ℕ → Option X
one_at name value sought = if bytes_eq sought name then Some value else None

-- the methods that maps keep for selectors
abbrev pub head_in : Heads → Sign → List ℕ → Option HeadTree
head_in kept sign selector = option_map (λ h. head_tree h.now) (head_at kept sign selector)

-- the functions that a map keeps for names
abbrev pub function_kept : Named (Bor Function) → List ℕ → Option FunctionTree
function_kept kept name = option_map (λ f. function_tree f.now) (at_name kept name)

-- the first interface with a name, where the first of all interfaces has this number
abbrev pub places : (number : ℕ) → List InterfaceTree → List ℕ → Option Place
places number [] name = None
places number (i ∷ others) name = if bytes_eq name i.name then Some (record { number = number; at = i.at }) else places (suc number) others name

abbrev pub place_before : Option Place → ℕ → Bool
place_before None at = false
place_before (Some place) at = nat_lt place.at at

-- the first implementation with a name, and the number of its first function
abbrev pub implemented_tree : Implemented → ℕ × ImplementationTree
implemented_tree m = (m.first, implementation_tree m.implementation.now)

abbrev pub implemented_in : Named Implemented → List ℕ → Option (ℕ × ImplementationTree)
implemented_in kept name = option_map implemented_tree (at_name kept name)

-- what is kept is so of a source
pub record Knows (u : UnitTree) (source : Source) : Type 0 where
  pub knows : (name : List ℕ) → at_name source.known name ≡ known u.functions name
  pub first_functions : (name : List ℕ) → function_kept source.functions name ≡ first_named name u.functions
  pub globals : (name : List ℕ) → at_name source.globals name ≡ known_global u.interfaces u.globals name
  pub class_places : (name : List ℕ) → at_name source.names name ≡ places 1 u.interfaces name
  pub implementations : (name : List ℕ) → implemented_in source.implemented name ≡ implemented (bodies u.functions) u.implementations name
  pub counts : source.function_count ≡ function_count u
  pub declared_heads : (sign : Sign) (selector : List ℕ) → head_in source.declared sign selector ≡ first_head sign selector (declared u.interfaces)
  pub defined_heads : (sign : Sign) (selector : List ℕ) → head_in source.defined sign selector ≡ first_head sign selector (defined u.implementations)
