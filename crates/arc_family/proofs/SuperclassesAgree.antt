-- The superclasses of the classes that a running program knows are those of the source.
use Rattle.std.proofs.Common.{◌≡◌, ℕ, suc, List, [], ◌∷◌, map, None, refl, ap}
use Rattle.arc_ast.specs.Tree.{InterfaceTree, UnitTree}
use Rattle.arc_spec.specs.Classes as spec
use Rattle.arc_class.specs.Classes.{class_number, superclasses}
use Rattle.arc_class.specs.RuntimeClasses.{classes, classes_from}

superclasses_from : (u : UnitTree) (number : ℕ) (all : List InterfaceTree)
    → map spec.superclass_of (classes_from u number all) ≡ map (λ i. class_number u.interfaces i.superclass) all
superclasses_from u number [] = refl
superclasses_from u number (i ∷ others) = ap (λ rest. class_number u.interfaces i.superclass ∷ rest) (superclasses_from u (suc number) others)

pub same_superclasses : (u : UnitTree) → spec.superclasses (classes u) ≡ superclasses u.interfaces
same_superclasses u = ap (λ rest. None ∷ rest) (superclasses_from u 1 u.interfaces)
