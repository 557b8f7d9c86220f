-- When code does what a source means.
use Rattle.std.specs.Prelude.{◌≡◌, ℕ, List, ◌∷◌, length, map, codes, Vec}
use Rattle.std.specs.Global.{Global}
use Rattle.arc_ast.specs.Tree.{UnitTree}
use Rattle.arc_source.specs.Accepted.{Accepted, meant, program_meant}
use Rattle.arc_spec.specs.Correctness.{Behaves, Steady}
use Rattle.arc_code.specs.CodeSteps.{Program, seen, IsSound}
use Rattle.arc_lower.specs.Size.{program_size}
use Rattle.arc_tool.specs.RefusalStages.{IsSmall}

-- The source is a program that isn't too large, and the code has an instruction for each of its actions. It does what the source means, on each input, and is
-- never without what it needs.
pub record Compiles (source : List ℕ) (code : Program) : Type 0 where
  pub program : Accepted source
  pub small : IsSmall (program_meant program)
  pub counted : length code.instrs ≡ program_size (program_meant program)
  pub behaves : Behaves (meant program) (seen code)
  pub steady : Steady (seen code)
  pub sound : IsSound code

-- the names of the classes of a source, in the order of their numbers: the root's, which is built in, and then those of the interfaces
abbrev pub class_names : UnitTree → List (List ℕ)
class_names u = codes "NSObject" ∷ map (λ i. i.name) u.interfaces

-- a name, without where it lies in memory
abbrev pub bytes_of_name : Vec ℕ Global → List ℕ
bytes_of_name name = name.items

-- the same code, and the names of the source's classes
pub record CompilesNamed (source : List ℕ) (code : Program) (names : List (List ℕ)) : Type 0 where
  pub compiled : Compiles source code
  pub named : names ≡ class_names compiled.program.tree
