-- A program that the checks of functions and methods let pass.
use Rattle.std.specs.Prelude.{◌≡◌, ℕ, List, []}
use Rattle.arc_ast.specs.Tree.{unit_tree}
use Rattle.arc_class.specs.ClassRules.{broken}
use Rattle.arc_checked.specs.declared.program.Checked.{Checked}
use Rattle.arc_checked.specs.Checked.{program_of}
use Rattle.arc_judge.specs.Rules.{broken_unit}
use Rattle.arc_resolve.specs.SourceResolution.{resolved_unit}
use Rattle.arc_source.specs.Accepted.{Spelled}

-- The source spells the tree of the program, which breaks no rule that is known before those of ownership, and the program is the tree with its names resolved.
pub record IsChecked (source : List ℕ) (program : Checked) : Type 0 where
  pub spelled : Spelled source (unit_tree program.unit.now)
  pub declared : broken (unit_tree program.unit.now) ≡ []
  pub checked : broken_unit (unit_tree program.unit.now) ≡ []
  pub resolved : program_of program ≡ resolved_unit (unit_tree program.unit.now)
