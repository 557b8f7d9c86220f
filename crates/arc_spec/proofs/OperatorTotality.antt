-- An operator that faults for no numbers has an answer for all.
use Rattle.std.proofs.Common.{◌≡◌, ℤ, false, None}
use Rattle.arc_ast.specs.declared.tree.Kind.{Kind}
use Rattle.arc_ast.specs.declared.tree.BinaryOperator.{BinaryOperator}
use Rattle.arc_ast.specs.declared.tree.BinaryOperator.TheVariants as o
use Rattle.arc_spec.specs.Number.{combined, may_fault}

pub answers : (operator : BinaryOperator) (kind : Kind) (x y : ℤ) → may_fault operator ≡ false → combined operator kind x y ≡ None → ⊥
answers o.Divide kind x y p e = cc
answers o.Remainder kind x y p e = cc
answers _ kind x y p e = cc
