-- The numbers and the names of faulty devices, which are this project's own choice.
use Rattle.std.specs.Prelude.{ℕ, List, codes}
use Rattle.arc_code.specs.declared.code.IoFault.{IoFault}
use Rattle.arc_code.specs.declared.code.IoFault.TheVariants.{Read, Write}

abbrev pub report : IoFault → ℕ × List ℕ
report Read = (91, codes "Read")
report Write = (92, codes "Write")
