-- The numbers and the names of faults, which are this project's own choice.
use Rattle.std.specs.Prelude.{ℕ, List, codes}
use Rattle.arc_spec.specs.declared.event.Fault.{Fault}
use Rattle.arc_spec.specs.declared.event.Fault.TheVariants.{Arithmetic, Unrecognized, NilField, FieldClass, Depth, Resurrected}

-- the number of each fault of a program that runs, and its name
abbrev pub report : Fault → ℕ × List ℕ
report Arithmetic = (81, codes "Arithmetic")
report Unrecognized = (82, codes "Unrecognized")
report NilField = (83, codes "NilField")
report FieldClass = (84, codes "FieldClass")
report Depth = (85, codes "Depth")
report Resurrected = (86, codes "Resurrected")
