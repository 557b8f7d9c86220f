use Rattle.std.proofs.Common.{◌≡◌, ◌++◌, drop}
use Rattle.arc_spec.specs.Classes.{classes_of}
use Rattle.arc_emit.proofs.classes.copy_classes.Given as goal

abbrev pub invariant-loop-class : goal.invariant-loop-class
invariant-loop-class l = classes_of l.copies.items ++ classes_of (drop l.class-index l.classes) ≡ classes_of l.classes
