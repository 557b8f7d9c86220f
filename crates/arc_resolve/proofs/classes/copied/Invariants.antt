use Rattle.std.proofs.Common.{◌≡◌, ◌++◌, drop}
use Rattle.arc_spec.specs.Classes.{classes_of}
use Rattle.arc_resolve.proofs.classes.copied.Given as goal

-- the copies so far and the rest are all
abbrev pub invariant-loop-class : goal.invariant-loop-class
invariant-loop-class l = classes_of l.given ≡ classes_of l.all.items ++ classes_of (drop l.class-index l.given)
