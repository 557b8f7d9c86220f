use Rattle.std.proofs.Common.{◌≡◌, ◌++◌, map, drop}
use Rattle.arc_spec.specs.declared.event.Event.TheVariants.{Byte}
use Rattle.arc_plain.proofs.progress.show.Given as goal

-- what is shown, and the bytes to come
abbrev pub invariant-loop-byte : goal.invariant-loop-byte
invariant-loop-byte l = l.trace.items ++ map Byte (drop l.byte-index l.bytes) ≡ l.initial.trace.items ++ map Byte l.bytes
