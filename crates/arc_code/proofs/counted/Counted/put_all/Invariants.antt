use Rattle.std.proofs.Common.{◌≡◌, ◌-◌, ◌≤◌, length, take}
use Rattle.std.specs.Io.KnownBytes.{Appends}
use Rattle.arc_code.specs.Attempts.{Took}
use Rattle.arc_code.proofs.counted.Counted.put_all.Given as goal

abbrev pub invariant-loop-written : goal.invariant-loop-written
invariant-loop-written g l = record {
  within : l.written ≤ length l.bytes;
  failures : l.self.failures ≡ l.fn.self.failures;
  end : l.self.at_end ≡ l.fn.self.at_end;
  appends : Appends (g.W.Output.contents l.fn.self.inner) (g.W.Output.contents l.self.inner) (take l.written l.bytes);
  took : Took g.W.Output.writes l.bytes l.fn.self.inner l.written l.self.inner;
}

abbrev pub decreases-loop-written : goal.decreases-loop-written
decreases-loop-written g l = length l.bytes - l.written
