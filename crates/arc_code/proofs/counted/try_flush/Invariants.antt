use Rattle.std.proofs.Common.{◌≤◌}
use Rattle.std.specs.Io.KnownBytes.{Keeps}
use Rattle.arc_code.specs.declared.counted.TheConstants.{RETRIES}
use Rattle.arc_code.specs.Attempts.{Interruptions}
use Rattle.arc_code.proofs.counted.try_flush.Given as goal

abbrev pub invariant-loop : goal.invariant-loop
invariant-loop g l = record {
  few : l.counter ≤ RETRIES;
  interruptions : Interruptions g.W.Output.flushes l.counter l.fn.device l.device;
  bytes : Keeps (g.W.Output.contents l.fn.device) (g.W.Output.contents l.device);
}
