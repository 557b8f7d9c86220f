use Rattle.std.proofs.Common.{◌≤◌}
use Rattle.std.specs.Io.KnownBytes.{Keeps}
use Rattle.arc_code.specs.declared.counted.TheConstants.{RETRIES}
use Rattle.arc_code.specs.Attempts.{Interruptions}
use Rattle.arc_code.proofs.counted.try_read.Given as goal

abbrev pub invariant-loop : goal.invariant-loop
invariant-loop g l = record {
  few : l.counter ≤ RETRIES;
  interruptions : Interruptions g.R.Input.reads l.counter l.fn.device l.device;
  bytes : Keeps (g.R.Input.remaining l.fn.device) (g.R.Input.remaining l.device);
}
