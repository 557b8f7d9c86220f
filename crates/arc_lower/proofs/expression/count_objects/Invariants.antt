use Rattle.std.proofs.Common.{◌≡◌, ◌+◌, ◌≤◌, drop}
use Rattle.arc_checked.specs.Checked.{arguments}
use Rattle.arc_lower.specs.Size.{object_count}
use Rattle.arc_lower.proofs.expression.count_objects.Given as goal

abbrev pub invariant-loop-argument : goal.invariant-loop-argument
invariant-loop-argument l = record {
  few : l.count ≤ l.argument-index;
  counted : l.count + object_count (arguments (drop l.argument-index l.arguments)) ≡ object_count (arguments l.arguments);
}
