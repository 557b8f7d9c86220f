use Rattle.std.proofs.Common.{◌≡◌, ◌≤◌, ◌+◌, drop, length}
use Rattle.std.specs.List.{filter}
use Rattle.arc_ast.specs.Tree.{global_trees}
use Rattle.arc_resolve.specs.SourceResolution.{names_objects}
use Rattle.arc_resolve.proofs.global.strong_globals.Given as goal

-- those so far and those of the rest are all
abbrev pub invariant-loop-global : goal.invariant-loop-global
invariant-loop-global l = record {
  all : length (filter names_objects (global_trees l.globals)) ≡ l.count + length (filter names_objects (global_trees (drop l.global-index l.globals)));
  few : l.count ≤ l.global-index;
}
