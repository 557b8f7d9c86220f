use Rattle.std.proofs.Common.{◌≡◌, ◌-◌}
use Rattle.arc_class.specs.NumberMaps.{at_number}
use Rattle.arc_class.proofs.numbered.find.Given as goal

-- what the map has is found from the next part on
abbrev pub invariant-loop-level : goal.invariant-loop-level
invariant-loop-level l = at_number l.levels l.nodes l.fn.first l.fn.number ≡ at_number (l.levels - l._level) l.nodes l.at l.left
