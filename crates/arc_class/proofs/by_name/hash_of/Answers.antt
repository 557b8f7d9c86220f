use Rattle.std.proofs.Common.{rules}
use Rattle.arc_class.specs.NameMaps.{name_hash}
use Rattle.arc_class.proofs.by_name.hash_of.Goals as goal

pub returns : goal.returns
unfolding name_hash
returns c = search rules
