use Rattle.arc_class.proofs.TablePartsGrow.{root_is}
use Rattle.arc_class.proofs.building.root_entry.Goals as goal

pub returns : goal.returns
returns c names = root_is names c.new.result c.new.ensures
