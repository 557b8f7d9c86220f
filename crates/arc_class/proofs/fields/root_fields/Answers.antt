use Rattle.arc_class.proofs.FieldLists.{root_is}
use Rattle.arc_class.proofs.fields.root_fields.Goals as goal

pub returns : goal.returns
returns c = root_is c.new.result c.new-2.result c.none.result c.new.ensures c.new-2.ensures c.none.ensures
