-- The function that is being lowered, without where it lies in memory.
use Rattle.arc_checked.specs.Checked.{commands}
use Rattle.arc_spec.specs.Resolved.{Function}
use Rattle.arc_lower.specs.declared.list.Definition.{Definition}

abbrev pub function_of : Definition → Function
function_of f =
    record { slots = f.slots; names = f.names; parameters = f.parameters; gives = f.gives; owns = f.owns; body = commands f.body.now }
