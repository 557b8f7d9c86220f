use Rattle.arc_resolve.proofs.resolution.field.Goals as goal

pub returns-in-Some : goal.returns-in-Some
returns-in-Some c = rw c.in-Some.is c.read_field.ensures
