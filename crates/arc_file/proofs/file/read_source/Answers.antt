use Rattle.std.proofs.Common.{arith}
use Rattle.arc_file.proofs.file.read_source.Goals as goal

pub returns-in-Ok-read : goal.returns-in-Ok-read
returns-in-Ok-read g c = omega (arith, c.truncate.ensures.len)
