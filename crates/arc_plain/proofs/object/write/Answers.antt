use Rattle.std.proofs.Common.{sym, arith}
use Rattle.std.proofs.lemmas.List.{set_past}
use Rattle.arc_plain.proofs.object.write.Goals as goal

pub returns-then-index-count : goal.returns-then-index-count
returns-then-index-count c = sym (set_past c.args.fields.now c.args.index c.args.value (omega arith))
