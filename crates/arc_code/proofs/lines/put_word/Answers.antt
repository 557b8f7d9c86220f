use Rattle.std.proofs.Common.{[], ◌∷◌}
use Rattle.arc_code.proofs.WritesCompose.{answered, wider}
use Rattle.arc_code.proofs.lines.put_word.Goals as goal

pub returns-in_err-put : goal.returns-in_err-put
returns-in_err-put g c = answered _ _ _ _ _ _ _ _ c.from_residual.ensures.1 (wider _ _ _ _ _ _ (32 ∷ []) _ c.in_err-put.ensures)
