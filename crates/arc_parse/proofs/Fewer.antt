-- What is left of the tokens after a call that is returned as it is.
use Rattle.std.proofs.Common.{Result, Ok, Err}
use Rattle.std.specs.Result.{IfOk}

-- what holds before a call that takes none
pub as_before : {X E : Type 0} (r : Result X E) (P : Type 0) → P → IfOk r (λ _. P)
as_before (Ok x) P p = p
as_before (Err e) P p = tt
