use Rattle.std.proofs.Common.{reverse, append_assoc, refl, Some, None}
use Rattle.arc_lower.specs.Lowered.{Advance, nothing_given}
use Rattle.arc_lower.proofs.JumpPatching.{scopes_flat}
use Rattle.arc_lower.proofs.statement.append_continue.Goals as goal

pub returns-in-Some : goal.returns-in-Some
returns-in-Some c = λ P here.
    let b = c.args.body in
    rw (c.in-Some.is, scopes_flat P b.slots b.names here (Some c.in-Some.turn) (reverse c.args.scopes.now) Advance _ (λ n. refl))
    (simp (c.in_ok-append_clears.ensures, append_assoc) at c.append.ensures)

pub returns-in_ok-append-in-None : goal.returns-in_ok-append-in-None
returns-in_ok-append-in-None c = λ P here.
    let b = c.args.body in
    rw (c.in-None.is, scopes_flat P b.slots b.names here None (reverse c.args.scopes.now) (nothing_given b.exit) _ (λ n. refl))
    (simp (c.in_ok-append-in-None.ensures, c.in_ok-append_clears.ensures, append_assoc) at c.append_exit.ensures)
