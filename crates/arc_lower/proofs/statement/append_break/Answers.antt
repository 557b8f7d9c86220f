use Rattle.std.proofs.Common.{reverse, append_assoc, refl, Some, None}
use Rattle.arc_lower.specs.Lowered.{Quit, nothing_given}
use Rattle.arc_lower.proofs.JumpPatching.{scopes_flat}
use Rattle.arc_lower.proofs.statement.append_break.Goals as goal

pub returns-in-Some : goal.returns-in-Some
returns-in-Some c = λ P here.
    let b = c.args.body in
    rw (c.in-Some.is, scopes_flat P b.slots b.names here (Some c.in-Some.turn) (reverse c.args.scopes.now) Quit _ (λ n. refl))
    (simp (c.in_ok-append.ensures, c.in_ok-append_clears.ensures, append_assoc) at c.append-in-Some.ensures)

pub returns-in-None : goal.returns-in-None
returns-in-None c = λ P here.
    let b = c.args.body in
    rw (c.in-None.is, scopes_flat P b.slots b.names here None (reverse c.args.scopes.now) (nothing_given b.exit) _ (λ n. refl))
    (simp (c.in_ok-append.ensures, c.in_ok-append_clears.ensures, append_assoc) at c.append_exit.ensures)
