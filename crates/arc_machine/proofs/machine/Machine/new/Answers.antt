use Rattle.std.proofs.Common.{sym, subst}
use Rattle.arc_code.specs.CodeSteps.{program_of}
use Rattle.arc_steps.specs.Views.{Seen, StaysSound}
use Rattle.arc_machine.proofs.StartRepresented.{fresh_sound}
use Rattle.arc_machine.proofs.machine.Machine.new.Goals as goal

pub invariant_of-result : goal.invariant_of-result
invariant_of-result g c = subst (λ (m : Seen g.row.S.Denot). StaysSound g.S.Store.out m) (sym c.in_ok-new.ensures) (fresh_sound g.S.Store.out (program_of c.args.code) c.args.store c.requires)
