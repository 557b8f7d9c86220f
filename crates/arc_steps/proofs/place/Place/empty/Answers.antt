use Rattle.std.proofs.Common.{arith}
use Rattle.arc_code.specs.declared.instr.Instr.TheVariants.{Empty}
use Rattle.arc_code.specs.CodeSteps.{program_of}
use Rattle.arc_steps.specs.Places.{machine_view}
use Rattle.arc_steps.proofs.VariableStoreSimulation.{empty_puts, ready_put, put_turn_went}
use Rattle.arc_steps.proofs.place.Place.empty.Goals as goal

pub put-requires-clause-can : goal.put-requires-clause-can
put-requires-clause-can g c = ready_put g.S.Store.out (program_of c.args.code.now) (machine_view c.args.self.now c.args.objects.now) c.args.variable (Empty c.args.variable) 0 (empty_puts g.S.Store.out (program_of c.args.code.now) (machine_view c.args.self.now c.args.objects.now) c.args.variable) c.requires.ready (λ above. absurd (omega (arith, above)))

pub returns-clause-went : goal.returns-clause-went
returns-clause-went g c = put_turn_went g.S.Store.out (program_of c.args.code.now) (machine_view c.args.self.now c.args.objects.now) c.args.variable (Empty c.args.variable) 0 (empty_puts g.S.Store.out (program_of c.args.code.now) (machine_view c.args.self.now c.args.objects.now) c.args.variable) _ _ (machine_view c.put.new.self c.put.new.objects) c.put.ensures.turn
