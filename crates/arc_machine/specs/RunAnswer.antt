-- What a run answers, by the answer of its machine: an end, a fault, its steps used, no block, or the fault of a device.
use Rattle.std.specs.Prelude.{Result, Ok, Err}
use Rattle.arc_code.specs.declared.code.IoFault.{IoFault}
use Rattle.arc_steps.specs.declared.answer.Answer.{Answer}
use Rattle.arc_steps.specs.declared.answer.Answer.TheVariants as answer
use Rattle.arc_machine.specs.declared.stop.Stop.{Stop}
use Rattle.arc_machine.specs.declared.stop.Stop.TheVariants as stop

-- what a run answers
abbrev pub said : Answer → Result Stop IoFault
said answer.Going = Ok stop.StepsUsed
said (answer.Ended n) = Ok (stop.Ended n)
said (answer.Faulted f) = Ok (stop.Fault f)
said (answer.Broken f) = Err f
said answer.NoHeap = Ok stop.NoHeap
