-- Plain actions: actions of whose texts only the bytes are kept, and not where these lie in memory.
use Rattle.std.specs.Prelude.{ℕ, List, map}
use Rattle.arc_code.specs.declared.instr.Instr.{Instr}
use Rattle.arc_code.specs.InstructionRenaming.{renamed}
use Rattle.arc_ir.specs.declared.action.Target.{Target}
use Rattle.arc_ir.specs.ActionSteps.{Action}

-- an action, of whose text only the bytes are kept
abbrev pub PlainAction : Type 0
PlainAction = Instr Target ℕ (List ℕ)

abbrev pub plain_action : Action → PlainAction
plain_action = renamed (λ to. to) (λ f. f) (λ part. part.bytes.items)

abbrev pub plain_actions : List Action → List PlainAction
plain_actions actions = map plain_action actions
