-- What the functions that write statements are given, and the actions that they write.
use Rattle.std.specs.Prelude.{ℕ, ◌+◌, ◌-◌, Bool, false, if◌then◌else◌, List, [], ◌∷◌, ◌++◌, length, reverse, slice_set, Some}
use Rattle.arc_ast.specs.declared.tree.Moment.{Moment}
use Rattle.arc_ast.specs.declared.tree.Moment.TheVariants.{Before, After}
use Rattle.arc_spec.specs.Resolved.{Command, Program}
use Rattle.arc_code.specs.declared.instr.Instr.TheVariants.{Jump, JumpZero}
use Rattle.arc_ir.specs.declared.action.Target.TheVariants.{Skip, Back}
use Rattle.arc_lower.specs.declared.frame.Turn.{Turn}
use Rattle.arc_lower.specs.declared.frame.Scope.{Scope}
use Rattle.arc_lower.specs.declared.frame.Body.{Body}
use Rattle.arc_lower.specs.PlainActions.{PlainAction}
use Rattle.arc_lower.specs.Lowered.{Surroundings, command_actions}
use Rattle.arc_lower.specs.Size.{does_nothing}

-- where a statement of a body stands, within these scopes, of which the last one is the innermost
abbrev pub surroundings : Body → (scopes : List Scope) → Surroundings
surroundings b scopes = record { exit = b.exit; turn = b.turn; scopes = reverse scopes }

-- whether a loop begins with what comes first: its step, which does nothing, and its test
abbrev pub begins_first : Moment → (without_step : Bool) → Bool
begins_first Before without_step = without_step
begins_first After without_step = false

-- where a loop's turn begins whose first actions stand here: after the jump to where the loop begins, where there is one
abbrev pub step_begin : Moment → (here : ℕ) → Command → ℕ
step_begin moment here step = if begins_first moment (does_nothing step) then here else here + 1

-- a loop's step, where it has one
abbrev pub own_step : (P : Program) → Body → (scopes : List Scope) → (here : ℕ) → Command → List PlainAction
own_step P b scopes here step = if does_nothing step then [] else command_actions P b.slots b.names here (surroundings b scopes) step

-- that jump, which goes over the step, and the step
abbrev pub step_actions : Moment → (P : Program) → Body → (scopes : List Scope) → (here : ℕ) → Command → List PlainAction
step_actions moment P b scopes here step =
    let steps = own_step P b scopes (here + 1) step in
    if begins_first moment (does_nothing step) then [] else Jump (Skip (length steps)) ∷ steps

-- the body of a loop with this turn, which stands here
abbrev pub turn_actions_of : (P : Program) → Body → Turn → (here : ℕ) → Command → List PlainAction
turn_actions_of P b turn here body = command_actions P b.slots b.names here (record { exit = b.exit; turn = Some turn; scopes = [] }) body

-- after these actions the body of a loop, and the jump back to where its turn begins; what leaves the loop goes over them
abbrev pub with_turn : (before : List PlainAction) → Turn → (body : List PlainAction) → List PlainAction
with_turn before turn body =
    let again = length before + length body in
    slice_set (before ++ (body ++ Jump (Back (again - turn.begin)) ∷ [])) turn.out (JumpZero (Skip (again - turn.out)))

-- these actions, where the one at `enter` goes to the body of a loop that begins with that: over all up to the one at `out`
abbrev pub with_entry : Moment → (enter out : ℕ) → List PlainAction → List PlainAction
with_entry Before enter out all = all
with_entry After enter out all = slice_set all enter (Jump (Skip (out - enter)))
