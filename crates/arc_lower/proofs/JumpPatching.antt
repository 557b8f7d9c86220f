-- Backpatching: a jump is written anew once it is known how many actions it skips.
use Rattle.std.proofs.Common.{◌≡◌, ℕ, suc, ◌-◌, List, [], ◌∷◌, ◌++◌, Box, Global, length, sym, ap, ◌∙◌, arith, append_assoc, length-append, slice_set, ◌+◌, Option, Bool, true, false, if◌then◌else◌}
use Rattle.std.proofs.Math.Seq.{set-append_seam}
use Rattle.arc_ast.specs.declared.tree.Moment.{Moment}
use Rattle.arc_ast.specs.declared.tree.Moment.TheVariants.{Before}
use Rattle.arc_ir.specs.declared.action.Target.TheVariants.{Skip, Back}
use Rattle.arc_code.specs.declared.instr.Instr.TheVariants.{Jump, JumpZero}
use Rattle.arc_checked.specs.declared.program.Command.{Command as CheckedCommand, While as CheckedRepeat}
use Rattle.arc_checked.specs.declared.program.Value.{Value as CheckedValue}
use Rattle.arc_checked.specs.Checked.{value, command}
use Rattle.arc_ir.specs.ActionSteps.{Action}
use Rattle.arc_lower.specs.PlainActions.{PlainAction, plain_action, plain_actions}
use Rattle.arc_spec.specs.Resolved.{Program, Value, Command, If, While}
use Rattle.arc_lower.specs.declared.frame.Turn.{Turn}
use Rattle.arc_lower.specs.declared.frame.Scope.{Scope}
use Rattle.arc_lower.specs.Lowered.{Block, Quit, Advance, past, flat, all_empty_actions, spot, within_scopes, scopes_actions, Surroundings, command_actions, Entry, AtBody, enter_actions, enter_size, turn_actions, Between, body_spot, Idle, Loop, full_expression_block, full_expression_actions, loop_block, command_block, breaking, continuing}
use Rattle.arc_lower.specs.Size.{does_nothing}
use Rattle.std.proofs.lemmas.List.{length-map}
use Rattle.arc_lower.specs.declared.frame.Body.{Body}
use Rattle.arc_lower.specs.private.StatementActions.{surroundings, begins_first, step_begin, own_step, step_actions, turn_actions_of, with_turn, with_entry}

-- the jump that was written first, before some others, is another one
pub patched : (o1 o2 rest : List PlainAction) (branch : ℕ) (first last : PlainAction) → o2 ≡ o1 ++ first ∷ rest → branch ≡ length o1 → slice_set o2 branch last ≡ o1 ++ last ∷ rest
patched o1 o2 rest branch first last e b = ap (λ l. slice_set l branch last) e ∙ ap (λ n. slice_set (o1 ++ first ∷ rest) n last) b ∙ set-append_seam o1 first rest last

-- the two jumps of a choice, once it is known how long its ways are
pub patch_fork : (old test one two : List PlainAction) (a1 a2 a3 a4 a5 : List Action) (branch skip other : ℕ) → plain_actions a1 ≡ old ++ test → branch ≡ length a1
    → plain_actions a2 ≡ plain_actions a1 ++ JumpZero (Skip 0) ∷ [] → plain_actions a3 ≡ plain_actions a2 ++ one → skip ≡ length a3
    → plain_actions a4 ≡ plain_actions a3 ++ Jump (Skip 0) ∷ [] → other ≡ length a4 → plain_actions a5 ≡ plain_actions a4 ++ two
    → slice_set (slice_set (plain_actions a5) branch (JumpZero (Skip (skip - branch)))) skip (Jump (Skip (length (plain_actions a5) - other)))
    ≡ old ++ (test ++ (JumpZero (Skip (suc (length one))) ∷ (one ++ Jump (Skip (length two)) ∷ two)))
patch_fork old test one two a1 a2 a3 a4 a5 branch skip other e1 b1 e2 e3 b3 e4 b4 e5 =
    let o1 = plain_actions a1 in
    let n1 = b1 ∙ sym (length-map a1 plain_action) in
    let l3 : skip ≡ length o1 + 1 + length one = omega (arith, b3, length-map a3 plain_action, ap length e2, ap length e3, length-append {A = PlainAction}) in
    let over : skip - branch ≡ suc (length one) = omega (arith, n1, l3) in
    let past : length (plain_actions a5) - other ≡ length two = omega (arith, b4, length-map a4 plain_action, ap length e5, length-append {A = PlainAction}) in
    let first : PlainAction = JumpZero (Skip (skip - branch)) in
    let tested = patched o1 _ (one ++ Jump (Skip 0) ∷ two) branch (JumpZero (Skip 0)) first (rw (e5, e4, e3, e2) (simp append_assoc)) n1 in
    let once = tested ∙ sym (append_assoc o1 (first ∷ one) _) in
    patched (o1 ++ first ∷ one) _ two skip (Jump (Skip 0)) _ once (omega (arith, l3, length-append {A = PlainAction})) ∙ rw (over, past, e1) (simp append_assoc)

-- ---- Where statements stand, and the actions of what leaves them.

pub past_spot : (n here : ℕ) (turn : Option Turn) → past n (spot here turn) ≡ spot (here + n) turn
past_spot n here turn = search arith

module _ (P : Program) (slots names : ℕ) where
  pub scopes_flat : (here : ℕ) (turn : Option Turn) (scopes : List Scope) (b : Block) (xs : List PlainAction) → ((n : ℕ) → flat P slots names (spot n turn) b ≡ xs) → flat P slots names (spot here turn) (within_scopes scopes b) ≡ scopes_actions names scopes ++ xs
  scopes_flat here turn [] b xs h = h here
  scopes_flat here turn (s ∷ others) b xs h =
      let cs = all_empty_actions names s.first s.count in
      simp (past_spot, scopes_flat (here + length cs) turn others b xs h, append_assoc)

-- ---- What the functions that write loops and choices write is what these are.

body_at : (n m here : ℕ) (turn : Option Turn) → body_spot n m (spot here turn) ≡ Between (here + n + m + 1) (record { begin = here; out = here + n + m })
body_at n m here turn = search arith

-- a test and the body after it, where the step is written
turn_written : (o1 o2 zs ts xs : List PlainAction) (begin out : ℕ) → o2 ≡ o1 ++ (ts ++ JumpZero (Skip 0) ∷ []) → out ≡ length o1 + length ts → length o1 ≡ begin + length zs
    → with_turn o2 (record { begin = begin; out = out }) xs ≡ o1 ++ (ts ++ (JumpZero (Skip (suc (length xs))) ∷ (xs ++ Jump (Back (suc (length zs + length ts + length xs))) ∷ [])))
turn_written o1 o2 zs ts xs begin out e2 eo eb =
    let open_jump : PlainAction = JumpZero (Skip 0) in
    let again = length o2 + length xs in
    let rest : List PlainAction = xs ++ Jump (Back (again - begin)) ∷ [] in
    let size : length o2 ≡ length o1 + length ts + 1 = omega (arith, ap length e2, length-append {A = PlainAction}) in
    let over : again - out ≡ suc (length xs) = omega (arith, size, eo) in
    let home : again - begin ≡ suc (length zs + length ts + length xs) = omega (arith, size, eb) in
    patched (o1 ++ ts) (o2 ++ rest) rest out open_jump (JumpZero (Skip (again - out))) (rw e2 (simp append_assoc)) (omega (arith, eo, length-append o1 ts))
    ∙ rw (over, home) (append_assoc o1 ts _)

module _ (P : Program) (slots names : ℕ) where
  abbrev at : ℕ → Option Turn → Block → List PlainAction
  at here turn b = flat P slots names (spot here turn) b

  -- the body of a loop with this turn, from this place on
  abbrev in_turn : (here begin out : ℕ) → Block → List PlainAction
  in_turn here begin out b = flat P slots names (Between here (record { begin = begin; out = out })) b

  loop_flat : (entry : Entry) (here : ℕ) (turn : Option Turn) (step : Block) (test : Value) (body : Block)
      → let begin = here + enter_size entry in
      let zs = at begin turn step in
      let ts = full_expression_actions P slots names test in
      let out = begin + length zs + length ts in
      at here turn (Loop entry step (full_expression_block test) body) ≡ enter_actions entry (length zs) (length ts) ++ turn_actions zs ts (in_turn (out + 1) begin out body)
  loop_flat entry here turn step test body = simp (past_spot, body_at)

module _ (P : Program) (b : Body) (scopes : List Scope) where
  abbrev around : Surroundings
  around = surroundings b scopes

  abbrev of_command : (here : ℕ) → Command → List PlainAction
  of_command here c = command_actions P b.slots b.names here around c

  abbrev tests : Value → List PlainAction
  tests test = full_expression_actions P b.slots b.names test

  abbrev body_of : Command → Block
  body_of body = command_block b.exit Quit Advance body

  abbrev step_of : Command → Block
  step_of step = command_block b.exit (breaking around) (continuing around) step

  pub choice_written : (old : List PlainAction) (a1 a2 a3 a4 a5 : List Action) (branch skip other : ℕ) (test : Value) (first second : Command)
      → plain_actions a1 ≡ old ++ tests test → branch ≡ length a1 → plain_actions a2 ≡ plain_actions a1 ++ JumpZero (Skip 0) ∷ []
      → plain_actions a3 ≡ plain_actions a2 ++ of_command (length (plain_actions a2)) first → skip ≡ length a3
      → plain_actions a4 ≡ plain_actions a3 ++ Jump (Skip 0) ∷ [] → other ≡ length a4
      → plain_actions a5 ≡ plain_actions a4 ++ of_command (length (plain_actions a4)) second
      → slice_set (slice_set (plain_actions a5) branch (JumpZero (Skip (skip - branch)))) skip (Jump (Skip (length (plain_actions a5) - other)))
      ≡ old ++ of_command (length old) (If test first second)
  choice_written old a1 a2 a3 a4 a5 branch skip other test first second e1 b1 e2 e3 b3 e4 b4 e5 =
      let l2 : length (plain_actions a2) ≡ length old + length (tests test) + 1 = omega (arith, ap length e1, ap length e2, length-append {A = PlainAction}) in
      let one = of_command (length (plain_actions a2)) first in
      let l4 : length (plain_actions a4) ≡ length (plain_actions a2) + length one + 1 = omega (arith, ap length e3, ap length e4, length-append {A = PlainAction}) in
      patch_fork old (tests test) one (of_command (length (plain_actions a4)) second) a1 a2 a3 a4 a5 branch skip other e1 b1 e2 e3 b3 e4 b4 e5
      ∙ search (arith, past_spot, l2, l4)

  module _ (old o1 o2 : List PlainAction) (begin out : ℕ) (test : Value) (body : Command) (e2 : o2 ≡ o1 ++ (tests test ++ JumpZero (Skip 0) ∷ [])) (eo : out ≡ length o1 + length (tests test)) where
    abbrev written : List PlainAction
    written = with_turn o2 (record { begin = begin; out = out }) (turn_actions_of P b (record { begin = begin; out = out }) (length o2) body)

    -- the body, which is written where its turn says
    abbrev turns : List PlainAction
    turns = in_turn P b.slots b.names (length o2) begin out (body_of body)

    -- what is written of a loop after these actions, with which it begins, and this step
    turns_by : (first : List PlainAction) (step : Block)
        → let begin' = length old + length first in
        let zs = at P b.slots b.names begin' b.turn step in
        o1 ≡ old ++ (first ++ zs) → begin ≡ begin'
        → let out' = begin' + length zs + length (tests test) in
        written ≡ old ++ (first ++ turn_actions zs (tests test) (in_turn P b.slots b.names (out' + 1) begin' out' (body_of body)))
    turns_by first step e1 eb = search (arith, length-append, turn_written, append_assoc)

    -- a loop that begins with its body
    entered_by : (step : Block) (enter : ℕ) → enter ≡ length old
        → let zs = at P b.slots b.names (length old + 1) b.turn step in
        o1 ≡ old ++ Jump (Skip (length zs)) ∷ zs → begin ≡ length old + 1
        → slice_set written enter (Jump (Skip (out - enter))) ≡ old ++ at P b.slots b.names (length old) b.turn (Loop AtBody step (full_expression_block test) (body_of body))
    entered_by step enter ee e1 eb =
        let zs = at P b.slots b.names (length old + 1) b.turn step in
        let far : out - enter ≡ length zs + length (tests test) + 1 = omega (arith, eo, ee, ap length e1, length-append {A = PlainAction}) in
        patched old written _ enter _ (Jump (Skip (out - enter))) (turns_by (Jump (Skip (length zs)) ∷ []) step e1 eb) ee
        ∙ rw (far, loop_flat P b.slots b.names AtBody (length old) b.turn step test (body_of body))

    repeat_by : (moment : Moment) (step : Command) (n : Bool) (enter : ℕ) → enter ≡ length old
        → let zs = if n then [] else of_command (length old + 1) step in
        o1 ≡ old ++ (if begins_first moment n then [] else Jump (Skip (length zs)) ∷ zs) → begin ≡ (if begins_first moment n then length old else length old + 1)
        → with_entry moment enter out written ≡ old ++ at P b.slots b.names (length old) b.turn (loop_block moment n (step_of step) (full_expression_block test) (body_of body))
    repeat_by Before step true enter ee e1 eb = rw (turns_by [] Idle e1 (omega (arith, eb))) (simp loop_flat)
    repeat_by Before step false enter ee e1 eb = rw (turns_by (Jump _ ∷ []) (step_of step) e1 eb) (simp loop_flat)
    repeat_by _ step _ enter ee e1 eb = search (arith, turns_by, loop_flat, entered_by)

    -- what is written one after the other
    pub repeat_entered : (o3 o4 : List PlainAction) (moment : Moment) (step : Command) (enter : ℕ) → enter ≡ length old → o1 ≡ old ++ step_actions moment P b scopes (length old) step → begin ≡ step_begin moment (length old) step
        → o3 ≡ written → o4 ≡ with_entry moment enter out o3 → o4 ≡ old ++ of_command (length old) (While moment test step body)
    repeat_entered o3 o4 moment step enter ee e1 eb e3 e4 = e4 ∙ ap (with_entry moment enter out) e3 ∙ repeat_by moment step (does_nothing step) enter ee e1 eb

  pub step_written : (moment : Moment) (old o1 o2 : List PlainAction) (step : Command) (enter begin end : ℕ) → begins_first moment (does_nothing step) ≡ false → enter ≡ length old → o1 ≡ old ++ Jump (Skip 0) ∷ [] → begin ≡ length o1 → o2 ≡ o1 ++ own_step P b scopes (length o1) step → end ≡ length o2
      → slice_set o2 enter (Jump (Skip (end - begin))) ≡ old ++ step_actions moment P b scopes (length old) step
  step_written moment old o1 o2 step enter begin end none ee e1 eb e2 en =
      let one : length o1 ≡ length old + 1 = omega (arith, ap length e1, length-append {A = PlainAction}) in
      let zs = own_step P b scopes (length old + 1) step in
      let later : o2 ≡ o1 ++ zs = e2 ∙ ap (λ n. o1 ++ own_step P b scopes n step) one in
      let far : end - begin ≡ length zs = omega (arith, en, eb, ap length later, length-append o1 zs) in
      patched old o2 zs enter (Jump (Skip 0)) (Jump (Skip (end - begin))) (rw (later, e1) (simp append_assoc)) ee ∙ rw (far, none)

-- what a loop is of its parts
pub is_repeat : (c : CheckedCommand) (moment : Moment) (test : CheckedValue) (a b : Box CheckedCommand Global) (step body : CheckedCommand)
    → c ≡ CheckedRepeat moment test a b → step ≡ a.value → body ≡ b.value → command c ≡ While moment (value test) (command step) (command body)
is_repeat c moment test a b step body is ea eb = search arith
