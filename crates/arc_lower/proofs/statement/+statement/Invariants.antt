use Rattle.std.proofs.Common.{◌≡◌, ◌++◌, length, drop}
use Rattle.arc_checked.specs.Checked.{commands, program_of}
use Rattle.arc_lower.specs.PlainActions.{plain_actions}
use Rattle.arc_lower.specs.Lowered.{commands_actions}
use Rattle.arc_lower.specs.private.StatementActions.{surroundings}
use Rattle.arc_lower.proofs.statement.+statement.Given as goal

abbrev pub invariant-append_commands-loop-statement : goal.invariant-append_commands-loop-statement
invariant-append_commands-loop-statement l =
    let before = plain_actions l.initial.actions.items in
    let P = program_of l.program in
    let around = surroundings l.body l.initial.scopes.items in
    (l.scopes.items ≡ l.initial.scopes.items)
    × (plain_actions l.actions.items ++ commands_actions P l.body.slots l.body.names (length (plain_actions l.actions.items)) around (commands (drop l.statement-index l.all)) ≡ before ++ commands_actions P l.body.slots l.body.names (length before) around (commands l.all))
