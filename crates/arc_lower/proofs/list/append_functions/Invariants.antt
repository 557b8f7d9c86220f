use Rattle.std.proofs.Common.{◌≡◌, ◌++◌, [], ◌∷◌, length, drop}
use Rattle.arc_checked.specs.Checked.{functions, program_of}
use Rattle.arc_spec.specs.declared.class.Gives.TheVariants as gives
use Rattle.arc_spec.specs.Meaning.{nothing_giving}
use Rattle.arc_lower.specs.PlainActions.{plain_actions}
use Rattle.arc_lower.specs.Lowered.{functions_actions, entries_from}
use Rattle.arc_lower.specs.Heights.{raised, functions_heights}
use Rattle.arc_lower.proofs.list.append_functions.Given as goal

-- with the functions that are left still to come, all comes out as from the start
abbrev pub invariant-loop-function : goal.invariant-loop-function
invariant-loop-function l =
    let P = program_of l.program in
    let left = functions (drop l.function-index l.function-items) ++ nothing_giving gives.Number ∷ nothing_giving gives.Object ∷ [] in
    let all = functions l.function-items ++ nothing_giving gives.Number ∷ nothing_giving gives.Object ∷ [] in
    let place = length (plain_actions l.actions.items) in
    let start = length (plain_actions l.initial.actions.items) in
    (plain_actions l.actions.items ++ functions_actions P place left ≡ plain_actions l.initial.actions.items ++ functions_actions P start all)
    × (l.entries.items ++ entries_from P place left ≡ l.initial.entries.items ++ entries_from P start all)
    × (raised (functions_heights P place left) l.most ≡ raised (functions_heights P start all) l.initial.most)
