-- Functions of a checked program without where they lie in memory.
use Rattle.std.specs.Prelude.{ℕ, Option, option_and_then, Some, None, slice_get, if◌then◌else◌}
use Rattle.arc_checked.specs.declared.program.CheckedFunction.{CheckedFunction}
use Rattle.arc_checked.specs.Checked.{commands}
use Rattle.arc_spec.specs.declared.class.Gives.{Gives}
use Rattle.arc_spec.specs.Classes.{same_gives}
use Rattle.arc_spec.specs.Resolved.{Function, Program}

abbrev pub definition_of : CheckedFunction → Function
definition_of f =
    record { slots = f.slots; names = f.names; parameters = f.parameters; gives = f.gives; owns = f.owns; body = commands f.body.items }

-- the function with a number, where it gives this
abbrev pub found_at : Program → (wanted : Gives) → (f : ℕ) → Option Function
found_at P wanted f = option_and_then (λ g. if same_gives g.gives wanted then Some g else None) (slice_get P.functions f)
