-- The contract of lowering: what is promised of a program's actions.
use Rattle.std.specs.Prelude.{◌≡◌}
use Rattle.arc_spec.specs.Resolved as resolved
use Rattle.arc_spec.specs.Meaning.{mean}
use Rattle.arc_spec.specs.Correctness.{Behaves, Steady, meaning_seen}
use Rattle.arc_ir.specs.ActionSteps.{Program, seen, IsSound}
use Rattle.arc_lower.specs.PlainActions.{plain_actions}
use Rattle.arc_lower.specs.Lowered.{lowered, entries_of, end_step_of, classes_linked}
use Rattle.arc_lower.specs.Heights.{room_of, names_of, places_of}

-- The actions do what a program means, on each input; none of them is ever without what it needs, and numbers,
-- references and places keep to their rooms.
pub record Performs (meant : resolved.Program) (acting : Program) : Type 0 where
  pub behaves : Behaves (λ input bound. meaning_seen (mean meant input bound)) (seen acting)
  pub steady : Steady (seen acting)
  pub sound : IsSound acting

-- The actions are exactly those that the program becomes.
pub record IsLowered (meant : resolved.Program) (acting : Program) : Type 0 where
  pub actions : plain_actions acting.actions ≡ lowered meant
  pub entries : acting.entries ≡ entries_of meant
  pub end_step : acting.end_step ≡ end_step_of meant
  pub room : acting.room ≡ room_of meant
  pub names : acting.names ≡ names_of meant
  pub places : acting.places ≡ places_of meant
  pub globals : acting.globals ≡ meant.globals
  pub strong_globals : acting.strong_globals ≡ meant.strong_globals
  pub classes : acting.classes ≡ classes_linked meant
