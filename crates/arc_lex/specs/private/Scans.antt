-- What was read of a text or a character.
use Rattle.std.specs.Prelude.{ℕ, List, Vec, length, Option, Some, None}
use Rattle.arc_lex.specs.declared.text.Scan.{Scan}
use Rattle.arc_lex.specs.Texts.{Part, parts_bytes, parts_value}

pub record Seen : Type 0 where
  pub len : ℕ
  pub value : Option (List ℕ)

abbrev pub seen_value : {Z : Type 0} → Option (Vec ℕ Z) → Option (List ℕ)
seen_value None = None
seen_value (Some v) = Some v.items

abbrev pub seen : Option Scan → Option Seen
seen None = None
seen (Some s) = Some (record { len = s.len; value = seen_value s.value })

abbrev pub seen_parts : ℕ → Option (List Part) → Option Seen
seen_parts quote None = None
seen_parts quote (Some ps) = Some (record { len = length (parts_bytes ps); value = parts_value quote ps })
