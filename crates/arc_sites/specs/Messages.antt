-- The messages of a source.
use Rattle.std.specs.Prelude.{ℕ, Bool, true, false, List, Option, Some, None, option_and_then, if◌then◌else◌}
use Rattle.std.specs.Option.{option_map_or}
use Rattle.arc_ast.specs.Tree.{ExprTree, Paren, Itself, Send, SendSuper}

-- A message (OPL, "Message Syntax"): the place of its selector's first part, what it is sent to, of which one to `super` has none, and its selector.
pub record Message : Type 0 where
  pub part : ℕ
  pub receiver : Option ExprTree
  pub selector : List ℕ

-- the message that an expression sends
abbrev pub sent_message : ExprTree → Option Message
sent_message (Send at part receiver selector arguments) = Some (record { part = part; receiver = Some receiver; selector = selector })
sent_message (SendSuper at part super_at selector arguments) = Some (record { part = part; receiver = None; selector = selector })
sent_message _ = None

-- the place of the message that an expression sends, where it is one of these
abbrev pub sends : (Message → Bool) → ExprTree → Option ℕ
sends is a = option_and_then (λ m. if is m then Some m.part else None) (sent_message a)

-- whether an expression is `self`, parentheses aside
abbrev pub is_itself : ExprTree → Bool
is_itself (Itself at) = true
is_itself (Paren at a) = is_itself a
is_itself _ = false

-- whether a message is sent to `self` or to `super`
abbrev pub is_to_itself : Message → Bool
is_to_itself m = option_map_or is_itself m.receiver true
