-- Nodes of which no rule of ownership asks anything, so that their sites needn't be looked at.
use Rattle.std.specs.Prelude.{Bool, true, false}
use Rattle.arc_ast.specs.Tree.{ExprTree, Assign, Send, SendSuper}
use Rattle.arc_sites.specs.Sites.{Node, Value, Statement, Body}

-- whether an expression neither assigns anything nor sends a message
abbrev pub is_plain : ExprTree → Bool
is_plain (Assign at sign left right) = false
is_plain (Send at part receiver selector arguments) = false
is_plain (SendSuper at part super_at selector arguments) = false
is_plain _ = true

abbrev pub is_unasked : Node → Bool
is_unasked (Value a) = is_plain a
is_unasked (Statement s) = true
is_unasked (Body parameters body) = true
is_unasked _ = false
