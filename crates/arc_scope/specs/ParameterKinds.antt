-- What the arguments of a call or a message are passed to.
use Rattle.std.specs.Prelude.{ℕ, List, [], ◌∷◌, Option, Some, None, is_some, if◌then◌else◌}
use Rattle.arc_ast.specs.declared.tree.Kind.{Kind}
use Rattle.arc_ast.specs.declared.tree.Kind.TheVariants as k
use Rattle.arc_ast.specs.declared.tree.Sign.{Sign}
use Rattle.arc_ast.specs.declared.tree.Sign.TheVariants as signs
use Rattle.arc_scope.specs.declared.callee.Callee.{Callee}
use Rattle.arc_scope.specs.Scopes.{is_printf}

-- The kinds that arguments are converted to: those of the parameters, as if by assignment (C99, section 6.5.2.2, paragraph 7). What printf prints keeps its kind:
-- None. An argument more, which breaks a rule, is as one for an int.
abbrev pub first_wanted : Option (List Kind) → Option Kind
first_wanted None = None
first_wanted (Some []) = Some k.Int
first_wanted (Some (kind ∷ others)) = Some kind

-- what a function asks of its arguments
abbrev pub wanted_by : Callee → List Kind → Option (List Kind)
wanted_by function kinds = if is_printf function then None else Some kinds

-- the sign of the methods that a message goes to, by the class that its receiver is
abbrev pub receiver_sign : Option ℕ → Sign
receiver_sign class = if is_some class then signs.Class else signs.Instance
