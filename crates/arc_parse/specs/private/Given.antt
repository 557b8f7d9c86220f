-- What functions promise that read what parentheses hold, and what calls, messages and heads of methods give or take.
use Rattle.std.specs.Prelude.{ℕ, List, [], ◌∷◌, ◌++◌}
use Rattle.arc_lex.specs.declared.mark.Mark.TheVariants as m
use Rattle.arc_ast.specs.Tree.{ExprTree, ParameterTree, TypeTree, Cast, Paren}
use Rattle.arc_form.specs.Form.{Limits, ◌⨾◌, call, run, unlimited}
use Rattle.arc_form.specs.Joining.{joining}
use Rattle.arc_form.specs.Kinds.{mark, name}
use Rattle.arc_form.specs.Reader.{Reader, ◌>>=◌, ret, take_one, from}
use Rattle.arc_grammar.specs.Grammar.{Part, expr, unary, suffixes, after_comma, called, the, typed, reads, reads_free, reads_on, rules}
use Rattle.arc_parse.specs.private.Signatures.{push}

-- a cast whose `(` is at this place, after its type
unfoldable pub cast_on : ℕ → TypeTree → Reader ExprTree
cast_on at type = take_one (mark m.CloseParen) from >>= (λ end. rules unlimited unary >>= (λ a. ret (Cast at type a)))

-- an expression in parentheses whose `(` is at this place, after what is inside, and the suffixes after it
unfoldable pub enclosed_on : ℕ → ExprTree → Reader ExprTree
enclosed_on at inside = take_one (mark m.CloseParen) from >>= (λ end. reads_on suffixes (Paren at inside))

-- these arguments and further ones, each after a comma
unfoldable pub more_arguments_on : List ExprTree → Reader (List ExprTree)
more_arguments_on = joining (mark m.Comma) (reads_free (after_comma (call expr))) push

-- these arguments and one more, or several with a comma between two, and `)`
unfoldable pub arguments_on : List ExprTree → Reader (List ExprTree)
arguments_on before = rules unlimited expr >>= (λ a. more_arguments_on (push before a) >>= (λ all. take_one (mark m.CloseParen) from >>= (λ end. ret all)))

-- one part more of a selector, with its colon and what it takes
abbrev pub add_part : {A : Type 0} → List ℕ × List A → (ℕ × List ℕ) × (ℕ × A) → List ℕ × List A
add_part s (n, (colon, a)) = ((s.0 ++ n.1) ++ 58 ∷ [], push s.1 a)

-- these parts of a selector, with what they take, and further ones (OPL, "Defining a Class")
unfoldable pub parts_on : {A : Type 0} → Limits → Part A → List ℕ × List A → Reader (List ℕ × List A)
parts_on limits part = joining name (run rules limits (called ⨾ the m.Colon ⨾ part)) add_part

-- these parts of a selector, of which the last is a name alone, the colon after it and what it takes, and further parts
unfoldable pub last_part_on : {A : Type 0} → Limits → Part A → List ℕ × List A → Reader (List ℕ × List A)
last_part_on limits part s = take_one (mark m.Colon) from >>= (λ colon. run rules limits part >>= (λ a. parts_on limits part (s.0 ++ 58 ∷ [], push s.1 a)))

-- the same of a head's selector, with one parameter
unfoldable pub next_typed_on : List ℕ × List ParameterTree → Reader (List ℕ × List ParameterTree)
next_typed_on s = take_one (mark m.Colon) from >>= (λ colon. reads typed >>= (λ p. ret (s.0 ++ 58 ∷ [], push s.1 p)))
