-- The variables of a declaration: the loop that reads them.
use Rattle.std.proofs.Common.{◌≡◌, Bool, List, [], ◌∷◌}
use Rattle.arc_lex.specs.Tokens.{Tok}
use Rattle.arc_lex.specs.declared.mark.Mark.TheVariants as m
use Rattle.arc_ast.specs.Tree.{VariableTree}
use Rattle.arc_form.specs.Kinds.{mark}
use Rattle.arc_form.specs.Reader.{◌>>=◌, ret, if_sees, take_one, from}
use Rattle.arc_grammar.specs.Grammar.{reads, starred_variable, variables}
use Rattle.arc_grammar.proofs.Fits.{taking}
use Rattle.arc_grammar.proofs.Loops.{one_more_listed, read_listed}
use Rattle.arc_parse.specs.private.Declaring.{variables_on}
use Rattle.arc_parse.specs.private.Signatures.{push}

-- the first one, and then further ones
pub read_variables : (c : Bool) (ts : List Tok) → reads (variables c) ts ≡ (reads (starred_variable c) >>= (λ v. variables_on c (v ∷ []))) ts
unfolding variables variables_on
read_variables c ts = read_listed (starred_variable c) ts

-- one more, or none
pub read_more_variables : (c : Bool) (made : List VariableTree) (ts : List Tok) → variables_on c made ts
    ≡ if_sees (mark m.Comma) (take_one (mark m.Comma) from >>= (λ comma. reads (starred_variable c) >>= (λ v. variables_on c (push made v)))) (ret made) ts
unfolding variables_on
read_more_variables c made ts = one_more_listed (starred_variable c) push (taking.4 c) made ts
