-- What functions promise that read a rest of a declaration.
use Rattle.std.specs.Prelude.{Bool, List}
use Rattle.arc_lex.specs.declared.mark.Mark.TheVariants as m
use Rattle.arc_ast.specs.Tree.{VariableTree}
use Rattle.arc_form.specs.Joining.{joining}
use Rattle.arc_form.specs.Kinds.{mark}
use Rattle.arc_form.specs.Reader.{Reader, ◌>>=◌, ret}
use Rattle.arc_grammar.specs.Grammar.{Part, reads, after_comma, starred_variable}
use Rattle.arc_parse.specs.private.Signatures.{push}

-- what reads a rest that makes a value of one that is there
abbrev pub reads_after : {A B : Type 0} → Part (A → B) → A → Reader B
reads_after part a = reads part >>= (λ make. ret (make a))

-- these variables and further ones, each after a comma, and a `*` where their type is a class's
unfoldable pub variables_on : Bool → List VariableTree → Reader (List VariableTree)
variables_on of_class = joining (mark m.Comma) (reads (after_comma (starred_variable of_class))) push
