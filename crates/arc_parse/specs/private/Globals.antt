-- What functions promise that add variables of the whole program to those that were read.
use Rattle.std.specs.Prelude.{Bool, List, [], ◌∷◌, ◌++◌}
use Rattle.arc_lex.specs.declared.mark.Mark.TheVariants as m
use Rattle.arc_ast.specs.declared.tree.Qualifiers.TheVariants.{Unqualified}
use Rattle.arc_ast.specs.Tree.{TypeTree, GlobalTree, Value}
use Rattle.arc_form.specs.Kinds.{mark, name}
use Rattle.arc_form.specs.Reader.{Reader, ◌>>=◌, ret, if_sees_two}
use Rattle.arc_form.specs.Joining.{joining}
use Rattle.arc_grammar.specs.Grammar.{Part, QualifiedType, TopTree, OfFunction, OfGlobals, reads, function, after_comma, starred_global}
use Rattle.arc_parse.specs.private.Declaring.{reads_after}

-- variables, and after them one of this type
abbrev pub add_global : QualifiedType → List GlobalTree → (QualifiedType → GlobalTree) → List GlobalTree
add_global type made make = made ++ make type ∷ []

-- these variables and further ones of this type
unfoldable pub globals_on : Bool → QualifiedType → List GlobalTree → Reader (List GlobalTree)
globals_on of_class type = joining (mark m.Comma) (reads (after_comma (starred_global of_class))) (add_global type)

-- a function whose result has this type
abbrev pub function_on : TypeTree → Reader TopTree
function_on type = reads_after function (Value type) >>= (λ f. ret (OfFunction f))

-- such a function, where a name and `(` are ahead, or these variables of the type
abbrev pub typed_on : Part (QualifiedType → List GlobalTree) → TypeTree → Reader TopTree
typed_on variables type =
    if_sees_two name (mark m.OpenParen) (function_on type) (reads_after variables (Unqualified, type) >>= (λ all. ret (OfGlobals all)))
