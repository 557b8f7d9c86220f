-- What functions promise that read a part of a function's or a method's signature.
use Rattle.std.specs.Prelude.{ℕ, List, ◌∷◌, ◌++◌, [], bytes_eq}
use Rattle.arc_ast.specs.Tree.{ParameterTree, ParametersTree, Listed}
use Rattle.arc_form.specs.Kinds.{main_bytes, mark}
use Rattle.arc_form.specs.Form.{choose, give}
use Rattle.arc_form.specs.Joining.{joining}
use Rattle.arc_form.specs.Reader.{Reader, ◌>>=◌, ret}
use Rattle.arc_ast.specs.Tree.{Id}
use Rattle.arc_ast.specs.declared.tree.Qualifiers.TheVariants.{Unqualified}
use Rattle.arc_lex.specs.declared.mark.Mark.TheVariants as m
use Rattle.arc_grammar.specs.Grammar.{Part, QualifiedType, reads, enclosed, enclosed_type, after_comma, parameter, parameters}

abbrev pub push : {A : Type 0} → List A → A → List A
push made a = made ++ a ∷ []

-- in parentheses what a function of this name takes, of which `main` is one (C99, section 5.1.2.2.1)
unfoldable pub enclosed_to : List ℕ → Part ParametersTree
enclosed_to called = enclosed (parameters (bytes_eq called main_bytes))

-- these parameters and further ones, each after a comma
unfoldable pub more_parameters_on : List ParameterTree → Reader (List ParameterTree)
more_parameters_on = joining (mark m.Comma) (reads (after_comma parameter)) push

-- one more parameter, or several, after these
abbrev pub listed_on : List ParameterTree → Reader (List ParameterTree)
listed_on made = reads parameter >>= (λ p. more_parameters_on (push made p))

abbrev pub parameters_on : List ParameterTree → Reader ParametersTree
parameters_on made = listed_on made >>= (λ all. ret (Listed all))

-- in parentheses the type of a parameter of a method, or else `id`
abbrev pub parameter_type : Reader QualifiedType
parameter_type = reads (choose (mark m.OpenParen) enclosed_type (give (Unqualified, Id)))
