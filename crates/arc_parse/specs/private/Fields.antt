-- What functions promise that add fields to those of a class, and that skip names.
use Rattle.std.specs.Prelude.{ℕ, Bool, List, [], ◌∷◌, ◌++◌}
use Rattle.arc_lex.specs.declared.mark.Mark.TheVariants as m
use Rattle.arc_ast.specs.declared.tree.Visibility.{Visibility}
use Rattle.arc_ast.specs.Tree.{FieldTree}
use Rattle.arc_ast.specs.declared.tree.Qualifiers.{Qualifiers}
use Rattle.arc_form.specs.Kinds.{Kinds, ◌∪◌, mark}
use Rattle.arc_form.specs.Operators.{fold}
use Rattle.arc_form.specs.Reader.{Reader, ◌>>=◌, ret, take_one, from}
use Rattle.arc_grammar.specs.Grammar.{QualifiedType, QualifiedName, Fields, field_of, reads, declared_type, begins_qualified_type, after_comma, called, starred_name, group, begins_visibility}
use Rattle.arc_form.specs.Joining.{joining}
use Rattle.arc_parse.specs.private.Declaring.{reads_after}

-- what a group of fields begins with
abbrev pub begins_group : Kinds
begins_group = begins_qualified_type ∪ begins_visibility

-- fields, and after them one of this type and this name that is visible so
abbrev pub add_field : Visibility → QualifiedType → List FieldTree → QualifiedName → List FieldTree
add_field v type made n = made ++ field_of v type n ∷ []

-- the fields of these groups, of which those before any word are visible so
abbrev pub fields_of : Visibility → List (Fields → Fields) → List FieldTree
fields_of v all = (fold (λ s make. make s) (v, []) all).1

-- these fields and one of this type
unfoldable pub name_on : Bool → Visibility → QualifiedType → List FieldTree → Reader (List FieldTree)
name_on of_class v type made = reads (starred_name of_class) >>= (λ n. ret (add_field v type made n))

-- these fields and further ones of this type, each after a comma
unfoldable pub more_names_on : Bool → Visibility → QualifiedType → List FieldTree → Reader (List FieldTree)
more_names_on of_class v type = joining (mark m.Comma) (reads (after_comma (starred_name of_class))) (add_field v type)

-- these fields and one of this type, or several
abbrev pub names_on : Bool → Visibility → QualifiedType → List FieldTree → Reader (List FieldTree)
names_on of_class v type made = name_on of_class v type made >>= (λ all. more_names_on of_class v type all)

-- and `;`
abbrev pub ended_names_on : Bool → Visibility → QualifiedType → List FieldTree → Reader (List FieldTree)
ended_names_on of_class v type made = names_on of_class v type made >>= (λ all. take_one (mark m.Semicolon) from >>= (λ end. ret all))

-- these fields, and those of a type, one name or more and `;`
abbrev pub typed_fields_on : Bool → Visibility → Qualifiers → List FieldTree → Reader (List FieldTree)
typed_fields_on of_class v q made = reads (declared_type of_class) >>= (λ type. ended_names_on of_class v (q, type.1) made)

-- these fields and those of a group
abbrev pub group_on : Fields → Reader Fields
group_on = reads_after group

abbrev pub skip : Unit {0} → ℕ × List ℕ → Unit {0}
skip u n = tt

-- names that aren't kept, each after a comma
abbrev pub names_skipped : Reader (Unit {0})
names_skipped = joining (mark m.Comma) (reads (after_comma called)) skip tt
