-- The fields of classes: the loops that read them.
use Rattle.std.proofs.Common.{◌≡◌, Bool, true, false, cond, List, [], ◌∷◌, ◌++◌, map as list_map, append_assoc, append-nil, sym, ap, ◌∙◌}
use Rattle.arc_lex.specs.Tokens.{Tok}
use Rattle.arc_lex.specs.declared.mark.Mark.TheVariants as m
use Rattle.arc_form.specs.Kinds.{name, mark}
use Rattle.arc_ast.specs.declared.tree.Qualifiers.{Qualifiers}
use Rattle.arc_ast.specs.declared.tree.Visibility.{Visibility}
use Rattle.arc_ast.specs.Tree.{FieldTree}
use Rattle.arc_form.specs.Form.{map}
use Rattle.arc_form.specs.Operators.{fold}
use Rattle.arc_form.specs.Reader.{Read, Reader, bind, ◌>>=◌, ret, sees, if_sees, take_one, from}
use Rattle.arc_grammar.specs.Grammar.{QualifiedType, QualifiedName, Fields, reads, qualifiers, begins_qualified_type, listed, commas, starred_name, typed_fields, qualified_fields, group, groups, field_of, visibility_of, begins_visibility}
use Rattle.arc_grammar.proofs.Fits.{taking}
use Rattle.arc_grammar.proofs.Loops.{one_more, one_more_listed}
use Rattle.arc_form.specs.Joining.{joining}
use Rattle.arc_form.proofs.Binding.{bind_twice, bind_if, bind_alike, take_as}
use Rattle.arc_parse.specs.private.Fields.{begins_group, add_field, fields_of, name_on, more_names_on, typed_fields_on, group_on}

-- the fields of a class after these
abbrev pub groups_on : Fields → Reader (List FieldTree)
groups_on s = joining begins_group (reads group) (λ s make. make s) s >>= (λ s. ret s.1)

-- one group more, or none
pub read_groups_on : (s : Fields) (ts : List Tok) → groups_on s ts ≡ if_sees begins_group (group_on s >>= (λ s. groups_on s)) (ret s.1) ts
read_groups_on s ts = rw (one_more begins_group group (λ s make. make s) (search taking) s ts) (simp (bind_if, bind_twice))

-- one name more of a type, or none
pub read_more_names : (c : Bool) (v : Visibility) (type : QualifiedType) (made : List FieldTree) (ts : List Tok) → more_names_on c v type made ts
    ≡ if_sees (mark m.Comma) (take_one (mark m.Comma) from >>= (λ comma. name_on c v type made >>= (λ all. more_names_on c v type all))) (ret made) ts
unfolding name_on more_names_on
read_more_names c v type made ts = one_more_listed (starred_name c) (add_field v type) (taking.9 c) made ts
    ∙ ap (λ y. cond (sees (mark m.Comma) ts) y (ret made ts)) (bind_alike (take_one (mark m.Comma) from ts) _ _ (λ comma us. sym (bind_twice (reads (starred_name c) us) (λ n. ret (add_field v type made n)) (λ all. more_names_on c v type all))))

-- the names of one type
names_fold : (v : Visibility) (type : QualifiedType) (made : List FieldTree) (names : List QualifiedName) → fold (add_field v type) made names ≡ made ++ list_map (field_of v type) names
names_fold v type made [] = sym (append-nil made)
names_fold v type made (n ∷ names) = names_fold v type (add_field v type made n) names ∙ append_assoc made (field_of v type n ∷ []) (list_map (field_of v type) names)

-- those of a type, a class's or another
read_typed_fields : (c : Bool) (v : Visibility) (q : Qualifiers) (made : List FieldTree) (ts : List Tok) → bind (reads (typed_fields c) ts) (λ make. ret (make q (v, made)))
    ≡ (typed_fields_on c v q made >>= (λ all. ret (v, all))) ts
unfolding typed_fields listed commas name_on more_names_on
read_typed_fields c v q made ts = simp (bind_twice, names_fold, append_assoc)

abbrev either_fields : Bool → Visibility → Qualifiers → List FieldTree → Reader Fields
either_fields c v q made = λ ts. cond c (bind (reads (typed_fields true) ts) (λ make. ret (make q (v, made)))) (bind (reads (typed_fields false) ts) (λ make. ret (make q (v, made))))

read_either : (c : Bool) (v : Visibility) (q : Qualifiers) (made : List FieldTree) (ts : List Tok) → either_fields c v q made ts ≡ (typed_fields_on c v q made >>= (λ all. ret (v, all))) ts
read_either true v q made ts = read_typed_fields true v q made ts
read_either false v q made ts = read_typed_fields false v q made ts

abbrev pub word_on : List FieldTree → Reader Fields
word_on made = take_one begins_visibility (λ t. visibility_of t.sort) >>= (λ next. ret (next, made))

word_is : (v : Visibility) (made : List FieldTree) (ts : List Tok) → bind {A = Fields → Fields} (take_one begins_visibility (λ t (s : Fields). (visibility_of t.sort, s.1)) ts) (λ make. ret (make (v, made))) ≡ word_on made ts
word_is v made ts = ap (λ (x : Read (Fields → Fields)). bind x (λ make. ret (make (v, made)))) (take_as begins_visibility (λ t. visibility_of t.sort) (λ next (s : Fields). (next, s.1)) ts)
    ∙ bind_twice (take_one begins_visibility (λ t. visibility_of t.sort) ts) (λ next. ret (λ (s : Fields). (next, s.1))) (λ make. ret (make (v, made)))

group_is : (v : Visibility) (made : List FieldTree) (ts : List Tok) → group_on (v, made) ts ≡ if_sees begins_qualified_type (reads qualifiers >>= (λ q us. either_fields (sees name us) v q made us)) (word_on made) ts
unfolding group qualified_fields
group_is v made ts = simp (bind_if, bind_twice, word_is)

pub read_group : (v : Visibility) (made : List FieldTree) (ts : List Tok) → group_on (v, made) ts ≡ if_sees begins_qualified_type (reads qualifiers >>= (λ q us. (typed_fields_on (sees name us) v q made >>= (λ all. ret (v, all))) us)) (word_on made) ts
read_group v made ts = group_is v made ts ∙ ap (λ x. cond (sees begins_qualified_type ts) x (word_on made ts)) (bind_alike (reads qualifiers ts) _ _ (λ q us. read_either (sees name us) v q made us))

-- all groups
pub groups_start : (v : Visibility) (ts : List Tok) → reads (map (fields_of v) groups) ts ≡ groups_on (v, []) ts
unfolding groups
groups_start v ts = simp bind_twice
