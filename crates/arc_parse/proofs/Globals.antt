-- Variables of the whole program: the loop that reads them, and what reports them from a function.
use Rattle.std.proofs.Common.{◌≡◌, List, [], ◌∷◌, ◌++◌, map as list_map, append_assoc, append-nil, Bool, true, false, ◌&&◌, ◌||◌, cond, refl, sym, ap, ◌∙◌, drop}
use Rattle.arc_lex.specs.Tokens.{Tok}
use Rattle.arc_lex.specs.declared.mark.Mark.TheVariants as m
use Rattle.arc_ast.specs.declared.tree.Qualifiers.{Qualifiers}
use Rattle.arc_ast.specs.declared.tree.Qualifiers.TheVariants.{Unqualified}
use Rattle.arc_ast.specs.Tree.{TypeTree, ResultTree, FunctionTree, GlobalTree, Value}
use Rattle.arc_form.specs.Kinds.{mark, main, name, other_name}
use Rattle.arc_form.specs.Operators.{fold}
use Rattle.arc_form.specs.Reader.{Read, bind, ◌>>=◌, ret, sees, if_sees, take_one, from}
use Rattle.arc_form.specs.Joining.{joining}
use Rattle.arc_form.proofs.Binding.{bind_twice, bind_alike}
use Rattle.arc_grammar.specs.Grammar.{Part, QualifiedType, OfFunction, OfGlobals, reads, some_qualifiers, value_type_of, of_function, of_globals, main_function, other_function, function, global, starred_global, after_comma, commas, globals, typed_top, of_type, typed_globals, of_qualified}
use Rattle.arc_grammar.proofs.Fits.{TakesToken, taking}
use Rattle.arc_grammar.proofs.Loops.{one_more_listed}
use Rattle.arc_parse.specs.private.Globals.{add_global, globals_on, typed_on}
use Rattle.arc_parse.specs.private.Declaring.{reads_after}

-- further variables of a type, one by one
further : (type : QualifiedType) (part : Part (QualifiedType → GlobalTree)) → TakesToken (after_comma part) → (made : List GlobalTree) (ts : List Tok)
    → joining (mark m.Comma) (reads (after_comma part)) (add_global type) made ts
    ≡ if_sees (mark m.Comma) (take_one (mark m.Comma) from >>= (λ comma. reads_after part type >>= (λ g. joining (mark m.Comma) (reads (after_comma part)) (add_global type) (made ++ g ∷ [])))) (ret made) ts
further type part t made ts = one_more_listed part (add_global type) t made ts ∙ ap (λ y. cond (sees (mark m.Comma) ts) y (ret made ts)) (bind_alike _ _ _ (λ comma us. sym (bind_twice (reads part us) (λ make. ret (make type)) (λ g. joining (mark m.Comma) (reads (after_comma part)) (add_global type) (made ++ g ∷ [])))))

pub read_more_globals : (c : Bool) (type : QualifiedType) (made : List GlobalTree) (ts : List Tok) → globals_on c type made ts
    ≡ if_sees (mark m.Comma) (take_one (mark m.Comma) from >>= (λ comma. reads_after (starred_global c) type >>= (λ g. globals_on c type (made ++ g ∷ [])))) (ret made) ts
unfolding globals_on
read_more_globals c type made ts = further type (starred_global c) (taking.12 c) made ts

-- one of them, after `*` where the type is a class's
pub read_starred_global : (c : Bool) (type : QualifiedType) (ts : List Tok) → reads_after (starred_global c) type ts
    ≡ cond c ((take_one (mark m.Star) from >>= (λ star. reads_after global type)) ts) (reads_after global type ts)
unfolding starred_global
read_starred_global true type ts = simp bind_twice
read_starred_global false type ts = refl

all_made : (type : QualifiedType) (made : List GlobalTree) (others : List (QualifiedType → GlobalTree)) → fold (add_global type) made others ≡ made ++ list_map (λ other. other type) others
all_made type made [] = sym (append-nil made)
all_made type made (make ∷ others) = all_made type (made ++ make type ∷ []) others ∙ append_assoc made (make type ∷ []) (list_map (λ other. other type) others)

pub read_globals : (c : Bool) (type : QualifiedType) (ts : List Tok) → reads_after (globals c) type ts
    ≡ (reads_after global type >>= (λ g. globals_on c type (g ∷ []) >>= (λ all. take_one (mark m.Semicolon) from >>= (λ end. ret all)))) ts
unfolding globals commas globals_on
read_globals c type ts = simp (bind_twice, all_made)

-- ---- what is after a type

-- a function whose result has this type, or variables of it
read_typed : (type : TypeTree) (variables : Part (QualifiedType → List GlobalTree)) (ts : List Tok) → reads_after (typed_top variables) type ts ≡ typed_on variables type ts
unfolding typed_top function
read_typed type variables [] = simp bind_twice
read_typed type variables (t ∷ ts) = go (sees main (t ∷ ts)) (sees other_name (t ∷ ts)) (sees (mark m.OpenParen) (drop 1 (t ∷ ts))) (reads main_function (t ∷ ts)) (reads other_function (t ∷ ts)) (reads variables (t ∷ ts))
  where
    go : (is_main is_other opens : Bool) (f g : Read (ResultTree → FunctionTree)) (all : Read (QualifiedType → List GlobalTree))
        → bind (cond (is_main && opens) (bind f (λ make. ret (of_function make))) (cond (is_other && opens) (bind g (λ make. ret (of_function make))) (bind all (λ make. ret (of_globals make))))) (λ make. ret (make type))
        ≡ cond ((is_other || is_main) && opens) (bind (bind (cond is_main f g) (λ make. ret (make (Value type)))) (λ f. ret (OfFunction f))) (bind (bind all (λ make. ret (make (Unqualified, type)))) (λ all. ret (OfGlobals all)))
    go true true true f g all = simp bind_twice
    go true false true f g all = simp bind_twice
    go true true false f g all = simp bind_twice
    go true false false f g all = simp bind_twice
    go false true true f g all = simp bind_twice
    go false true false f g all = simp bind_twice
    go false false opens f g all = simp bind_twice

pub read_of_type : (c : Bool) (ts : List Tok) → reads (of_type c) ts ≡ (reads (value_type_of c) >>= (λ type. typed_on (globals c) type.1)) ts
unfolding of_type
read_of_type c ts = simp bind_twice (bind_alike _ _ _ (λ type us. read_typed type.1 (globals c) us))

-- ---- variables after qualifiers

-- of a type, a class's or another
read_typed_globals : (c : Bool) (q : Qualifiers) (ts : List Tok) → bind (cond c (reads (typed_globals true) ts) (reads (typed_globals false) ts)) (λ make. ret (make q))
    ≡ (reads (value_type_of c) >>= (λ type. reads (globals c) >>= (λ make. ret (OfGlobals (make (q, type.1)))))) ts
unfolding typed_globals
read_typed_globals true q ts = simp bind_twice
read_typed_globals false q ts = simp bind_twice

pub read_of_qualified : (ts : List Tok) → reads of_qualified ts
    ≡ (reads some_qualifiers >>= (λ q us. (reads (value_type_of (sees name us)) >>= (λ type vs. (reads_after (globals (sees name us)) (q, type.1) >>= (λ all. ret (OfGlobals all))) vs)) us)) ts
unfolding of_qualified
read_of_qualified ts = simp bind_twice (bind_alike _ _ _ (λ q us. read_typed_globals (sees name us) q us))
