-- What reads the rest of a function, its parameters, and heads of methods.
use Rattle.std.proofs.Common.{◌≡◌, ℕ, List, [], ◌∷◌, ◌++◌, bytes_eq, Bool, true, false, cond, ◌&&◌, Ok, Err, refl, sym, ap, ap₂, ◌∙◌, if◌then◌else◌}
use Rattle.arc_lex.specs.declared.mark.Mark.TheVariants as m
use Rattle.arc_lex.specs.declared.word.Word.TheVariants as w
use Rattle.arc_ast.specs.declared.tree.Qualifiers.TheVariants.{Unqualified}
use Rattle.arc_lex.specs.Tokens.{Tok, Sort, Name, Integer, Character, Text, Key, At, Sign, Unused}
use Rattle.arc_ast.specs.Tree.{ParameterTree, ParametersTree, Listed, Int, HeadTree, ResultTree, FunctionTree}
use Rattle.arc_form.specs.Kinds.{main_bytes, kind, name, mark, word, ◌∪◌}
use Rattle.arc_form.specs.Reader.{Read, Reader, bind, ◌>>=◌, ret, take_one, from, sees, if_sees, sees_two, bytes_of, named}
use Rattle.arc_form.specs.Joining.{joining}
use Rattle.arc_form.proofs.Sets.{name_has}
use Rattle.arc_form.proofs.Binding.{bind_twice, bind_if, bind_alike}
use Rattle.arc_form.proofs.Joining.{push}
use Rattle.arc_grammar.specs.Grammar.{reads, enclosed, with_result, listed, parameter, parameter_of, second, texts, begins_method, next_head, method_head, counted_parameters, listed_parameters, parameters, begins_qualified_type, function_body, main_function, other_function, function}
use Rattle.arc_grammar.proofs.Fits.{taking}
use Rattle.arc_grammar.proofs.Loops.{one_more, one_more_listed, listed_after}
use Rattle.arc_parse.specs.private.Declaring.{reads_after}
use Rattle.arc_parse.specs.private.Signatures.{enclosed_to, more_parameters_on, parameters_on}

abbrev pub by_name : ResultTree → Reader FunctionTree
by_name type = take_one name named >>= (λ n. reads (enclosed_to n.1) >>= (λ ps. reads function_body >>= (λ b. ret (with_result (n, (ps, b)) type))))

-- a name, what a function of this name takes, and its body
pub read_function : (type : ResultTree) (ts : List Tok) → reads_after function type ts ≡ by_name type ts
unfolding function main_function other_function enclosed_to
read_function type [] = refl
read_function type (t ∷ ts) = go t.sort refl
  where
    signed : (called : List ℕ) (is_main : Bool) → kind t.sort ≡ (0, if is_main then main_bytes else []) → bytes_of t.sort ≡ called
        → reads_after function type (t ∷ ts) ≡ bind {A = ParametersTree} (reads (enclosed (parameters is_main)) ts) (λ ps. reads function_body >>= (λ b. ret (with_result ((t.from, called), (ps, b)) type)))
    signed called true k b = rw (k, b) (simp bind_twice)
    signed called false k b = rw (k, b) (simp bind_twice)

    go : (s : Sort) → t.sort ≡ s → reads_after function type (t ∷ ts) ≡ by_name type (t ∷ ts)
    go (Name called) e =
        let is_main = bytes_eq called main_bytes in
        let taken : take_one name named (t ∷ ts) ≡ Ok ((t.from, called), ts) = rw (e, name_has is_main) refl in
        signed called is_main (ap kind e) (ap bytes_of e) ∙ sym (ap (λ x. bind x (λ n. reads (enclosed_to n.1) >>= (λ ps. reads function_body >>= (λ b. ret (with_result (n, (ps, b)) type))))) taken)
    go (Integer value suffixed) e = rw e refl
    go (Character byte) e = rw e refl
    go (Text bytes) e = rw e refl
    go (Key w) e = rw e refl
    go (At w) e = rw e refl
    go (Sign m) e = rw e refl
    go Unused e = rw e refl

-- one parameter or more after these
read_after : (made : List ParameterTree) (ts : List Tok) → (reads (listed parameter) >>= (λ others. ret (Listed (made ++ others)))) ts ≡ parameters_on made ts
unfolding more_parameters_on
read_after made ts = sym (bind_twice (reads (listed parameter) ts) (λ others. ret (made ++ others)) (λ all. ret (Listed all))) ∙ ap (λ x. bind x (λ all. ret (Listed all))) (listed_after parameter made ts)

-- and one more, or none
pub read_more_parameters : (made : List ParameterTree) (ts : List Tok) → more_parameters_on made ts
    ≡ if_sees (mark m.Comma) (take_one (mark m.Comma) from >>= (λ comma. reads parameter >>= (λ p. more_parameters_on (push made p)))) (ret made) ts
unfolding more_parameters_on
read_more_parameters made ts = one_more_listed parameter push (search taking) made ts

-- what a function takes
pub read_parameters : (of_main : Bool) (ts : List Tok) → reads (parameters of_main) ts
    ≡ if_sees (word w.Void) (take_one (word w.Void) from >>= (λ void. ret (Listed []))) (if_sees begins_qualified_type (λ ts. cond (of_main && sees_two (word w.Int) name ts) (reads counted_parameters ts) (parameters_on [] ts)) (ret (Listed []))) ts
unfolding parameters listed_parameters
read_parameters true ts = rw (← read_after [] ts) refl
read_parameters false ts = rw (← read_after [] ts) refl

-- and what is after `int` and a name, which may count the texts of `main`
abbrev second_on : ParameterTree → Reader ParametersTree
second_on p = if_sees (mark m.Comma) (take_one (mark m.Comma) from >>= (λ comma. if_sees (word w.Const ∪ word w.Char) (reads texts) (parameters_on (p ∷ [])))) (ret (Listed (p ∷ [])))

read_second : (p : ParameterTree) (ts : List Tok) → bind {A = ParameterTree → ParametersTree} (if_sees (mark m.Comma) (reads second) (ret (λ p. Listed (p ∷ []))) ts) (λ make. ret (make p)) ≡ second_on p ts
unfolding second
read_second p ts = simp (bind_if, bind_twice) (ap (λ x. cond (sees (mark m.Comma) ts) x (ret (Listed (p ∷ [])) ts)) (bind_alike (take_one (mark m.Comma) from ts) _ _
    (λ comma us. ap₂ (cond (sees (word w.Const ∪ word w.Char) us)) (elim (reads texts us) as (λ (x : Read ParametersTree). bind x (λ a. ret a) ≡ x) [ Ok x ↦ refl | Err x ↦ refl ]) (read_after (p ∷ []) us))))

pub read_counted : (ts : List Tok) → reads counted_parameters ts ≡ (take_one (word w.Int) from >>= (λ int. take_one name named >>= (λ n. second_on (parameter_of Unqualified Int n)))) ts
unfolding counted_parameters
read_counted ts = simp bind_twice (bind_alike (take_one (word w.Int) from ts) _ _ (λ int us. bind_alike (take_one name named us) _ _ (λ n vs. read_second (parameter_of Unqualified Int n) vs)))

-- one head more of an interface's methods, or none
pub next_heads : (made : List HeadTree) (ts : List Tok) → joining begins_method (reads next_head) push made ts
    ≡ if_sees begins_method (reads method_head >>= (λ h. take_one (mark m.Semicolon) from >>= (λ end. joining begins_method (reads next_head) push (push made h)))) (ret made) ts
unfolding next_head
next_heads made ts = one_more begins_method next_head push (search taking) made ts ∙ ap (λ y. cond (sees begins_method ts) y (ret made ts)) (simp bind_twice)
