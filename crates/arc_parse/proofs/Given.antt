-- What parentheses hold, and what calls, messages and heads of methods give or take, which is joined to what there is.
use Rattle.std.proofs.Common.{◌≡◌, ℕ, List, [], ◌∷◌, ◌++◌, map as list_map, append_assoc, append-nil, cond, refl, sym, ap, ap₂, ◌∙◌}
use Rattle.std.specs.List.{flat_map}
use Rattle.arc_lex.specs.Tokens.{Tok}
use Rattle.arc_lex.specs.declared.mark.Mark.TheVariants as m
use Rattle.arc_ast.specs.declared.tree.BinaryOperator.TheVariants.{Multiply}
use Rattle.arc_ast.specs.Tree.{ExprTree, TypeTree, Cast, Paren, Object, Binary, Name, ParameterTree}
use Rattle.arc_form.specs.Form.{Limits, ◌⨾◌, call, run, unlimited}
use Rattle.arc_form.specs.Joining.{joining}
use Rattle.arc_form.specs.Kinds.{mark, name}
use Rattle.arc_form.specs.Operators.{fold}
use Rattle.arc_form.specs.Reader.{Read, ◌>>=◌, ret, bind, sees, if_sees, if_sees_two, take_one, from, named}
use Rattle.arc_form.proofs.Binding.{bind_twice, bind_if, bind_alike, second_then}
use Rattle.arc_grammar.specs.Grammar.{Part, rules, expr, reads, reads_free, reads_on, these, after_comma, listed, given, called, the, some_parts, parts, typed, selector, sent, unary, begins_plain_type, plain_type, suffixes, inside, cast_to_plain, cast, product, cast_or_product, parenthesized, continued}
use Rattle.arc_grammar.proofs.Fits.{takes, taking}
use Rattle.arc_grammar.proofs.Loops.{one_more, one_more_free, read_listed_free}
use Rattle.arc_parse.specs.private.Given.{cast_on, enclosed_on, more_arguments_on, arguments_on, add_part, parts_on, last_part_on, next_typed_on}
use Rattle.arc_parse.specs.private.Signatures.{push}

-- ---- arguments

-- further arguments, one by one
read_more_arguments : (before : List ExprTree) (ts : List Tok)
    → more_arguments_on before ts ≡ if_sees (mark m.Comma) (take_one (mark m.Comma) from >>= (λ comma. rules unlimited expr >>= (λ a. more_arguments_on (push before a)))) (ret before) ts
unfolding after_comma more_arguments_on
read_more_arguments before ts = one_more_free (mark m.Comma) (after_comma (call expr)) push (takes refl refl) before ts
    ∙ ap (λ y. cond (sees (mark m.Comma) ts) y (ret before ts)) (second_then (take_one (mark m.Comma) from ts) (rules unlimited expr) (λ a. more_arguments_on (push before a)))

-- the next argument, and what is after it
after_one : (made : List ExprTree) (ts : List Tok) → (more_arguments_on made >>= (λ all. take_one (mark m.CloseParen) from >>= (λ end. ret all))) ts
    ≡ if_sees (mark m.Comma) (take_one (mark m.Comma) from >>= (λ comma. arguments_on made)) (take_one (mark m.CloseParen) from >>= (λ end. ret made)) ts
unfolding arguments_on
after_one made ts = ap (λ (x : Read (List ExprTree)). bind x (λ all. take_one (mark m.CloseParen) from >>= (λ end. ret all))) (read_more_arguments made ts) ∙ simp (bind_if, bind_twice)

pub read_arguments : (before : List ExprTree) (ts : List Tok) → arguments_on before ts
    ≡ (rules unlimited expr >>= (λ a. if_sees (mark m.Comma) (take_one (mark m.Comma) from >>= (λ comma. arguments_on (push before a))) (take_one (mark m.CloseParen) from >>= (λ end. ret (push before a))))) ts
unfolding arguments_on
read_arguments before ts = bind_alike (rules unlimited expr ts) _ _ (λ a us. after_one (push before a) us)

-- and all of a call
some_given : {A : Type 0} (part : Part A) (ts : List Tok) → bind {A = List A × ℕ} (reads_free (listed part ⨾ the m.CloseParen) ts) (λ (all, end). ret all)
    ≡ (reads_free part >>= (λ a. joining (mark m.Comma) (reads_free (after_comma part)) push (a ∷ []) >>= (λ all. take_one (mark m.CloseParen) from >>= (λ end. ret all)))) ts
some_given {A} part ts =
    bind_twice (reads_free (listed part) ts) (λ all. take_one (mark m.CloseParen) from >>= (λ end. ret (all, end))) (λ (p : List A × ℕ). ret p.0)
    ∙ bind_alike (reads_free (listed part) ts) _ _ (λ all us. bind_twice (take_one (mark m.CloseParen) from us) (λ end. ret (all, end)) (λ (p : List A × ℕ). ret p.0))
    ∙ ap (λ (x : Read (List A)). bind x (λ all. take_one (mark m.CloseParen) from >>= (λ end. ret all))) (read_listed_free part ts)
    ∙ bind_twice (reads_free part ts) (λ a. joining (mark m.Comma) (reads_free (after_comma part)) push (a ∷ [])) (λ all. take_one (mark m.CloseParen) from >>= (λ end. ret all))

pub read_given : (ts : List Tok) → reads_free given ts ≡ if_sees (mark m.CloseParen) (take_one (mark m.CloseParen) from >>= (λ end. ret [])) (arguments_on []) ts
unfolding given arguments_on more_arguments_on
read_given ts = ap (λ y. cond (sees (mark m.CloseParen) ts) (bind {A = ℕ} (take_one (mark m.CloseParen) from ts) (λ end. ret [])) y) (some_given (call expr) ts)

-- ---- parts of selectors

fold_parts : {A : Type 0} (s : List ℕ × List A) (others : List ((ℕ × List ℕ) × (ℕ × A)))
    → fold add_part s others ≡ (s.0 ++ flat_map (λ (n, p). n.1 ++ 58 ∷ []) others, s.1 ++ list_map (λ (n, (colon, a)). a) others)
fold_parts s [] = ap₂ (λ a b. (a, b)) (sym (append-nil s.0)) (sym (append-nil s.1))
fold_parts s (p ∷ others) = fold_parts (add_part s p) others ∙ ap₂ (λ a b. (a, b)) (simp append_assoc) (append_assoc s.1 (p.1.1 ∷ []) (list_map (λ (n, (colon, a)). a) others))

-- the first part, and then further ones
first_part : {A : Type 0} (limits : Limits) (part : Part A) (first : List ℕ) (ts : List Tok) → (run rules limits (some_parts part) >>= (λ make. ret (make first))) ts
    ≡ (take_one (mark m.Colon) from >>= (λ colon. run rules limits part >>= (λ a. parts_on limits part (first ++ 58 ∷ [], a ∷ [])))) ts
unfolding some_parts parts_on
first_part limits part first ts = simp (bind_twice, fold_parts, append_assoc)

-- ---- those of messages, one by one

read_more_parts : (s : List ℕ × List ExprTree) (ts : List Tok) → parts_on unlimited (call expr) s ts
    ≡ if_sees name (take_one name named >>= (λ n. take_one (mark m.Colon) from >>= (λ colon. rules unlimited expr >>= (λ a. parts_on unlimited (call expr) ((s.0 ++ n.1) ++ 58 ∷ [], push s.1 a))))) (ret s) ts
unfolding parts_on
read_more_parts s ts = one_more_free name (called ⨾ the m.Colon ⨾ call expr) add_part (takes refl refl) s ts ∙ ap (λ y. cond (sees name ts) y (ret s ts)) (simp bind_twice)

pub read_last_part : (s : List ℕ × List ExprTree) (ts : List Tok) → last_part_on unlimited (call expr) s ts
    ≡ (take_one (mark m.Colon) from >>= (λ colon. rules unlimited expr >>= (λ a. if_sees name (take_one name named >>= (λ n. last_part_on unlimited (call expr) ((s.0 ++ 58 ∷ []) ++ n.1, push s.1 a))) (ret (s.0 ++ 58 ∷ [], push s.1 a))))) ts
unfolding last_part_on
read_last_part s ts = bind_alike (take_one (mark m.Colon) from ts) _ _ (λ colon us. bind_alike (rules unlimited expr us) _ _ (λ a vs. read_more_parts (s.0 ++ 58 ∷ [], push s.1 a) vs))

read_parts : (first : List ℕ) (ts : List Tok) → reads_on (parts (call expr)) first ts
    ≡ if_sees (mark m.Colon) (last_part_on unlimited (call expr) (first, [])) (ret (first, [])) ts
unfolding parts last_part_on
read_parts first ts = bind_if {A = List ℕ → List ℕ × List ExprTree} (sees (mark m.Colon) ts) (reads_free (some_parts (call expr)) ts) (ret (λ first. (first, [])) ts) (λ make. ret (make first))
    ∙ ap (λ y. cond (sees (mark m.Colon) ts) y (ret (first, []) ts)) (first_part unlimited (call expr) first ts)

-- and a whole selector with its arguments
pub read_sent : (ts : List Tok) → reads_free sent ts
    ≡ (take_one name named >>= (λ n. if_sees (mark m.Colon) (last_part_on unlimited (call expr) (n.1, [])) (ret (n.1, [])) >>= (λ s. take_one (mark m.CloseSquare) from >>= (λ end. ret (n.0, s))))) ts
unfolding sent
read_sent ts = simp bind_twice (bind_alike (take_one name named ts) _ _ (λ n us. sym (bind_twice (reads_free (parts (call expr)) us) (λ make. ret (make n.1)) (λ s. take_one (mark m.CloseSquare) from >>= (λ end. ret (n.0, s))))
    ∙ ap (λ (x : Read (List ℕ × List ExprTree)). bind x (λ s. take_one (mark m.CloseSquare) from >>= (λ end. ret (n.0, s)))) (read_parts n.1 us)))

-- ---- what parentheses hold

pub read_parenthesized : (ts : List Tok) → reads_free parenthesized ts
    ≡ (take_one (mark m.OpenParen) from >>= (λ at. if_sees begins_plain_type (reads_free plain_type >>= (λ type. cast_on at type.1)) (if_sees_two name (mark m.Star) (reads_on cast_or_product at) (rules unlimited expr >>= (λ a. enclosed_on at a))))) ts
unfolding parenthesized cast_to_plain inside cast_on enclosed_on
read_parenthesized ts = simp (bind_if, bind_twice)

pub read_cast_or_product : (at : ℕ) (ts : List Tok) → reads_on cast_or_product at ts
    ≡ (take_one name named >>= (λ n. take_one (mark m.Star) from >>= (λ star. if_sees (mark m.CloseParen) (cast_on at (Object n.0 n.1)) (rules unlimited unary >>= (λ right. reads_on continued (Binary n.0 Multiply (Name n.0 n.1) right) >>= (λ first. enclosed_on at first)))))) ts
unfolding cast_or_product cast product cast_on enclosed_on
read_cast_or_product at ts = simp (bind_if, bind_twice) (bind_alike (take_one name named ts) _ _ (λ n us. bind_alike (take_one (mark m.Star) from us) _ _ (λ star vs.
    ap (λ y. cond (sees (mark m.CloseParen) vs) (cast_on at (Object n.0 n.1) vs) y) (bind_alike (rules unlimited unary vs) _ _ (λ right ws.
    sym (bind_twice (reads_free continued ws) (λ make. ret (make (Binary n.0 Multiply (Name n.0 n.1) right))) (λ first. enclosed_on at first)))))))

-- ---- and those of heads of methods

pub read_typed_parts : (s : List ℕ × List ParameterTree) (ts : List Tok) → last_part_on these typed s ts ≡ (next_typed_on s >>= (λ s. parts_on these typed s)) ts
unfolding last_part_on next_typed_on
read_typed_parts s ts = simp bind_twice

pub read_more_typed : (s : List ℕ × List ParameterTree) (ts : List Tok) → parts_on these typed s ts
    ≡ if_sees name (take_one name named >>= (λ n. next_typed_on (s.0 ++ n.1, s.1) >>= (λ s. parts_on these typed s))) (ret s) ts
unfolding parts_on last_part_on
read_more_typed s ts = one_more name (called ⨾ the m.Colon ⨾ typed) add_part (search taking) s ts
    ∙ ap (λ y. cond (sees name ts) y (ret s ts)) (simp bind_twice (bind_alike (take_one name named ts) _ _ (λ n us. read_typed_parts (s.0 ++ n.1, s.1) us)))

pub read_selector : (ts : List Tok) → reads selector ts ≡ (take_one name named >>= (λ n. if_sees (mark m.Colon) (last_part_on these typed (n.1, [])) (ret (n.1, [])))) ts
unfolding selector parts last_part_on
read_selector ts = simp (bind_twice, bind_if) (bind_alike (take_one name named ts) _ _ (λ n us. ap (λ y. cond (sees (mark m.Colon) us) y (ret (n.1, []) us)) (first_part these typed n.1 us)))
