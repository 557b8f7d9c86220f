-- What the rules read, as the code asks for it.
use Rattle.std.proofs.Common.{◌≡◌, ◌≤◌, ◌-◌, min, ℕ, zero, suc, List, false, cond, Ok, refl, sym, ap, ◌∙◌, arith}
use Rattle.arc_lex.specs.Tokens.{Tok}
use Rattle.arc_lex.specs.declared.mark.Mark.TheVariants as m
use Rattle.arc_ast.specs.declared.tree.BinaryOperator.TheVariants as operators
use Rattle.arc_ast.specs.declared.tree.Moment.TheVariants.{After}
use Rattle.arc_ast.specs.Tree.{ExprTree, Unary, Binary, begins}
use Rattle.arc_form.specs.Form.{unlimited}
use Rattle.arc_form.specs.Kinds.{mark}
use Rattle.arc_form.specs.Reader.{Reader, bind, ◌>>=◌, ret, sees, if_sees, take_one}
use Rattle.arc_form.specs.Operators.{marks_at, placed_operator}
use Rattle.arc_form.proofs.Binding.{bind_twice, pair_then}
use Rattle.arc_form.proofs.Joining.{joined_is}
use Rattle.arc_form.proofs.Sets.{sees_neither}
use Rattle.arc_form.proofs.Local.{Takes, weaker, then, takes_token, takes_ret}
use Rattle.arc_form.proofs.FormLocal.{read_is, fronts}
use Rattle.arc_grammar.specs.Grammar.{rules, reads_free, reads_on, body, expr, unary, binary, condition, begins_signed, operator_before, signed, begins_counting, counting, by_one, counted, parenthesized, postfix, prefixed, operation, expression, conditional_expr, table, assigning, marks_up_to, join, further, more, up_to, choice, continued, operations, begins_suffix, suffix, suffixes}
use Rattle.arc_grammar.proofs.Fits.{facts, sure, taking, read_rule}
use Rattle.arc_grammar.proofs.Loops.{one_more_on}
use Rattle.arc_parse.specs.declared.operator.TheConstants.{ASSIGNING, LOOSEST}

further_front : (l : ℕ) → Takes 1 (reads_free (further l))
unfolding further
further_front l = weaker 1 (omega arith) (then (takes_token (marks_at l table) (placed_operator operators.Add table)) (λ o. then (fronts facts body sure unlimited (binary (l - 1))) (λ right. takes_ret (o, right))))

-- what begins with a unary expression
after_unary : (k : ExprTree → Reader ExprTree) (ts : List Tok) → (reads_free prefixed >>= k) ts ≡ (rules unlimited unary >>= k) ts
unfolding body
after_unary k ts = ap (λ x. bind x k) (sym (read_rule unlimited unary ts))

pub read_expr : (ts : List Tok) → rules unlimited expr ts ≡ (rules unlimited unary >>= (λ left. reads_on operation left)) ts
unfolding body expression
read_expr ts = read_rule unlimited expr ts ∙ simp bind_twice (after_unary (λ left. reads_on operation left) ts)

pub read_condition : (ts : List Tok) → rules unlimited condition ts ≡ (rules unlimited unary >>= (λ left. reads_on continued left)) ts
unfolding body conditional_expr
read_condition ts = read_rule unlimited condition ts ∙ simp bind_twice (after_unary (λ left. reads_on continued left) ts)

read_operations : (l : ℕ) (ts : List Tok) → reads_free (operations l) ts ≡ (rules unlimited unary >>= (λ left. reads_on (up_to l) left)) ts
unfolding operations
read_operations l ts = simp bind_twice (after_unary (λ left. reads_on (up_to l) left) ts)

pub read_binary : (l : ℕ) (ts : List Tok) → l ≤ LOOSEST → rules unlimited (binary l) ts ≡ (rules unlimited unary >>= (λ left. reads_on (up_to l) left)) ts
unfolding body table
read_binary l ts p =
    let same : min l LOOSEST ≡ l = omega (arith, p) in
    read_is facts body sure unlimited (binary l) ts ∙ ap (λ k. reads_free (operations k) ts) same ∙ read_operations l ts

-- and a unary expression itself
pub read_unary : (ts : List Tok) → rules unlimited unary ts
    ≡ if_sees begins_signed (reads_free operator_before >>= (λ o. rules unlimited unary >>= (λ a. ret (Unary o.0 o.1 a))))
    (if_sees begins_counting (reads_free counting >>= (λ o. rules unlimited unary >>= (λ a. ret (by_one o.0 o After a)))) (if_sees (mark m.OpenParen) (reads_free parenthesized) (reads_free postfix))) ts
unfolding body prefixed signed counted
read_unary ts = read_rule unlimited unary ts ∙ simp bind_twice

-- the level of the operators that assign
pub assigning_is : assigning ≡ ASSIGNING
unfolding table
assigning_is = refl

-- the operators of all levels, and then what they choose
pub read_continued : (left : ExprTree) (ts : List Tok) → reads_on continued left ts ≡ (reads_on (up_to LOOSEST) left >>= (λ test. reads_on choice test)) ts
unfolding continued table
read_continued left ts = simp bind_twice

-- the operators of a level after a left operand, one by one
pub read_more : (l : ℕ) (left : ExprTree) (ts : List Tok)
    → reads_on (more l) left ts ≡ if_sees (marks_at l table) (take_one (marks_at l table) (placed_operator operators.Add table) >>= (λ o. rules unlimited (binary (l - 1)) >>= (λ right. reads_on (more l) (Binary (begins left) o.1 left right)))) (ret left) ts
unfolding more further
read_more l left ts =
    let K = marks_at l table in
    joined_is K (reads_free (further l)) join (further_front l) left ts
    ∙ ap (λ y. cond (sees K ts) y (ret left ts)) (pair_then (take_one K (placed_operator operators.Add table) ts) (rules unlimited (binary (l - 1))) (λ a. reads_on (more l) (join left a)))

-- those of the levels up to one, level by level
pub up_one : (l : ℕ) (left : ExprTree) (ts : List Tok) → reads_on (up_to (suc l)) left ts ≡ (reads_on (up_to l) left >>= (λ tighter. reads_on (more (suc l)) tighter)) ts
unfolding up_to
up_one l left ts = simp bind_twice

-- and none where no operator of such a level is ahead
pub read_past : (l : ℕ) (left : ExprTree) (ts : List Tok) → sees (marks_up_to l) ts ≡ false → reads_on (up_to l) left ts ≡ Ok (left, ts)
unfolding up_to
read_past zero left ts s = refl
read_past (suc l) left ts s =
    let p = sees_neither (marks_up_to l) (marks_at (suc l) table) ts s in
    up_one l left ts ∙ rw (read_past l left ts p.0) (read_more (suc l) left ts ∙ rw p.1 refl)

-- the suffixes after an operand, one by one
pub read_suffixes : (operand : ExprTree) (ts : List Tok)
    → reads_on suffixes operand ts ≡ if_sees begins_suffix (reads_on suffix operand >>= (λ whole. reads_on suffixes whole)) (ret operand) ts
unfolding suffixes
read_suffixes operand ts = one_more_on begins_suffix suffix (λ a make. make a) (search taking) operand ts
    ∙ ap (λ y. cond (sees begins_suffix ts) y (ret operand ts)) (sym (bind_twice (reads_free suffix ts) (λ make. ret (make operand)) (λ whole. reads_on suffixes whole)))
