-- What arguments and calls are resolved to, also calls of printf.
use Rattle.std.proofs.Common.{◌≡◌, ℕ, ◌+◌, ◌<◌, ◌≤◌, List, [], ◌∷◌, ◌++◌, length, get_or, drop, Option, None, option_map, refl, sym, ap, ◌∙◌, arith}
use Rattle.arc_ast.specs.declared.tree.Expr.{Expr}
use Rattle.arc_ast.specs.declared.tree.Kind.{Kind}
use Rattle.arc_ast.specs.Tree.{ExprTree, ExprTrees, Integer, Text, Paren, Call, Nil, Itself, Name, Unary, Cast, Binary, Conditional, Arrow, Assign, Update, Send, SendSuper, and_expr, expr_tree, expr_trees}
use Rattle.arc_class.specs.Table.{number_of_class}
use Rattle.arc_spec.specs.Resolved as resolved
use Rattle.arc_checked.specs.declared.program.Piece.{Piece}
use Rattle.arc_scope.specs.declared.format.Begun.TheVariants.{Nothing}
use Rattle.arc_scope.specs.Formats.{parts, printed}
use Rattle.arc_spec.specs.Resolved.{Arguments, no_arguments}
use Rattle.arc_checked.specs.declared.program.Argument.{Argument}
use Rattle.arc_checked.specs.Checked as checked
use Rattle.arc_resolve.specs.private.ResolvedNodes.{Resolves, resolution, in_front, printing, text_of}
use Rattle.arc_scope.specs.declared.callee.Callee.{Callee}
use Rattle.arc_resolve.specs.declared.resolution.Typed.{Typed}
use Rattle.arc_resolve.specs.SourceResolution as resolving
use Rattle.arc_scope.specs.ParameterKinds.{first_wanted, wanted_by}
use Rattle.arc_resolve.specs.SourceResolution.{argument, called, resolved_all}
use Rattle.arc_scope.specs.Scopes.{Scope, callee}
use Rattle.arc_scope.proofs.ListSuffixes.{drop_turn, drop_end}

in_front-push : (all : List Argument) (a : Argument) (others : Arguments) → in_front (all ++ a ∷ []) others ≡ in_front all (checked.and_argument a others)
in_front-push [] a others = refl
in_front-push (b ∷ all) a others = ap (checked.and_argument b) (in_front-push all a others)

in_front-none : (all : List Argument) → in_front all no_arguments ≡ checked.arguments all
in_front-none [] = refl
in_front-none (b ∷ all) = ap (checked.and_argument b) (in_front-none all)

-- one argument more
pub values_turn : (s : Scope) (p q : Option (List Kind)) (xs : List Expr) (i : ℕ) (x : Expr) (old new : List Argument) (a : Argument) (kind : Option Kind) (whole : Arguments) → i < length xs → x ≡ get_or xs i x
    → whole ≡ in_front old (resolved_all s p (expr_trees (drop i xs))) → new ≡ old ++ a ∷ [] → ((others : Arguments) → checked.and_argument a others ≡ argument kind (resolving.resolved s (expr_tree x)) others) → kind ≡ first_wanted p → q ≡ option_map (drop 1) p
    → whole ≡ in_front new (resolved_all s q (expr_trees (drop (i + 1) xs)))
values_turn s p q xs i x old new a kind whole l e w n h k d =
    let others = expr_trees (drop (i + 1) xs) in
    let rest = resolved_all s (option_map (drop 1) p) others in
    let one : checked.and_argument a rest ≡ argument (first_wanted p) (resolving.resolved s (expr_tree x)) rest = h rest ∙ ap (λ o. argument o (resolving.resolved s (expr_tree x)) rest) k in
    w ∙ ap (λ us. in_front old (resolved_all s p (expr_trees us))) (drop_turn xs i x l e) ∙ ap (in_front old) (sym one) ∙ sym (in_front-push old a rest) ∙ ap (λ us. in_front us rest) (sym n)
    ∙ ap (λ k. in_front new (resolved_all s k others)) (sym d)

pub values_end : (s : Scope) (p : Option (List Kind)) (xs : List Expr) (i : ℕ) (all : List Argument) (whole : Arguments) → length xs ≤ i → whole ≡ in_front all (resolved_all s p (expr_trees (drop i xs))) → checked.arguments all ≡ whole
values_end s p xs i all whole l w = sym (w ∙ ap (λ us. in_front all (resolved_all s p (expr_trees us))) (drop_end xs i l) ∙ in_front-none all)

-- ---- calls of printf

-- a format is a text before the other arguments
format_is : (a : ExprTree) (others : ExprTrees) → resolving.format (and_expr a others) ≡ text_of a
format_is (Integer at n suffixed) others = refl
format_is (Text at bytes) others = refl
format_is (Paren at a) others = refl
format_is (Call at name arguments) others = refl
format_is (Nil at) others = refl
format_is (Itself at) others = refl
format_is (Name at name) others = refl
format_is (Unary at operator a) others = refl
format_is (Cast at type a) others = refl
format_is (Binary at operator a b) others = refl
format_is (Conditional at c a b) others = refl
format_is (Arrow at name_at a name) others = refl
format_is (Assign at sign a b) others = refl
format_is (Update at sign moment operator a b) others = refl
format_is (Send at part receiver selector arguments) others = refl
format_is (SendSuper at part super_at selector arguments) others = refl

pub printing_some : (s : Scope) (all : List Expr) (one : Expr) (others : List Expr) (format : List ℕ) (pieces : List Piece) (values : List Argument) → all ≡ one ∷ others → format ≡ text_of (expr_tree one)
    → checked.pieces pieces ≡ printed (parts Nothing format) → checked.arguments values ≡ resolved_all s None (expr_trees others) → resolved.Print (checked.pieces pieces) (checked.arguments values) ≡ printing s (expr_trees all)
printing_some s all one others format pieces values e f p v =
    let first = resolving.format (and_expr (expr_tree one) (expr_trees others)) in
    ap (λ all. resolved.Print all (checked.arguments values)) (p ∙ ap (λ bytes. printed (parts Nothing bytes)) (f ∙ sym (format_is (expr_tree one) (expr_trees others))))
    ∙ ap (resolved.Print (printed (parts Nothing first))) v ∙ sym (ap (λ us. printing s (expr_trees us)) e)

pub printing_none : (s : Scope) (all : List Expr) (pieces : List Piece) (values : List Argument) → length all ≡ 0 → pieces ≡ [] → checked.arguments values ≡ resolved_all s None (expr_trees all)
    → resolved.Print (checked.pieces pieces) (checked.arguments values) ≡ printing s (expr_trees all)
printing_none s [] pieces values l p v = rw (p, v) refl
printing_none s (a ∷ all) pieces values l p v = absurd (omega arith)

-- ---- calls

pub resolves_call : (s : Scope) (at : ℕ) (name : List ℕ) (arguments : ExprTrees) (function : Callee) (typed : Typed) → callee s.known name ≡ function → option_map number_of_class typed.class ≡ s.known.function_class name
    → resolution typed.value ≡ called function arguments (resolved_all s (wanted_by function (s.known.parameters name)) arguments) → Resolves s (Call at name arguments) typed
resolves_call s at name arguments function typed e c v = record {
  class = c;
  value = v ∙ ap (λ f. called f arguments (resolved_all s (wanted_by f (s.known.parameters name)) arguments)) (sym e);
}
