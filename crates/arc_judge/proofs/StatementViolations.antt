-- The first violation in statements and functions, one more at a time.
use Rattle.std.proofs.Common.{◌≡◌, ℕ, ◌+◌, ◌<◌, Bool, List, [], length, get_or, drop, Vec, Global, Option, Some, option_map, refl, sym, ap, ◌∙◌}
use Rattle.std.specs.List.{flat_map}
use Rattle.std.specs.Option.{option_map_or}
use Rattle.arc_ast.specs.declared.tree.Kind.{Kind}
use Rattle.arc_ast.specs.declared.tree.Stmt as stmt
use Rattle.arc_ast.specs.declared.tree.Stmt.{Stmt}
use Rattle.arc_ast.specs.declared.tree.Function.{Function}
use Rattle.arc_ast.specs.Tree.{ParameterTree, stmt_tree, stmt_trees, function_tree, function_trees}
use Rattle.arc_class.specs.BrokenRules.{Broken, first, earlier_of}
use Rattle.arc_class.proofs.FirstBrokenRule.{first_turn}
use Rattle.arc_judge.specs.Rules.{broken_stmt, broken_stmts, broken_body, broken_function}
use Rattle.arc_scope.specs.Scopes.{Known, Scope, outermost, leave, scope_after, scope_after_all}
use Rattle.arc_scope.proofs.ListSuffixes.{drop_turn}
use Rattle.arc_ast.proofs.Trees.{block_tree}

-- one statement more is reported
pub statements_turn : (in_loop : Bool) (s after : Scope) (xs : List Stmt) (i : ℕ) (x : Stmt) (so_far one now whole : Option Broken) → i < length xs → x ≡ get_or xs i x → one ≡ first (broken_stmt in_loop s (stmt_tree x))
    → after ≡ scope_after s (stmt_tree x) → now ≡ earlier_of so_far one → whole ≡ earlier_of so_far (first (broken_stmts in_loop s (stmt_trees (drop i xs)))) → whole ≡ earlier_of now (first (broken_stmts in_loop after (stmt_trees (drop (i + 1) xs))))
statements_turn in_loop s after xs i x so_far one now whole l e o a n w =
    first_turn (broken_stmt in_loop s (stmt_tree x)) (broken_stmts in_loop (scope_after s (stmt_tree x)) (stmt_trees (drop (i + 1) xs))) so_far one now whole o n
    (w ∙ ap (λ us. earlier_of so_far (first (broken_stmts in_loop s (stmt_trees us)))) (drop_turn xs i x l e))
    ∙ ap (λ p. earlier_of now (first (broken_stmts in_loop p (stmt_trees (drop (i + 1) xs))))) (sym a)

pub after_turn : (s after whole : Scope) (xs : List Stmt) (i : ℕ) (x : Stmt) → i < length xs → x ≡ get_or xs i x → after ≡ scope_after s (stmt_tree x) → whole ≡ scope_after_all s (stmt_trees (drop i xs)) → whole ≡ scope_after_all after (stmt_trees (drop (i + 1) xs))
after_turn s after whole xs i x l e a w = w ∙ ap (λ us. scope_after_all s (stmt_trees us)) (drop_turn xs i x l e) ∙ ap (λ p. scope_after_all p (stmt_trees (drop (i + 1) xs))) (sym a)

-- a block's statements stand in a Vec
pub block_is : (a : Stmt) (at : ℕ) (all : Vec Stmt Global) (items : List Stmt) → a ≡ stmt.Block at all → items ≡ all.items → (in_loop : Bool) (s : Scope) → first (broken_stmts in_loop s (stmt_trees items)) ≡ first (broken_stmt in_loop s (stmt_tree a))
block_is a at all items e m in_loop s = ap (λ us. first (broken_stmts in_loop s (stmt_trees us))) m ∙ sym (ap (λ t. first (broken_stmt in_loop s t)) (ap stmt_tree e ∙ block_tree at all))

pub block_after : (a : Stmt) (at : ℕ) (all : Vec Stmt Global) (items : List Stmt) → a ≡ stmt.Block at all → items ≡ all.items → (s : Scope) → leave s (scope_after_all s (stmt_trees items)) ≡ scope_after s (stmt_tree a)
block_after a at all items e m s = ap (λ us. leave s (scope_after_all s (stmt_trees us))) m ∙ sym (ap (scope_after s) (ap stmt_tree e ∙ block_tree at all))

-- one function more is reported
pub functions_turn : (known : Known) (xs : List Function) (i : ℕ) (x : Function) (so_far one now whole : Option Broken) → i < length xs → x ≡ get_or xs i x → one ≡ first (broken_function known (function_tree x)) → now ≡ earlier_of so_far one
    → whole ≡ earlier_of so_far (first (flat_map (broken_function known) (function_trees (drop i xs)))) → whole ≡ earlier_of now (first (flat_map (broken_function known) (function_trees (drop (i + 1) xs))))
functions_turn known xs i x so_far one now whole l e o n w =
    first_turn (broken_function known (function_tree x)) (flat_map (broken_function known) (function_trees (drop (i + 1) xs))) so_far one now whole o n (w ∙ ap (λ us. earlier_of so_far (first (flat_map (broken_function known) (function_trees us)))) (drop_turn xs i x l e))

-- a function's body stands in a Vec, if there is one
pub body_is : (gives : Kind) (known : Known) (s : Scope) (named : List ParameterTree) (maybe : Option (Vec Stmt Global)) (body : Vec Stmt Global) (items : List Stmt) → maybe ≡ Some body → items ≡ body.items → s ≡ outermost known gives
    → first (broken_body s named (stmt_trees items)) ≡ first (option_map_or (broken_body (outermost known gives) named) (option_map (λ b. stmt_trees b.items) maybe) [])
body_is gives known s named maybe body items e m n = rw (n, m, e) refl
