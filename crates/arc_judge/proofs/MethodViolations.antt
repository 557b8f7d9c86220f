-- The first violation in methods, interfaces and implementations, one more at a time.
use Rattle.std.proofs.Common.{◌≡◌, ℕ, ◌+◌, ◌<◌, List, length, get_or, drop, Option, refl, ap, ◌∙◌}
use Rattle.std.specs.List.{flat_map}
use Rattle.arc_ast.specs.declared.tree.Implementation.{Implementation}
use Rattle.arc_ast.specs.declared.tree.Interface.{Interface}
use Rattle.arc_ast.specs.declared.tree.Method.{Method}
use Rattle.arc_ast.specs.declared.tree.MethodHead.{MethodHead}
use Rattle.arc_ast.specs.declared.tree.Parameter.{Parameter}
use Rattle.arc_ast.specs.declared.tree.Stmt.{Stmt}
use Rattle.arc_ast.specs.Tree.{parameter_trees, stmt_trees, head_tree, head_trees, method_tree, method_trees, interface_trees, implementation_trees}
use Rattle.arc_class.specs.BrokenRules.{Broken, first, earlier_of}
use Rattle.arc_class.proofs.FirstBrokenRule.{first_turn, first_both}
use Rattle.arc_judge.specs.Rules.{broken_body, broken_head, broken_method}
use Rattle.arc_judge.specs.private.ExpressionJudgements.{broken_interface, broken_implementation}
use Rattle.arc_scope.specs.Scopes.{of_method}
use Rattle.arc_scope.specs.Scopes.{Known, Scope}
use Rattle.arc_scope.proofs.ListSuffixes.{drop_turn}

pub heads_turn : (xs : List MethodHead) (i : ℕ) (x : MethodHead) (so_far one now whole : Option Broken) → i < length xs → x ≡ get_or xs i x → one ≡ first (broken_head (head_tree x)) → now ≡ earlier_of so_far one
    → whole ≡ earlier_of so_far (first (flat_map broken_head (head_trees (drop i xs)))) → whole ≡ earlier_of now (first (flat_map broken_head (head_trees (drop (i + 1) xs))))
heads_turn xs i x so_far one now whole l e o n w =
    first_turn (broken_head (head_tree x)) (flat_map broken_head (head_trees (drop (i + 1) xs))) so_far one now whole o n (w ∙ ap (λ us. earlier_of so_far (first (flat_map broken_head (head_trees us)))) (drop_turn xs i x l e))

pub interfaces_turn : (xs : List Interface) (i : ℕ) (x : Interface) (items : List MethodHead) (so_far one now whole : Option Broken) → i < length xs → x ≡ get_or xs i x → items ≡ x.methods.items → one ≡ first (flat_map broken_head (head_trees items)) → now ≡ earlier_of so_far one
    → whole ≡ earlier_of so_far (first (flat_map broken_interface (interface_trees (drop i xs)))) → whole ≡ earlier_of now (first (flat_map broken_interface (interface_trees (drop (i + 1) xs))))
interfaces_turn xs i x items so_far one now whole l e m o n w =
    first_turn (flat_map broken_head (head_trees x.methods.items)) (flat_map broken_interface (interface_trees (drop (i + 1) xs))) so_far one now whole (o ∙ ap (λ us. first (flat_map broken_head (head_trees us))) m) n
    (w ∙ ap (λ us. earlier_of so_far (first (flat_map broken_interface (interface_trees us)))) (drop_turn xs i x l e))

-- a method's parameters and its body stand in Vecs
pub method_is : (known : Known) (class : Option ℕ) (m : Method) (s : Scope) (named : List Parameter) (body : List Stmt) (own inside both : Option Broken) → own ≡ first (broken_head (head_tree m.head)) → s ≡ of_method known class (head_tree m.head)
    → named ≡ m.head.parameters.items → body ≡ m.body.items → inside ≡ first (broken_body s (parameter_trees named) (stmt_trees body)) → both ≡ earlier_of own inside → both ≡ first (broken_method known class (method_tree m))
method_is known class m s named body own inside both o p n b h e =
    first_both (broken_head (head_tree m.head)) (broken_body (of_method known class (head_tree m.head)) (parameter_trees m.head.parameters.items) (stmt_trees m.body.items)) own inside both o (h ∙ rw (p, n, b) refl) e

pub methods_turn : (known : Known) (class : Option ℕ) (xs : List Method) (i : ℕ) (x : Method) (so_far one now whole : Option Broken) → i < length xs → x ≡ get_or xs i x → one ≡ first (broken_method known class (method_tree x)) → now ≡ earlier_of so_far one
    → whole ≡ earlier_of so_far (first (flat_map (broken_method known class) (method_trees (drop i xs)))) → whole ≡ earlier_of now (first (flat_map (broken_method known class) (method_trees (drop (i + 1) xs))))
methods_turn known class xs i x so_far one now whole l e o n w =
    first_turn (broken_method known class (method_tree x)) (flat_map (broken_method known class) (method_trees (drop (i + 1) xs))) so_far one now whole o n
    (w ∙ ap (λ us. earlier_of so_far (first (flat_map (broken_method known class) (method_trees us)))) (drop_turn xs i x l e))

pub implementations_turn : (known : Known) (xs : List Implementation) (i : ℕ) (x : Implementation) (name : List ℕ) (class : Option ℕ) (items : List Method) (so_far one now whole : Option Broken) → i < length xs → x ≡ get_or xs i x → name ≡ x.name.items → class ≡ known.class name
    → items ≡ x.methods.items → one ≡ first (flat_map (broken_method known class) (method_trees items)) → now ≡ earlier_of so_far one
    → whole ≡ earlier_of so_far (first (flat_map (broken_implementation known) (implementation_trees (drop i xs)))) → whole ≡ earlier_of now (first (flat_map (broken_implementation known) (implementation_trees (drop (i + 1) xs))))
implementations_turn known xs i x name class items so_far one now whole l e p c m o n w =
    let own = known.class x.name.items in
    first_turn (flat_map (broken_method known own) (method_trees x.methods.items)) (flat_map (broken_implementation known) (implementation_trees (drop (i + 1) xs))) so_far one now whole
    (o ∙ ap (λ us. first (flat_map (broken_method known class) (method_trees us))) m ∙ ap (λ b. first (flat_map (broken_method known b) (method_trees x.methods.items))) (c ∙ ap known.class p)) n
    (w ∙ ap (λ us. earlier_of so_far (first (flat_map (broken_implementation known) (implementation_trees us)))) (drop_turn xs i x l e))
