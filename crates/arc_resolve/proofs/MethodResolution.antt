-- What methods are resolved to, which come after the functions, one more at a time; and copies of classes.
use Rattle.std.proofs.Common.{◌≡◌, ℕ, ◌+◌, ◌<◌, ◌≤◌, List, [], ◌∷◌, ◌++◌, length, get_or, drop, Option, append-nil, refl, sym, ap, ◌∙◌, map}
use Rattle.std.specs.List.{flat_map}
use Rattle.arc_ast.specs.declared.tree.Implementation.{Implementation}
use Rattle.arc_ast.specs.declared.tree.Method.{Method}
use Rattle.arc_ast.specs.declared.tree.Parameter.{Parameter}
use Rattle.arc_ast.specs.declared.tree.Stmt.{Stmt}
use Rattle.arc_ast.specs.Tree.{head_tree, parameter_trees, stmt_trees, method_trees, implementation_trees}
use Rattle.arc_spec.specs.declared.class.Class as declared
use Rattle.arc_spec.specs.Classes.{Class, class_of, classes_of}
use Rattle.arc_spec.specs.Resolved as resolved
use Rattle.arc_checked.specs.declared.program.CheckedFunction.{CheckedFunction}
use Rattle.arc_resolve.specs.private.ResolvedNodes.{function_of, functions_ahead, resolved_methods}
use Rattle.arc_checked.specs.Checked as checked
use Rattle.arc_resolve.specs.SourceResolution.{resolved_body, resolved_method}
use Rattle.arc_scope.specs.Scopes.{of_method}
use Rattle.arc_scope.specs.Scopes.{Known, Scope, with_parameters}
use Rattle.arc_resolve.proofs.StatementResolution.{functions_ahead-push}
use Rattle.arc_scope.proofs.ListSuffixes.{drop_turn, drop_end}

-- ---- methods

functions_ahead-append : (all : List CheckedFunction) (others : List resolved.Function) → functions_ahead all others ≡ checked.functions all ++ others
functions_ahead-append [] others = refl
functions_ahead-append (a ∷ all) others = ap (λ us. function_of a ∷ us) (functions_ahead-append all others)

-- one method more
pub method_turn : (known : Known) (class : Option ℕ) (xs : List Method) (i : ℕ) (x : Method) (named : List Parameter) (body : List Stmt) (s : Scope) (a : CheckedFunction) (old new : List CheckedFunction) (others whole : List resolved.Function) → i < length xs → x ≡ get_or xs i x
    → s ≡ of_method known class (head_tree x.head) → named ≡ x.head.parameters.items → body ≡ x.body.items → function_of a ≡ resolved_body (with_parameters s (parameter_trees named)) (stmt_trees body) → new ≡ old ++ a ∷ []
    → whole ≡ functions_ahead old (map (resolved_method known class) (method_trees (drop i xs)) ++ others) → whole ≡ functions_ahead new (map (resolved_method known class) (method_trees (drop (i + 1) xs)) ++ others)
method_turn known class xs i x named body s a old new others whole l e p m b h n w =
    let rest = map (resolved_method known class) (method_trees (drop (i + 1) xs)) ++ others in
    let start = of_method known class (head_tree x.head) in
    let own : function_of a ≡ resolved_body (with_parameters start (parameter_trees x.head.parameters.items)) (stmt_trees x.body.items) =
    h ∙ ap (λ q. resolved_body (with_parameters q (parameter_trees named)) (stmt_trees body)) p ∙ ap (λ us. resolved_body (with_parameters start (parameter_trees us)) (stmt_trees body)) m
    ∙ ap (λ us. resolved_body (with_parameters start (parameter_trees x.head.parameters.items)) (stmt_trees us)) b in
    w ∙ ap (λ us. functions_ahead old (map (resolved_method known class) (method_trees us) ++ others)) (drop_turn xs i x l e) ∙ ap (λ f. functions_ahead old (f ∷ rest)) (sym own) ∙ sym (functions_ahead-push old a rest) ∙ ap (λ us. functions_ahead us rest) (sym n)

pub method_end : (known : Known) (class : Option ℕ) (xs : List Method) (i : ℕ) (all : List CheckedFunction) (others whole : List resolved.Function) → length xs ≤ i → whole ≡ functions_ahead all (map (resolved_method known class) (method_trees (drop i xs)) ++ others)
    → functions_ahead all others ≡ whole
method_end known class xs i all others whole l w = sym (w ∙ ap (λ us. functions_ahead all (map (resolved_method known class) (method_trees us) ++ others)) (drop_end xs i l))

-- the methods of one implementation more
pub implementation_turn : (known : Known) (xs : List Implementation) (i : ℕ) (x : Implementation) (name : List ℕ) (class : Option ℕ) (items : List Method) (old new : List CheckedFunction) (whole : List resolved.Function) → i < length xs → x ≡ get_or xs i x → name ≡ x.name.items → class ≡ known.class name
    → items ≡ x.methods.items → ((others : List resolved.Function) → functions_ahead new others ≡ functions_ahead old (map (resolved_method known class) (method_trees items) ++ others))
    → whole ≡ functions_ahead old (flat_map (resolved_methods known) (implementation_trees (drop i xs))) → whole ≡ functions_ahead new (flat_map (resolved_methods known) (implementation_trees (drop (i + 1) xs)))
implementation_turn known xs i x name class items old new whole l e p c m h w =
    let rest = flat_map (resolved_methods known) (implementation_trees (drop (i + 1) xs)) in
    w ∙ ap (λ us. functions_ahead old (flat_map (resolved_methods known) (implementation_trees us))) (drop_turn xs i x l e)
    ∙ ap (λ b. functions_ahead old (map (resolved_method known b) (method_trees x.methods.items) ++ rest)) (sym (c ∙ ap known.class p)) ∙ ap (λ us. functions_ahead old (map (resolved_method known class) (method_trees us) ++ rest)) (sym m) ∙ sym (h rest)

pub implementation_end : (known : Known) (xs : List Implementation) (i : ℕ) (old all : List CheckedFunction) → length xs ≤ i → functions_ahead old (flat_map (resolved_methods known) (implementation_trees xs)) ≡ functions_ahead all (flat_map (resolved_methods known) (implementation_trees (drop i xs)))
    → checked.functions all ≡ checked.functions old ++ flat_map (resolved_methods known) (implementation_trees xs)
implementation_end known xs i old all l w =
    sym (append-nil (checked.functions all)) ∙ sym (functions_ahead-append all []) ∙ sym (ap (λ us. functions_ahead all (flat_map (resolved_methods known) (implementation_trees us))) (drop_end xs i l)) ∙ sym w
    ∙ functions_ahead-append old (flat_map (resolved_methods known) (implementation_trees xs))

-- ---- classes

classes_push : (all : List declared.Class) (a : declared.Class) (others : List Class) → classes_of (all ++ a ∷ []) ++ others ≡ classes_of all ++ class_of a ∷ others
classes_push [] a others = refl
classes_push (b ∷ all) a others = ap (λ us. class_of b ∷ us) (classes_push all a others)

-- one class more
pub class_turn : (xs : List declared.Class) (i : ℕ) (x a : declared.Class) (old new : List declared.Class) (whole : List Class) → i < length xs → x ≡ get_or xs i x → class_of a ≡ class_of x → new ≡ old ++ a ∷ []
    → whole ≡ classes_of old ++ classes_of (drop i xs) → whole ≡ classes_of new ++ classes_of (drop (i + 1) xs)
class_turn xs i x a old new whole l e h n w =
    let rest = classes_of (drop (i + 1) xs) in
    w ∙ ap (λ us. classes_of old ++ classes_of us) (drop_turn xs i x l e) ∙ ap (λ c. classes_of old ++ c ∷ rest) (sym h) ∙ sym (classes_push old a rest) ∙ ap (λ us. classes_of us ++ rest) (sym n)

pub class_end : (xs : List declared.Class) (i : ℕ) (all : List declared.Class) (whole : List Class) → length xs ≤ i → whole ≡ classes_of all ++ classes_of (drop i xs) → classes_of all ≡ whole
class_end xs i all whole l w = sym (w ∙ ap (λ us. classes_of all ++ classes_of us) (drop_end xs i l) ∙ append-nil (classes_of all))
