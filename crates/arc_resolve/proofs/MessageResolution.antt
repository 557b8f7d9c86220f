-- What messages and assignments are resolved to.
use Rattle.std.proofs.Common.{◌≡◌, ℕ, List, Option, Some, None, Vec, Box, Global, option_map, refl, ap, ◌∙◌}
use Rattle.std.specs.Option.{unwrap_or, option_and_then}
use Rattle.arc_ast.specs.declared.tree.Expr as ast
use Rattle.arc_ast.specs.declared.tree.Expr.{Expr}
use Rattle.arc_ast.specs.declared.tree.Kind.{Kind}
use Rattle.arc_ast.specs.Tree.{ExprTree, ExprTrees, Send, SendSuper, expr_tree}
use Rattle.arc_class.specs.Table.{number_of_class}
use Rattle.arc_spec.specs.Resolved.{Arguments}
use Rattle.arc_resolve.specs.declared.resolution.Typed.{Typed}
use Rattle.arc_resolve.specs.private.ResolvedNodes.{Resolves, resolution}
use Rattle.arc_scope.specs.ParameterKinds.{receiver_sign}
use Rattle.arc_resolve.specs.SourceResolution.{Resolution, assigned, resolved, resolved_all, sent, sent_super, to_super}
use Rattle.arc_scope.specs.Scopes.{Scope, class_of, class_receiver}
use Rattle.arc_scope.specs.Views.{sent_class, super_class, super_kind}

-- a message to a class
pub resolves_class : (s : Scope) (at part : ℕ) (r : ExprTree) (selector : List ℕ) (arguments : ExprTrees) (class : ℕ) (all : Arguments) (typed : Typed) → Some class ≡ class_receiver s r → all ≡ resolved_all s (Some (s.known.passed (receiver_sign (class_receiver s r)) selector)) arguments
    → option_map number_of_class typed.class ≡ sent_class s.known (Some class) None selector → resolution typed.value ≡ sent s r (Some class) (class_of s r) (resolved s r) selector all → Resolves s (Send at part r selector arguments) typed
resolves_class s at part r selector arguments class all typed e m c v = record {
  class = c ∙ ap (λ x. sent_class s.known x (class_of s r) selector) e;
  value = v ∙ ap (λ x. sent s r x (class_of s r) (resolved s r) selector all) e ∙ ap (sent s r (class_receiver s r) (class_of s r) (resolved s r) selector) m;
}

-- a message to an object
pub resolves_object : (s : Scope) (at part : ℕ) (r : ExprTree) (selector : List ℕ) (arguments : ExprTrees) (object typed : Typed) (all : Arguments) → None ≡ class_receiver s r → Resolves s r object → all ≡ resolved_all s (Some (s.known.passed (receiver_sign (class_receiver s r)) selector)) arguments
    → option_map number_of_class typed.class ≡ sent_class s.known None (option_map number_of_class object.class) selector → resolution typed.value ≡ sent s r None (option_map number_of_class object.class) (resolution object.value) selector all
    → Resolves s (Send at part r selector arguments) typed
resolves_object s at part r selector arguments object typed all e o m c v = record {
  class = c ∙ ap (λ x. sent_class s.known None x selector) o.class ∙ ap (λ x. sent_class s.known x (class_of s r) selector) e;
  value = v ∙ ap (λ x. sent s r None x (resolution object.value) selector all) o.class ∙ ap (λ x. sent s r None (class_of s r) x selector all) o.value
      ∙ ap (λ x. sent s r x (class_of s r) (resolved s r) selector all) e ∙ ap (sent s r (class_receiver s r) (class_of s r) (resolved s r) selector) m;
}

-- a message to `super`
pub resolves_super : (s : Scope) (at part super_at : ℕ) (selector : List ℕ) (arguments : ExprTrees) (kind : Option Kind) (from n : ℕ) (all : Arguments) (typed : Typed) → kind ≡ super_kind s selector → from ≡ unwrap_or (option_and_then s.known.superclass s.class) 0 → n ≡ unwrap_or (s.known.selector selector) 0
    → all ≡ resolved_all s (Some (s.known.passed s.sign selector)) arguments → option_map number_of_class typed.class ≡ super_class s selector → resolution typed.value ≡ to_super s.sign s.owns kind from selector n all → Resolves s (SendSuper at part super_at selector arguments) typed
resolves_super s at part super_at selector arguments kind from n all typed k f m a c v = record {
  class = c;
  value = v ∙ ap (λ x. to_super s.sign s.owns x from selector n all) k ∙ ap (λ x. to_super s.sign s.owns (super_kind s selector) x selector n all) f
      ∙ ap (λ x. to_super s.sign s.owns (super_kind s selector) (unwrap_or (option_and_then s.known.superclass s.class) 0) selector x all) m
      ∙ ap (sent_super s selector) a;
}

-- where an expression lies
abbrev boxed : Box (Unit {0}) Global → Expr → Box Expr Global
boxed q a = record { ptr = q.ptr; alloc = q.alloc; value = a }

-- an assignment to what is no `self`, no name and no field
pub assigned_other : (s : Scope) (a : Expr) (b : Resolution) → ((at : ℕ) (x : Box Expr Global) → a ≡ ast.Paren at x → ⊥) → ((at : ℕ) → a ≡ ast.Itself at → ⊥) → ((at : ℕ) (name : Vec ℕ Global) → a ≡ ast.Name at name → ⊥)
    → ((at name_at : ℕ) (x : Box Expr Global) (name : Vec ℕ Global) → a ≡ ast.Arrow at name_at x name → ⊥) → b ≡ assigned s (expr_tree a) b
assigned_other s (ast.Paren' at q x) b p i n r = absurd (p at (boxed q x) refl)
assigned_other s (ast.Itself at) b p i n r = absurd (i at refl)
assigned_other s (ast.Name at name) b p i n r = absurd (n at name refl)
assigned_other s (ast.Arrow' at name_at q x name) b p i n r = absurd (r at name_at (boxed q x) name refl)
assigned_other s _ b p i n r = refl
