use Rattle.std.proofs.Common.{◌≡◌, ◌+◌, refl, ap, ◌∙◌}
use Rattle.arc_ast.specs.Tree.{result_tree}
use Rattle.arc_ast.specs.Types.{result_kind}
use Rattle.arc_spec.specs.Families.{method_family, is_init}
use Rattle.arc_scope.specs.Scopes.{owned_in, hidden_in}
use Rattle.arc_scope.specs.Views.{local_in}
use Rattle.arc_scope.proofs.VisibleVariables.{scope_is}
use Rattle.arc_scope.proofs.scope.Visible.in_method.Goals as goal

pub returns : goal.returns
returns c = λ table.
    let sign = c.args.head.now.sign in
    let selector = c.args.head.now.selector.items in
    let kind = result_kind (result_tree c.args.head.now.result) in
    let owns : c.is_init_method-owns.result ≡ is_init (method_family sign selector kind) =
    c.is_init_method-owns.ensures ∙ ap is_init (ap (λ name. method_family sign name c.kind-gives.result) c.deref.ensures.value ∙ ap (method_family sign selector) c.kind-gives.ensures) in
    let owned : c.owned_in-owned.result ≡ owned_in (is_init (method_family sign selector kind)) = c.owned_in-owned.ensures.number ∙ ap owned_in owns in
    scope_is _ _ _ _ _ _ _ _ _ _ _ _ _ _ _ _ _ refl refl c.kind-gives.ensures owns (ap (λ n. n + c.owned_in-owned.result) c.hidden_in-hidden.ensures.number ∙ ap (λ n. hidden_in sign + n) owned) (ap local_in c.new.ensures.items)
    (c.from.ensures ∙ c.hidden_in-hidden.ensures.number) (c.from-2.ensures ∙ owned)
