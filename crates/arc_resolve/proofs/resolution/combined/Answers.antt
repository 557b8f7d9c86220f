use Rattle.std.proofs.Common.{ap, ◌∙◌}
use Rattle.arc_ast.specs.Operators.{sort_of}
use Rattle.arc_spec.specs.Resolved.{Binary}
use Rattle.arc_resolve.specs.private.ResolvedNodes.{part_of}
use Rattle.arc_checked.specs.Checked as checked
use Rattle.arc_scope.specs.Kinds.{given_kind}
use Rattle.arc_resolve.specs.SourceResolution.{Gives, converted}
use Rattle.arc_resolve.proofs.resolution.combined.Goals as goal

pub returns : goal.returns
returns c =
    let operator = c.args.operator in
    let kind = c.args.kind in
    let a = checked.value c.in_ok-left.left.value in
    let b = checked.value c.in_ok-right.right.value in
    ap (λ k. Gives k (Binary operator kind a b)) (c.given_kind.ensures ∙ ap (λ o. given_kind o kind) c.operator_sort.ensures) ∙ ap (λ x. Gives (given_kind (sort_of operator) kind) (Binary operator kind x b)) c.in_ok-left.ensures
    ∙ ap (λ x. Gives (given_kind (sort_of operator) kind) (Binary operator kind (converted kind (part_of c.args.left)) x)) c.in_ok-right.ensures
