use Rattle.std.proofs.Common.{ℕ, Option, ap, ◌∙◌}
use Rattle.arc_ast.specs.declared.tree.Kind.{Kind}
use Rattle.arc_ast.specs.Tree.{type_tree}
use Rattle.arc_ast.specs.Types.{type_kind}
use Rattle.arc_class.specs.declared.table.ClassId.{ClassId}
use Rattle.arc_class.specs.declared.table.Variable.{Variable}
use Rattle.arc_spec.specs.Sorts.{held_by, next_of}
use Rattle.arc_class.proofs.ClassesOfTypes.{class_same}
use Rattle.arc_class.proofs.kept.variable.Goals as goal

abbrev variable : ℕ → ℕ → Kind → Option ClassId → Variable
variable at number kind class = record { number = number; kind = kind; class = class; at = at }

pub returns-clause-variable : goal.returns-clause-variable
returns-clause-variable c = λ interfaces same.
    let at = c.args.global.now.at in
    let before = c.args.before in
    let type = type_tree c.args.global.now.type_name in
    let kind = type_kind type in
    ap (λ n. variable at n c.kind-kind.result c.type_class.result) (c.next.ensures ∙ ap (λ s. next_of s before) c.held_by.ensures ∙ ap (λ k. next_of (held_by k) before) c.kind-kind.ensures) ∙ ap (λ k. variable at (next_of (held_by kind) before) k c.type_class.result) c.kind-kind.ensures
    ∙ ap (variable at (next_of (held_by kind) before) kind) (c.type_class.ensures ∙ class_same c.args.names.now interfaces same type)
