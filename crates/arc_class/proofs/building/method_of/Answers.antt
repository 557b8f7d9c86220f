use Rattle.std.proofs.Common.{◌≡◌, ℕ, unwrap_or, ap, ◌∙◌}
use Rattle.arc_ast.specs.declared.tree.Sign.{Sign}
use Rattle.arc_ast.specs.Tree.{head_tree, parameter_trees}
use Rattle.arc_spec.specs.declared.class.Gives.{Gives}
use Rattle.arc_spec.specs.declared.class.Method.{Method}
use Rattle.arc_spec.specs.Classes.{gives_of}
use Rattle.arc_spec.specs.declared.sort_counts.SortCounts.{SortCounts}
use Rattle.arc_class.specs.Classes.{number_among, result_of}
use Rattle.arc_class.specs.FunctionNames.{parameter_kinds}
use Rattle.arc_spec.specs.Sorts.{counts_of_kinds}
use Rattle.arc_class.specs.Table.{names_of}
use Rattle.arc_class.proofs.building.method_of.Goals as goal

abbrev method_with : Sign → (selector : ℕ) → SortCounts → Gives → (runs : ℕ) → Method
method_with sign selector passed gives runs = record { sign = sign; selector = selector; takes = passed.numbers; objects = passed.objects; gives = gives; runs = runs }

pub returns : goal.returns
returns c =
    let h = c.args.head.now in
    let number : c.selector_number.result ≡ unwrap_or (number_among (names_of c.args.selectors.now.keys) h.selector.items) 0 =
    c.selector_number.ensures ∙ ap (λ n. unwrap_or (number_among (names_of c.args.selectors.now.keys) n) 0) c.deref-2.ensures.value in
    let passed : c.parameter_counts-passed.result ≡ counts_of_kinds (parameter_kinds (parameter_trees h.parameters.items)) =
    c.parameter_counts-passed.ensures ∙ ap (λ ps. counts_of_kinds (parameter_kinds (parameter_trees ps))) c.deref.ensures.value in
    let gives : c.gives_of.result ≡ gives_of (result_of (head_tree h)) = c.gives_of.ensures ∙ ap gives_of c.kind.ensures in
    ap (λ n. method_with h.sign n c.parameter_counts-passed.result c.gives_of.result c.args.runs) number
    ∙ ap (λ p. method_with h.sign (unwrap_or (number_among (names_of c.args.selectors.now.keys) h.selector.items) 0) p c.gives_of.result c.args.runs) passed
    ∙ ap (λ g. method_with h.sign (unwrap_or (number_among (names_of c.args.selectors.now.keys) h.selector.items) 0) (counts_of_kinds (parameter_kinds (parameter_trees h.parameters.items))) g c.args.runs) gives
