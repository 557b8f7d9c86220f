use Rattle.std.proofs.Common.{◌≡◌, length, nat_lt, ap, ◌∙◌}
use Rattle.arc_ast.specs.Tree.{unit_tree, interface_tree}
use Rattle.arc_class.specs.BrokenRules.{broken_if, first}
use Rattle.arc_class.specs.declared.classes.TheConstants.{MOST_FIELDS}
use Rattle.arc_class.specs.ClassRules.{broken_own_fields}
use Rattle.arc_class.specs.Fields.{fields, sorts_of_fields}
use Rattle.arc_spec.specs.Sorts.{total}
use Rattle.arc_class.proofs.FieldLists.{counts_kept}
use Rattle.arc_class.proofs.SortCountSums.{counts_total, sorts_length}
use Rattle.arc_class.proofs.FirstBrokenRule.{first_both}
use Rattle.arc_class.proofs.kept.Source.members_fault.Goals as goal

pub returns : goal.returns
returns c =
    let u = unit_tree c.args.self.now.unit.now in
    let i = c.args.interface.now in
    let class = c.args.class in
    let all = c.args.fields.now in
    let count : total c.counted_among.result ≡ length (fields u class) =
    ap total (c.counted_among.ensures ∙ counts_kept u all c.requires.fields class c.requires.there) ∙ counts_total (sorts_of_fields (fields u class)) ∙ sorts_length (fields u class) in
    let many : c.is_above-many.result ≡ nat_lt MOST_FIELDS (length (fields u class)) = c.is_above-many.ensures ∙ ap (nat_lt MOST_FIELDS) count in
    first_both (broken_if (nat_lt MOST_FIELDS (length (fields u class))) i.at 27) (broken_own_fields u class (interface_tree i)) _ _ _
    (c.fault_if-many.ensures ∙ ap (λ b. first (broken_if b i.at 27)) many) c.in_ok-again.ensures c.earlier.ensures
