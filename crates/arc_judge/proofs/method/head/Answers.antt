use Rattle.std.proofs.Common.{nat_lt, sym, ap, ◌∙◌}
use Rattle.arc_class.specs.BrokenRules.{broken_if, first}
use Rattle.arc_ast.proofs.Trees.{length-parameter_trees}
use Rattle.arc_judge.proofs.method.head.Goals as goal
use Rattle.arc_judge.specs.declared.body.TheConstants.{MOST_PARAMETERS}

pub returns : goal.returns
returns c =
    let h = c.args.head.now in
    c.count_fault.ensures ∙ ap (λ n. first (broken_if (nat_lt MOST_PARAMETERS n) h.at 45)) (c.len.ensures ∙ h.parameters.ok.0 ∙ sym (length-parameter_trees h.parameters.items))
