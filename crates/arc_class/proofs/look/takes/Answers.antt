use Rattle.std.proofs.Common.{Some, length, sym, ap, ◌∙◌}
use Rattle.arc_ast.specs.Tree.{parameters_tree}
use Rattle.arc_class.specs.FunctionNames.{takes}
use Rattle.arc_ast.proofs.Trees.{length-parameter_trees}
use Rattle.arc_class.proofs.look.takes.Goals as goal

pub returns-in-Listed : goal.returns-in-Listed
returns-in-Listed c = ap Some (ap length c.deref-all.ensures.value ∙ sym (length-parameter_trees c.in-Listed.all.items)) ∙ sym (ap (λ p. takes (parameters_tree p)) c.in-Listed.is)
