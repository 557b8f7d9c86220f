use Rattle.std.proofs.Common.{◌≡◌, nat_lt, List, [], length, option_map, sym, ap, ◌∙◌}
use Rattle.std.specs.Option.{option_map_or}
use Rattle.arc_ast.specs.declared.tree.Kind.{Kind}
use Rattle.arc_ast.specs.Tree.{ParameterTree, result_tree, parameter_trees, parameters_tree, stmt_trees}
use Rattle.arc_ast.specs.Types.{result_kind}
use Rattle.arc_class.specs.BrokenRules.{Broken, broken_if, first}
use Rattle.arc_sites.specs.Sites.{named_parameters}
use Rattle.arc_class.proofs.FirstBrokenRule.{first_both}
use Rattle.arc_ast.proofs.Trees.{length-parameter_trees}
use Rattle.arc_judge.specs.Fault.{reported}
use Rattle.arc_judge.specs.Rules.{broken_body}
use Rattle.arc_scope.specs.Scopes.{outermost}
use Rattle.arc_scope.specs.Views.{known_in}
use Rattle.arc_judge.proofs.body.function.Goals as goal
use Rattle.arc_judge.specs.declared.body.TheConstants.{MOST_PARAMETERS}

pub returns : goal.returns
returns c =
    let f = c.args.function.now in
    let named = c.named_parameters-named.result.now in
    let all = named_parameters (parameters_tree f.parameters) in
    let known = known_in c.args.table.now in
    let own : option_map reported c.count_fault-own.result ≡ first (broken_if (nat_lt MOST_PARAMETERS (length all)) f.at 45) =
    c.count_fault-own.ensures ∙ ap (λ n. first (broken_if (nat_lt MOST_PARAMETERS n) f.at 45)) (sym (length-parameter_trees named) ∙ ap length c.named_parameters-named.ensures) in
    let body = option_map (λ b. stmt_trees b.items) f.body in
    let gives = result_kind (result_tree f.result) in
    let inside : Kind → List ParameterTree → List Broken = λ k ps. option_map_or (broken_body (outermost known k) ps) body [] in
    first_both (broken_if (nat_lt MOST_PARAMETERS (length all)) f.at 45) (inside gives all) (option_map reported c.count_fault-own.result) (option_map reported c.in_ok-inside.inside) (option_map reported c.earlier.result) own
    (c.in_ok-inside.ensures ∙ ap (λ k. first (inside k (parameter_trees named))) c.kind-gives.ensures ∙ ap (λ ps. first (inside gives ps)) c.named_parameters-named.ensures) c.earlier.ensures
