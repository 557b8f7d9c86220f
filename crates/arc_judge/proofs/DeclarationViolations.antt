-- The first violation in parameters and in declared variables, one more at a time.
use Rattle.std.proofs.Common.{◌≡◌, ℕ, ◌+◌, ◌<◌, List, ◌++◌, length, get_or, drop, not, Option, option_map, sym, ap, ◌∙◌}
use Rattle.arc_ast.specs.declared.tree.Parameter.{Parameter}
use Rattle.arc_ast.specs.declared.tree.Variable.{Variable}
use Rattle.arc_ast.specs.Tree as tree
use Rattle.arc_ast.specs.Tree.{TypeTree, expr_tree, parameter_trees, variable_trees}
use Rattle.arc_class.specs.BrokenRules.{Broken, first, earlier_of, broken_if}
use Rattle.arc_class.proofs.FirstBrokenRule.{first_turn}
use Rattle.arc_judge.specs.Rules.{broken_parameters, broken_initial, broken_variables}
use Rattle.arc_scope.specs.Scopes.{Scope, has_place, declare}
use Rattle.arc_scope.proofs.ListSuffixes.{drop_turn}

pub reported_turn : (s after : Scope) (xs : List Parameter) (i : ℕ) (x : Parameter) (so_far one now whole : Option Broken) → i < length xs → x ≡ get_or xs i x → one ≡ first (broken_if (not (has_place s)) x.at 50) → after ≡ declare x.name.items (tree.type_tree x.type_name) s
    → now ≡ earlier_of so_far one → whole ≡ earlier_of so_far (first (broken_parameters s (parameter_trees (drop i xs)))) → whole ≡ earlier_of now (first (broken_parameters after (parameter_trees (drop (i + 1) xs))))
reported_turn s after xs i x so_far one now whole l e o a n w =
    first_turn (broken_if (not (has_place s)) x.at 50) (broken_parameters (declare x.name.items (tree.type_tree x.type_name) s) (parameter_trees (drop (i + 1) xs))) so_far one now whole o n
    (w ∙ ap (λ us. earlier_of so_far (first (broken_parameters s (parameter_trees us)))) (drop_turn xs i x l e))
    ∙ ap (λ p. earlier_of now (first (broken_parameters p (parameter_trees (drop (i + 1) xs))))) (sym a)

pub variables_turn : (type : TypeTree) (s after : Scope) (xs : List Variable) (i : ℕ) (x : Variable) (so_far one mid two now whole : Option Broken) → i < length xs → x ≡ get_or xs i x → one ≡ first (broken_if (not (has_place s)) x.at 50) → after ≡ declare x.name.items type s
    → mid ≡ earlier_of so_far one → two ≡ first (broken_initial after type (option_map expr_tree x.initial)) → now ≡ earlier_of mid two → whole ≡ earlier_of so_far (first (broken_variables type s (variable_trees (drop i xs))))
    → whole ≡ earlier_of now (first (broken_variables type after (variable_trees (drop (i + 1) xs))))
variables_turn type s after xs i x so_far one mid two now whole l e o a m t n w =
    let d = declare x.name.items type s in
    let rest = broken_variables type d (variable_trees (drop (i + 1) xs)) in
    first_turn (broken_initial d type (option_map expr_tree x.initial)) rest mid two now whole (t ∙ ap (λ p. first (broken_initial p type (option_map expr_tree x.initial))) a) n
    (first_turn (broken_if (not (has_place s)) x.at 50) (broken_initial d type (option_map expr_tree x.initial) ++ rest) so_far one mid whole o m (w ∙ ap (λ us. earlier_of so_far (first (broken_variables type s (variable_trees us)))) (drop_turn xs i x l e)))
    ∙ ap (λ p. earlier_of now (first (broken_variables type p (variable_trees (drop (i + 1) xs))))) (sym a)
