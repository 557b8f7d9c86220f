use Rattle.std.proofs.Common.{◌≡◌, ℕ, List, ap, ◌∙◌, rules}
use Rattle.arc_ast.specs.Tree.{unit_tree, global_trees, interface_trees}
use Rattle.arc_class.specs.Classes.{class_number}
use Rattle.arc_class.specs.Globals.{known_global}
use Rattle.arc_class.specs.KeptNames.{places}
use Rattle.arc_class.specs.Table.{at_name, class_number_in}
use Rattle.arc_class.proofs.ClassViolations.{class_number_kept}
use Rattle.arc_class.proofs.kept.Source.new.Goals as goal

pub returns-clause-knows : goal.returns-clause-knows
returns-clause-knows c =
    let u = unit_tree c.args.unit.now in
    let names = c.in_ok-names.names in
    let there : (sought : List ℕ) → at_name names sought ≡ places 1 u.interfaces sought =
    λ sought. c.in_ok-names.ensures sought ∙ ap (λ is. places 1 (interface_trees is) sought) c.deref-2.ensures.value in
    let same : (sought : List ℕ) → class_number_in names sought ≡ class_number u.interfaces sought = λ sought. class_number_kept names u.interfaces sought (there sought) in
    record {
      knows = c.requires.known;
      first_functions = search rules;
      globals = λ name. c.in_ok-globals.ensures.kept u.interfaces same name ∙ ap (λ gs. known_global u.interfaces (global_trees gs) name) c.deref-3.ensures.value;
      class_places = there;
      implementations = search rules;
      counts = search rules;
      declared_heads = search rules;
      defined_heads = search rules;
    }
