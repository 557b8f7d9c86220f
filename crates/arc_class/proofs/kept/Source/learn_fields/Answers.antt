use Rattle.std.proofs.Common.{◌≡◌, ℕ, List, ap, ◌∙◌}
use Rattle.arc_ast.specs.Tree.{unit_tree, interface_tree, field_trees}
use Rattle.arc_class.specs.Classes.{class_number}
use Rattle.arc_class.specs.Fields.{numbered}
use Rattle.arc_class.specs.Table.{class_number_in}
use Rattle.arc_class.proofs.FieldLists.{fields_made}
use Rattle.arc_class.proofs.TablePartsGrow.{kept_none}
use Rattle.arc_class.proofs.ClassViolations.{class_number_kept}
use Rattle.arc_class.proofs.kept.Source.learn_fields.Goals as goal
use Rattle.std.specs.Option.{option_or}

pub returns-clause-known : goal.returns-clause-known
returns-clause-known c =
    let u = unit_tree c.args.self.now.unit.now in
    let source = c.args.self.now in
    let x = c.args.interface.now in
    let class = c.args.class in
    let first = c.args.known.now.counted in
    let own = c.own_fields-own.result in
    let xs = field_trees own.earlier.now in
    let ys = field_trees own.later.now in
    let next = c.in_ok-before.before in
    let names : (sought : List ℕ) → class_number_in source.names sought ≡ class_number u.interfaces sought = λ sought. class_number_kept source.names u.interfaces sought (c.requires.knows.class_places sought) in
    fields_made u class first next _ (interface_tree x) xs ys c.superclass_before-known.result c.keep_own_places.new.places c.keep_fields-2.new.named
    c.superclass_before-known.ensures c.own_fields-own.ensures c.in_ok-keep_own_places.ensures
    (λ name. c.in_ok-known.ensures.kept u.interfaces names name ∙ ap (λ o. option_or o (numbered u.interfaces class next ys name)) (c.in_ok-before.ensures.kept u.interfaces names name
    ∙ ap (λ o. option_or o (numbered u.interfaces class first xs name)) (kept_none c.args.known.now.named name c.requires.named)))
    c.in_ok-before.ensures.counted c.in_ok-known.ensures.counted
