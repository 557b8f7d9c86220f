use Rattle.std.proofs.Common.{refl, ap, ◌∙◌, length}
use Rattle.std.specs.List.{filter}
use Rattle.arc_ast.specs.Tree.{unit_tree, global_trees}
use Rattle.arc_spec.specs.Classes.{classes_of}
use Rattle.arc_resolve.specs.SourceResolution.{names_objects}
use Rattle.arc_resolve.specs.private.ResolvedNodes.{first_numbers}
use Rattle.arc_resolve.proofs.UnitResolution.{resolved_is}
use Rattle.arc_resolve.proofs.unit.resolve_unit.Goals as goal

pub returns-clause-resolved : goal.returns-clause-resolved
returns-clause-resolved c =
    resolved_is (unit_tree c.args.unit.now) c.args.table.now (record { unit = c.args.unit; table = c.args.table; functions = c.in_ok-all_functions.field-0; main = c.args.table.now.main; globals = c.in_ok-first_numbers.field-0; strong_globals = c.strong_globals.result; classes = c.in_ok-copied.field-0 }) c.requires c.in_ok-all_functions.ensures refl
    (c.in_ok-first_numbers.ensures ∙ ap (λ gs. first_numbers (global_trees gs)) c.deref.ensures.value) (c.strong_globals.ensures ∙ ap (λ gs. length (filter names_objects (global_trees gs))) c.deref-2.ensures.value) (c.in_ok-copied.ensures ∙ ap classes_of c.deref-3.ensures.value)
