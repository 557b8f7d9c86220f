-- What a table has of a source's classes and selectors.
use Rattle.std.specs.Prelude.{◌≡◌, suc, ◌∷◌, length, map}
use Rattle.arc_ast.specs.Tree.{unit_tree}
use Rattle.arc_spec.specs.Classes.{classes_of}
use Rattle.arc_class.specs.declared.building.Parts.{Parts}
use Rattle.arc_class.specs.declared.kept.Source.{Source}
use Rattle.arc_class.specs.Classes.{selectors}
use Rattle.arc_class.specs.Fields.{all_fields_from}
use Rattle.arc_class.specs.RuntimeClasses as running
use Rattle.arc_class.specs.Lookups.{names_of, list_of, built_in_from}
use Rattle.arc_class.specs.private.Entries.{entry_tree, root_entry, class_entry}

-- These are the parts of the table of the source.
pub record ArePartsOf (source : Source) (parts : Parts) : Type 0 where
  pub selectors : names_of parts.selectors.keys ≡ selectors (unit_tree source.unit.now)
  pub entries : map (entry_tree source.names) parts.entries.items ≡ root_entry ∷ map (class_entry (unit_tree source.unit.now)) (unit_tree source.unit.now).interfaces
  pub fields : map list_of parts.fields.items ≡ all_fields_from (unit_tree source.unit.now) 0 (suc (length (unit_tree source.unit.now).interfaces))
  pub classes : classes_of parts.classes.items ≡ running.classes (unit_tree source.unit.now)
  pub built_in : parts.built_in ≡ built_in_from source.function_count
