-- What a table has of a source that breaks no rule.
use Rattle.std.specs.Prelude.{◌≡◌, [], map, Some}
use Rattle.arc_ast.specs.Tree.{unit_tree}
use Rattle.arc_ast.specs.declared.tree.Sign.TheVariants as signs
use Rattle.arc_class.specs.declared.kept.Source.{Source}
use Rattle.arc_class.specs.declared.table.Checked.{Checked}
use Rattle.arc_class.specs.ClassRules.{broken}
use Rattle.arc_class.specs.FunctionNames.{number_of, is_main}
use Rattle.arc_class.specs.Owners.{FindsMethods, FindsFields}
use Rattle.arc_class.specs.private.Entries.{fields_tree, all_class_fields}
use Rattle.arc_class.specs.private.TableParts.{ArePartsOf}

-- The source breaks no rule, and this is what a table has of it.
pub record IsChecked (source : Source) (checked : Checked) : Type 0 where
  pub unbroken : broken (unit_tree source.unit.now) ≡ []
  pub main : number_of is_main (unit_tree source.unit.now).functions ≡ Some checked.main
  pub fields : map fields_tree checked.found.fields.items ≡ all_class_fields (unit_tree source.unit.now)
  pub owners : FindsFields checked.found.fields.items checked.found.owners
  pub parts : ArePartsOf source checked.all.parts
  pub class_methods : FindsMethods checked.all.parts.entries.items signs.Class checked.all.class_methods
  pub instance_methods : FindsMethods checked.all.parts.entries.items signs.Instance checked.all.instance_methods
