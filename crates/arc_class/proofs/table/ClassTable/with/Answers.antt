use Rattle.std.proofs.Common.{◌≡◌, [], Option, refl, ap, ◌∙◌}
use Rattle.std.specs.Option.{option_map_or, option_or}
use Rattle.arc_ast.specs.Tree.{HeadTree, unit_tree}
use Rattle.arc_ast.specs.declared.tree.Sign.TheVariants as signs
use Rattle.arc_spec.specs.declared.class.Gives.TheVariants.{Number}
use Rattle.arc_spec.specs.Classes.{gives_of}
use Rattle.arc_class.specs.declared.table.ClassTable.{ClassTable}
use Rattle.arc_class.specs.Classes.{result_of, number_among}
use Rattle.arc_class.specs.FunctionNames.{parameter_kinds, listed_kinds}
use Rattle.arc_class.specs.Table.{built_in_from}
use Rattle.arc_class.proofs.FieldLists.{field_kept, lists_kept}
use Rattle.arc_class.proofs.NameEquality.{position_number}
use Rattle.arc_class.proofs.ClassViolations.{class_number_kept}
use Rattle.arc_class.proofs.TableLookup.{function_class_is, superclass_is, result_is, any_is}
use Rattle.arc_class.proofs.table.ClassTable.with.Goals as goal

first_passed : {a b x y : Option HeadTree} → a ≡ x → b ≡ y → option_map_or (λ h. parameter_kinds h.parameters) (option_or a b) [] ≡ option_map_or (λ h. parameter_kinds h.parameters) (option_or x y) []
first_passed e f = rw (e, f) refl

first_given : {a b x y : Option HeadTree} → a ≡ x → b ≡ y → option_map_or (λ h. gives_of (result_of h)) (option_or a b) Number ≡ option_map_or (λ h. gives_of (result_of h)) (option_or x y) Number
first_given e f = rw (e, f) refl

pub invariant_of-result : goal.invariant_of-result
invariant_of-result c =
    record {
      class_methods_reported = c.requires.checked.class_methods;
      instance_methods_reported = c.requires.checked.instance_methods;
      fields_reported = c.requires.checked.owners;
    }

pub returns : goal.returns
returns c =
    let u = unit_tree c.args.source.unit.now in
    let checked = c.args.checked in
    let parts = checked.all.parts in
    let table : ClassTable = record {
      functions = c.args.source.known;
      first_functions = c.args.source.functions;
      globals = c.args.source.globals;
      main = checked.main;
      names = c.args.source.names;
      entries = parts.entries;
      class_methods = checked.all.class_methods;
      instance_methods = checked.all.instance_methods;
      declared = c.args.source.declared;
      defined = c.args.source.defined;
      named_fields = checked.found.fields;
      field_owners = checked.found.owners;
      fields = parts.fields;
      selectors = parts.selectors;
      classes = parts.classes;
      built_in = parts.built_in;
      class_methods_reported = c.requires.checked.class_methods;
      instance_methods_reported = c.requires.checked.instance_methods;
      fields_reported = c.requires.checked.owners;
    } in
    record {
      knows = c.requires.knows.knows;
      globals = c.requires.knows.globals;
      parameters = λ name. ap (λ f. option_map_or listed_kinds f []) (c.requires.knows.first_functions name);
      passed = λ sign selector. first_passed (c.requires.knows.declared_heads sign selector) (c.requires.knows.defined_heads sign selector);
      gives = λ sign selector. first_given (c.requires.knows.declared_heads sign selector) (c.requires.knows.defined_heads sign selector);
      function_classes = λ name. function_class_is u table name (λ sought. class_number_kept table.names u.interfaces sought (c.requires.knows.class_places sought)) (c.requires.knows.first_functions name);
      main = c.requires.checked.main;
      numbers = λ name. class_number_kept table.names u.interfaces name (c.requires.knows.class_places name);
      superclasses = λ class. superclass_is u table class c.requires.checked.parts.entries;
      results = λ from sign selector. result_is u table from sign selector c.requires.checked.parts.entries;
      any_results = λ selector. any_is u table selector (c.requires.knows.declared_heads signs.Instance selector) (c.requires.knows.defined_heads signs.Instance selector);
      selectors = λ name. position_number table.selectors.keys name ∙ ap (λ names. number_among names name) c.requires.checked.parts.selectors;
      named = λ from name. field_kept u table.named_fields.items c.requires.checked.fields from name;
      all_fields = λ class. lists_kept u table.fields.items c.requires.checked.parts.fields class;
      classes = c.requires.checked.parts.classes;
      built_in = c.requires.checked.parts.built_in ∙ ap built_in_from c.requires.knows.counts;
    }
