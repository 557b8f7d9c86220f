use Rattle.std.proofs.Common.{refl, sym, ap, ◌∙◌, Some, position}
use Rattle.std.specs.Str.{bytes_eq}
use Rattle.arc_class.specs.Table.{names_of}
use Rattle.arc_class.proofs.NameEquality.{self_eq, names_with_key, added_place}
use Rattle.arc_class.proofs.table.ClassTable.sel_register_name.Goals as goal

pub returns-clause-registered : goal.returns-clause-registered
returns-clause-registered c =
    let name = c.args.name in
    let old = c.args.self.now.selectors.keys in
    record {
      declared = record { functions = refl; first_functions = refl; globals = refl; main = refl; names = refl; entries = refl; class_methods = refl; instance_methods = refl; declared = refl; defined = refl; named_fields = refl; field_owners = refl; fields = refl; classes = refl; built_in = refl };
      selectors = ap names_of c.in_ok-number.ensures.keys ∙ names_with_key old name;
      is_numbered = ap (position (λ key. bytes_eq name.now key.now)) c.in_ok-number.ensures.keys ∙ added_place (λ key. bytes_eq name.now key.now) name (self_eq name.now) old ∙ ap Some (sym c.in_ok-number.ensures.index);
    }
