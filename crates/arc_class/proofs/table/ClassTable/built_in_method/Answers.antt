use Rattle.std.proofs.Common.{◌≡◌, true, Some, sym, ap, ◌∙◌}
use Rattle.arc_spec.specs.Classes.{classes_of, descends}
use Rattle.arc_class.specs.Table.{built_in_at}
use Rattle.arc_class.proofs.table.ClassTable.built_in_method.Goals as goal

pub returns : goal.returns
returns c =
    let table = c.args.self.now in
    let class = c.args.class.0 in
    let below : descends (classes_of table.classes.items) (Some class) 0 ≡ true = ap (λ all. descends (classes_of all) (Some class) 0) (sym c.deref.ensures.value) ∙ sym c.descends_from.ensures ∙ c.if-not-descends_from.false in
    rw below (c.at.ensures ∙ ap (built_in_at table.built_in c.args.sign) c.sel_get_name.ensures)
