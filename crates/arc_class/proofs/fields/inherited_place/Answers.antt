use Rattle.std.proofs.Common.{◌≡◌, false, is_some, not, sym, ap, ◌∙◌}
use Rattle.arc_class.proofs.FieldLists.{field_kept, least_kept, not_inherited}
use Rattle.arc_class.proofs.FirstDeclaration.{none_is}
use Rattle.arc_class.proofs.fields.inherited_place.Goals as goal

pub returns-then-is_none : goal.returns-then-is_none
returns-then-is_none c u e =
    let missing : is_some c.field_of.result ≡ false = c.is_none.ensures ∙ ap not c.if-is_none.true in
    sym (not_inherited u c.args.above c.args.name.now (sym (field_kept u c.args.classes.now e c.args.above c.args.name.now) ∙ sym c.field_of.ensures ∙ none_is c.field_of.result missing))

pub returns : goal.returns
returns c u e = c.least_from.ensures ∙ least_kept u c.args.classes.now e c.args.above c.args.name.now
