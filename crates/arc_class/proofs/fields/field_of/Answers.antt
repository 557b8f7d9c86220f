use Rattle.std.proofs.Common.{◌∙◌, Some, None, sym, ap}
use Rattle.arc_class.specs.Lookups.{field_among}
use Rattle.arc_class.proofs.OwnerLookup.{field_reported}
use Rattle.arc_class.proofs.fields.field_of.Goals as goal

pub returns-in-None : goal.returns-in-None
returns-in-None c =
    let classes = c.args.classes.now in
    let name = c.args.name.now in
    field_reported classes c.args.owners.now c.requires name c.in-Some.number (sym c.knows.ensures ∙ c.if-not-knows.false) None (sym c.in-None.is ∙ c.owner.ensures)
    ∙ ap (λ class. field_among classes class name) (sym c.in-Some.is)

pub returns-in-Some-owner : goal.returns-in-Some-owner
returns-in-Some-owner c =
    let classes = c.args.classes.now in
    let name = c.args.name.now in
    c.own_field.ensures
    ∙ field_reported classes c.args.owners.now c.requires name c.in-Some.number (sym c.knows.ensures ∙ c.if-not-knows.false) (Some c.in-Some-owner.owner) (sym c.in-Some-owner.is ∙ c.owner.ensures)
    ∙ ap (λ number. field_among classes number name) (sym c.in-Some.is)
