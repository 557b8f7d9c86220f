use Rattle.std.proofs.Common.{◌∙◌, Some, None, slice_get, sym, ap}
use Rattle.arc_class.specs.Lookups.{own_given_in}
use Rattle.arc_class.proofs.OwnerLookup.{result_reported}
use Rattle.arc_class.proofs.table.ClassTable.nearest_result.Goals as goal

pub returns-in-None : goal.returns-in-None
returns-in-None c =
    let table = c.args.self.now in
    let sign = c.args.sign in
    let name = c.args.selector.now in
    result_reported table sign name c.owners-owners.result.now c.owners-owners.ensures c.args.class (sym c.knows.ensures ∙ c.if-not-knows.false) None (sym c.in-None.is ∙ c.owner.ensures)

pub returns-in-Some : goal.returns-in-Some
returns-in-Some c =
    let table = c.args.self.now in
    let sign = c.args.sign in
    let name = c.args.selector.now in
    c.own_result.ensures ∙ ap (λ es. own_given_in table.names c.in-Some.owner (slice_get es c.in-Some.owner) sign name) c.deref-in-Some.ensures.value
    ∙ result_reported table sign name c.owners-owners.result.now c.owners-owners.ensures c.args.class (sym c.knows.ensures ∙ c.if-not-knows.false) (Some c.in-Some.owner) (sym c.in-Some.is ∙ c.owner.ensures)
