use Rattle.std.proofs.Common.{◌≡◌, ◌∙◌, sym, refl, Some, subst}
use Rattle.std.proofs.lemmas.Bool.{false≢true}
use Rattle.arc_cells.specs.Representation.{NamesBlock}
use Rattle.arc_steps.proofs.ClearingBlockKept.{field_stays, clears_still}
use Rattle.arc_steps.proofs.place.Place.clear_soon.Goals as goal

pub returns-then-is_last-clause-none : goal.returns-then-is_last-clause-none
returns-then-is_last-clause-none g c =
    let next = c.next_slot.ensures in
    let can = c.requires.can.next c.in-Some.slot (λ x is. sym c.in-Some.is ∙ c.next_slot.ensures x is) in
    let named = can.2 in
    let same : c.field_name-before.result ≡ can.1 = c.field_name-before.ensures named.cell named.block ∙ sym named.is in (
      refl,
      refl,
      record {
        slot = c.in-Some.slot;
        next = λ x is. sym c.in-Some.is ∙ c.next_slot.ensures x is;
        name = c.field_name-before.result;
        named = record { short = named.short; cell = named.cell; block = named.block; within = named.within; is = same ∙ named.is };
        last = c.if-is_last.ensures.0 refl;
      },
    )

pub clear-requires-clause-object : goal.clear-requires-clause-object
clear-requires-clause-object g c =
    let can = c.requires.can.next c.in-Some.slot (λ x is. sym c.in-Some.is ∙ c.next_slot.ensures x is) in
    let named = can.2 in
    let same : c.field_name-before.result ≡ can.1 = c.field_name-before.ensures named.cell named.block ∙ sym named.is in
    let block : NamesBlock (g.S.Store.out c.args.objects.now.store) can.1 = λ above. (let held = can.3 above in (held.0, held.1)) in
    clears_still g.S.Store.out c.args.objects.now c.lower.new.self c.field_name-before.result c.args.clearing.object c.args.clearing.left c.in-Some.slot c.requires.can.clears
    (record { short = named.short; cell = named.cell; block = named.block; within = named.within; is = same ∙ named.is }) (subst (λ name. NamesBlock (g.S.Store.out c.args.objects.now.store) name) (sym same) block) c.lower.ensures

pub clear-requires-clause-field : goal.clear-requires-clause-field
clear-requires-clause-field g c =
    let can = c.requires.can.next c.in-Some.slot (λ x is. sym c.in-Some.is ∙ c.next_slot.ensures x is) in
    let named = can.2 in
    let same : c.field_name-before.result ≡ can.1 = c.field_name-before.ensures named.cell named.block ∙ sym named.is in
    let block : NamesBlock (g.S.Store.out c.args.objects.now.store) can.1 = λ above. (let held = can.3 above in (held.0, held.1)) in
    field_stays g.S.Store.out c.args.objects.now c.lower.new.self c.field_name-before.result c.args.clearing.object c.args.clearing.left c.in-Some.slot c.requires.can.clears
    (record { short = named.short; cell = named.cell; block = named.block; within = named.within; is = same ∙ named.is }) (subst (λ name. NamesBlock (g.S.Store.out c.args.objects.now.store) name) (sym same) block) c.lower.ensures

pub returns-clause-some : goal.returns-clause-some
returns-clause-some g c =
    let next = c.next_slot.ensures in
    let can = c.requires.can.next c.in-Some.slot (λ x is. sym c.in-Some.is ∙ c.next_slot.ensures x is) in
    let named = can.2 in
    let same : c.field_name-before.result ≡ can.1 = c.field_name-before.ensures named.cell named.block ∙ sym named.is in (
      Some c.in-Some.slot,
      λ x is. sym c.in-Some.is ∙ c.next_slot.ensures x is,
      (
        refl,
        refl,
        refl,
        record {
          name = c.field_name-before.result;
          named = record { short = named.short; cell = named.cell; block = named.block; within = named.within; is = same ∙ named.is };
          others_hold = λ last. absurd (false≢true (c.if-is_last.ensures.1 last));
          low = c.lower.new.self;
          lowered = c.lower.ensures;
          cleared = c.clear.ensures;
        },
      ),
    )

pub field_name-before-requires-clause-short : goal.field_name-before-requires-clause-short
field_name-before-requires-clause-short g c =
    let can = c.requires.can.next c.in-Some.slot (λ x is. sym c.in-Some.is ∙ c.next_slot.ensures x is) in
    can.2.short

pub field_name-before-requires-clause-field : goal.field_name-before-requires-clause-field
field_name-before-requires-clause-field g c =
    let can = c.requires.can.next c.in-Some.slot (λ x is. sym c.in-Some.is ∙ c.next_slot.ensures x is) in
    (can.2.cell, can.2.block, can.2.within)

pub lower-requires-clause-object : goal.lower-requires-clause-object
lower-requires-clause-object g c =
    let can = c.requires.can.next c.in-Some.slot (λ x is. sym c.in-Some.is ∙ c.next_slot.ensures x is) in
    let named = can.2 in
    let same : c.field_name-before.result ≡ can.1 = c.field_name-before.ensures named.cell named.block ∙ sym named.is in
    let block : NamesBlock (g.S.Store.out c.args.objects.now.store) can.1 = λ above. (let held = can.3 above in (held.0, held.1)) in
    subst (λ name. NamesBlock (g.S.Store.out c.args.objects.now.store) name) (sym same) block

pub clear-requires-clause-slot : goal.clear-requires-clause-slot
clear-requires-clause-slot g c =
    let can = c.requires.can.next c.in-Some.slot (λ x is. sym c.in-Some.is ∙ c.next_slot.ensures x is) in
    can.2.short

pub clear-requires-clause-some : goal.clear-requires-clause-some
clear-requires-clause-some g c =
    let can = c.requires.can.next c.in-Some.slot (λ x is. sym c.in-Some.is ∙ c.next_slot.ensures x is) in
    can.0
