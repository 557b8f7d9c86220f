use Rattle.std.proofs.Common.{◌≡◌, ◌∙◌, ◌∷◌, ◌⊎◌, inl, inr, ℕ, pos, true, false, nat_lt, get_or, Some, ap, sym, refl, rules, arith, to_z, of_z, w64}
use Rattle.std.specs.Prelude.{slice_get}
use Rattle.std.specs.Int.{cast_signed}
use Rattle.arc_spec.specs.Classes.{classes_of, descends}
use Rattle.arc_spec.specs.HolderCounts.{count_of}
use Rattle.arc_cells.specs.Cells.{Cell, IsCell}
use Rattle.arc_code.specs.CodeSteps.{program_of}
use Rattle.arc_steps.specs.Places.{machine_view}
use Rattle.arc_steps.proofs.NumberFieldSimulation.{field_reference, get_field_nil, get_field_cell, get_field_other, get_field_short, get_field_room, get_field_went}
use Rattle.arc_steps.proofs.place.Place.get_field.Goals as goal
use Rattle.arc_steps.proofs.place.Place.get_field.Goals.{then-has_field, else-has_field}

some_same : (a b : ℕ) → Some a ≡ Some b → a ≡ b
some_same a b e = cc

pub reference-object-requires : goal.reference-object-requires
reference-object-requires g c = field_reference g.S.Store.out (program_of c.args.code.now) (machine_view c.args.self.now c.args.objects.now) c.args.class c.args.index c.requires.ready

pub take-requires : goal.take-requires
take-requires g c = field_reference g.S.Store.out (program_of c.args.code.now) (machine_view c.args.self.now c.args.objects.now) c.args.class c.args.index c.requires.ready

pub returns-then-object-eq0-clause-went : goal.returns-then-object-eq0-clause-went
returns-then-object-eq0-clause-went g c = get_field_nil g.S.Store.out (program_of c.args.code.now) (machine_view c.args.self.now c.args.objects.now) c.args.class c.args.index (c.reference-object.ensures ∙ ap Some c.if-object-eq0.true)

pub class-own-requires-clause-object : goal.class-own-requires-clause-object
class-own-requires-clause-object g c = get_field_cell g.S.Store.out (program_of c.args.code.now) (machine_view c.args.self.now c.args.objects.now) c.args.class c.args.index _ c.reference-object.ensures (omega arith) c.requires.ready

pub returns-then-not-is_of-clause-went : goal.returns-then-not-is_of-clause-went
returns-then-not-is_of-clause-went g c =
    let other : descends (classes_of c.args.code.now.classes.items) (Some c.class-own.result) c.args.class ≡ false = ap (λ cs. descends (classes_of cs) (Some c.class-own.result) c.args.class) (sym c.deref.ensures.value) ∙ sym c.is_of.ensures ∙ c.if-not-is_of.true in
    get_field_other g.S.Store.out (program_of c.args.code.now) (machine_view c.args.self.now c.args.objects.now) c.args.class c.args.index _ c.reference-object.ensures (omega arith) c.class-own.result c.class-own.ensures other

pub field-value-requires-clause-short : goal.field-value-requires-clause-short
field-value-requires-clause-short g c =
    let has : nat_lt c.args.index (count_of (slice_get (classes_of c.args.code.now.classes.items) c.class-own.result)) ≡ true = ap (λ cs. nat_lt c.args.index (count_of (slice_get (classes_of cs) c.class-own.result))) (sym c.deref-2.ensures.value) ∙ sym c.has_field.ensures ∙ c.if-has_field.true in
    (get_field_short g.S.Store.out (program_of c.args.code.now) (machine_view c.args.self.now c.args.objects.now) c.args.class c.args.index _ c.reference-object.ensures (omega arith) c.class-own.result c.class-own.ensures has c.requires.ready).0

pub field-value-requires-clause-field : goal.field-value-requires-clause-field
field-value-requires-clause-field g c =
    let has : nat_lt c.args.index (count_of (slice_get (classes_of c.args.code.now.classes.items) c.class-own.result)) ≡ true = ap (λ cs. nat_lt c.args.index (count_of (slice_get (classes_of cs) c.class-own.result))) (sym c.deref-2.ensures.value) ∙ sym c.has_field.ensures ∙ c.if-has_field.true in
    (get_field_short g.S.Store.out (program_of c.args.code.now) (machine_view c.args.self.now c.args.objects.now) c.args.class c.args.index _ c.reference-object.ensures (omega arith) c.class-own.result c.class-own.ensures has c.requires.ready).1

pub push-requires : goal.push-requires
push-requires g c =
    let right : descends (classes_of c.args.code.now.classes.items) (Some c.class-own.result) c.args.class ≡ true = ap (λ cs. descends (classes_of cs) (Some c.class-own.result) c.args.class) (sym c.deref.ensures.value) ∙ sym c.is_of.ensures ∙ c.if-not-is_of.false in
    let room = get_field_room g.S.Store.out (program_of c.args.code.now) (machine_view c.args.self.now c.args.objects.now) c.args.class c.args.index _ c.reference-object.ensures (omega arith) c.class-own.result c.class-own.ensures right c.requires.ready in
    omega (arith, room)

pub returns-clause-went : goal.returns-clause-went
returns-clause-went g c =
    let right : descends (classes_of c.args.code.now.classes.items) (Some c.class-own.result) c.args.class ≡ true = ap (λ cs. descends (classes_of cs) (Some c.class-own.result) c.args.class) (sym c.deref.ensures.value) ∙ sym c.is_of.ensures ∙ c.if-not-is_of.false in
    let has = elim c.if-has_field.branch as (λ _. ((nat_lt c.args.index (count_of (slice_get (classes_of c.args.code.now.classes.items) c.class-own.result)) ≡ true) × ((x : Cell) → IsCell (g.S.Store.out c.args.objects.now.store) c.reference-object.result x → c.if-has_field.value ≡ cast_signed w64 (get_or x.fields c.args.index 0))) ⊎ ((nat_lt c.args.index (count_of (slice_get (classes_of c.args.code.now.classes.items) c.class-own.result)) ≡ false) × (c.if-has_field.value ≡ pos 0))) [
      | then-has_field w ↦ inl (ap (λ cs. nat_lt c.args.index (count_of (slice_get (classes_of cs) c.class-own.result))) (sym c.deref-2.ensures.value) ∙ sym c.has_field.ensures ∙ w.if-has_field.true, λ x block. let same : w.field-value.result ≡ to_z w64 (of_z w64 w.field-value.result) = search rules in sym c.if-has_field.value-is ∙ w.value-is ∙ sym same ∙ w.field-value.ensures x block)
      | else-has_field w ↦ inr (ap (λ cs. nat_lt c.args.index (count_of (slice_get (classes_of cs) c.class-own.result))) (sym c.deref-2.ensures.value) ∙ sym c.has_field.ensures ∙ w.if-has_field.false, sym c.if-has_field.value-is ∙ w.value-is)
    ] in
    let both : Some c.take.result ≡ Some c.reference-object.result = sym (ap (λ l. slice_get l 0) c.take.ensures.named) ∙ c.reference-object.ensures in
    let same = some_same _ _ both in
    let top : c.args.objects.now.names ≡ c.reference-object.result ∷ c.take.new.self.names = c.take.ensures.named ∙ ap (λ w. w ∷ c.take.new.self.names) same in
    get_field_went g.S.Store.out (program_of c.args.code.now) (machine_view c.args.self.now c.args.objects.now) c.args.class c.args.index _ c.reference-object.ensures (omega arith) c.class-own.result c.class-own.ensures _ c.take.new.self.names _ top right has refl (ap (λ x. x.items) c.push.ensures.value ∙ ap (λ n. n ∷ c.args.self.now.stack.items) c.if-has_field.value-is) c.take.ensures.others
