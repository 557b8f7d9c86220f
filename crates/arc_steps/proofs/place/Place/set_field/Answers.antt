use Rattle.std.proofs.Common.{◌≡◌, ◌∙◌, ap, ◌<◌, ◌⊎◌, inl, inr, ℤ, true, false, nat_lt, Some, subst, sym, refl, rules, arith, to_z, of_z, w64}
use Rattle.std.specs.Prelude.{slice_get}
use Rattle.arc_spec.specs.Classes.{classes_of, descends}
use Rattle.arc_spec.specs.HolderCounts.{count_of}
use Rattle.arc_cells.specs.Cells.{with_value}
use Rattle.arc_cells.specs.Representation.{Alters, memory_of}
use Rattle.arc_code.specs.CodeSteps.{program_of}
use Rattle.arc_steps.specs.Places.{machine_view}
use Rattle.arc_steps.proofs.NumberFieldSimulation.{set_field_few, set_field_nil, set_field_cell, set_field_other, set_field_short, set_field_went}
use Rattle.arc_steps.proofs.place.Place.set_field.Goals as goal
use Rattle.arc_steps.proofs.place.Place.set_field.Goals.{then-has_field, else-has_field}

pub reference-object-requires : goal.reference-object-requires
reference-object-requires g c = set_field_few g.S.Store.out (program_of c.args.code.now) (machine_view c.args.self.now c.args.objects.now) c.args.class c.args.index c.requires.ready

pub returns-then-object-eq0-clause-went : goal.returns-then-object-eq0-clause-went
returns-then-object-eq0-clause-went g c = set_field_nil g.S.Store.out (program_of c.args.code.now) (machine_view c.args.self.now c.args.objects.now) c.args.class c.args.index (c.reference-object.ensures ∙ ap Some c.if-object-eq0.true)

pub class-own-requires-clause-object : goal.class-own-requires-clause-object
class-own-requires-clause-object g c = set_field_cell g.S.Store.out (program_of c.args.code.now) (machine_view c.args.self.now c.args.objects.now) c.args.class c.args.index _ c.reference-object.ensures (omega arith) c.requires.ready

pub returns-then-not-is_of-clause-went : goal.returns-then-not-is_of-clause-went
returns-then-not-is_of-clause-went g c =
    let other : descends (classes_of c.args.code.now.classes.items) (Some c.class-own.result) c.args.class ≡ false = ap (λ cs. descends (classes_of cs) (Some c.class-own.result) c.args.class) (sym c.deref.ensures.value) ∙ sym c.is_of.ensures ∙ c.if-not-is_of.true in
    set_field_other g.S.Store.out (program_of c.args.code.now) (machine_view c.args.self.now c.args.objects.now) c.args.class c.args.index _ c.reference-object.ensures (omega arith) c.class-own.result c.class-own.ensures other

pub write_field-requires-clause-short : goal.write_field-requires-clause-short
write_field-requires-clause-short g c =
    let has : nat_lt c.args.index (count_of (slice_get (classes_of c.args.code.now.classes.items) c.class-own.result)) ≡ true = ap (λ cs. nat_lt c.args.index (count_of (slice_get (classes_of cs) c.class-own.result))) (sym c.deref-2.ensures.value) ∙ sym c.has_field.ensures ∙ c.if-has_field.true in
    (set_field_short g.S.Store.out (program_of c.args.code.now) (machine_view c.args.self.now c.args.objects.now) c.args.class c.args.index _ c.reference-object.ensures (omega arith) c.class-own.result c.class-own.ensures has c.requires.ready).0

pub write_field-requires-clause-field : goal.write_field-requires-clause-field
write_field-requires-clause-field g c =
    let has : nat_lt c.args.index (count_of (slice_get (classes_of c.args.code.now.classes.items) c.class-own.result)) ≡ true = ap (λ cs. nat_lt c.args.index (count_of (slice_get (classes_of cs) c.class-own.result))) (sym c.deref-2.ensures.value) ∙ sym c.has_field.ensures ∙ c.if-has_field.true in
    (set_field_short g.S.Store.out (program_of c.args.code.now) (machine_view c.args.self.now c.args.objects.now) c.args.class c.args.index _ c.reference-object.ensures (omega arith) c.class-own.result c.class-own.ensures has c.requires.ready).1

pub returns-clause-went : goal.returns-clause-went
returns-clause-went g c =
    let right : descends (classes_of c.args.code.now.classes.items) (Some c.class-own.result) c.args.class ≡ true = ap (λ cs. descends (classes_of cs) (Some c.class-own.result) c.args.class) (sym c.deref.ensures.value) ∙ sym c.is_of.ensures ∙ c.if-not-is_of.false in
    let same : c.top-value.result ≡ to_z w64 (of_z w64 c.top-value.result) = search rules in
    let has = elim c.if-has_field.branch as (λ _. ((nat_lt c.args.index (count_of (slice_get (classes_of c.args.code.now.classes.items) c.class-own.result)) ≡ true) × (0 < c.reference-object.result) × Alters (memory_of g.S.Store.out c.args.objects.now) (memory_of g.S.Store.out c.if-has_field.objects) c.reference-object.result (λ x. with_value x c.args.index c.top-value.result)) ⊎ ((nat_lt c.args.index (count_of (slice_get (classes_of c.args.code.now.classes.items) c.class-own.result)) ≡ false) × (c.if-has_field.objects ≡ c.args.objects.now))) [
      | then-has_field w ↦ inl (ap (λ cs. nat_lt c.args.index (count_of (slice_get (classes_of cs) c.class-own.result))) (sym c.deref-2.ensures.value) ∙ sym c.has_field.ensures ∙ w.if-has_field.true, omega arith, subst (λ (v : ℤ). Alters (memory_of g.S.Store.out c.args.objects.now) (memory_of g.S.Store.out c.if-has_field.objects) c.reference-object.result (λ x. with_value x c.args.index v)) (sym same) (rw w.objects-is w.write_field.ensures))
      | else-has_field w ↦ inr (ap (λ cs. nat_lt c.args.index (count_of (slice_get (classes_of cs) c.class-own.result))) (sym c.deref-2.ensures.value) ∙ sym c.has_field.ensures ∙ w.if-has_field.false, w.objects-is)
    ] in
    set_field_went g.S.Store.out (program_of c.args.code.now) (machine_view c.args.self.now c.args.objects.now) c.args.class c.args.index _ c.reference-object.ensures (omega arith) c.class-own.result c.class-own.ensures c.top-value.result c.top-value.ensures.0 c.take.new.self.names c.if-has_field.objects _ _ c.take.ensures.named right c.top-value.ensures.1 (sym same) has refl refl c.take.ensures.others
