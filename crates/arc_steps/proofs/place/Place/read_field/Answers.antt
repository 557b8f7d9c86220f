use Rattle.std.proofs.Common.{◌≡◌, ◌⊎◌, ◌+◌, inl, inr, ◌∷◌, ℕ, get_or, length, Some, None, true, false, refl, sym, ap, ◌∙◌, arith}
use Rattle.std.proofs.lemmas.Grind.{common_steps}
use Rattle.std.specs.Prelude.{slice_get}
use Rattle.arc_spec.specs.Classes.{classes_of, descends}
use Rattle.arc_code.specs.declared.instr.Op.TheVariants.{ReadField}
use Rattle.arc_code.specs.declared.instr.Instr.TheVariants.{Plain}
use Rattle.arc_code.specs.CodeSteps.{program_of}
use Rattle.arc_cells.specs.Cells.{Cell, IsCell, with_count}
use Rattle.arc_cells.specs.Fields.{name_index}
use Rattle.arc_steps.specs.Places.{machine_view}
use Rattle.arc_cells.specs.Representation.{Memory, with_names, taking as taking_by}
use Rattle.arc_steps.proofs.ReferenceSimulation.{taking_needs, taking_went}
use Rattle.arc_steps.proofs.ReadFieldSimulation.{renamed_alters, read_field_cell, read_field_other, read_field_short, read_taking}
use Rattle.arc_steps.proofs.place.Place.read_field.Goals as goal
use Rattle.arc_steps.proofs.place.Place.read_field.Goals.{in-Some, in-None}

some_same : (a b : ℕ) → Some a ≡ Some b → b ≡ a
some_same a b e = cc

pub class-own-requires-clause-object : goal.class-own-requires-clause-object
class-own-requires-clause-object g c = read_field_cell g.S.Store.out (program_of c.args.code.now) (machine_view c.args.self.now c.args.objects.now) c.args.class c.args.index _ c.reference-object.ensures (omega arith) c.requires.ready

pub returns-then-not-is_of-clause-went : goal.returns-then-not-is_of-clause-went
returns-then-not-is_of-clause-went g c =
    let other : descends (classes_of c.args.code.now.classes.items) (Some c.class-own.result) c.args.class ≡ false = ap (λ cs. descends (classes_of cs) (Some c.class-own.result) c.args.class) (sym c.deref.ensures.value) ∙ sym c.is_of.ensures ∙ c.if-not-is_of.true in
    read_field_other g.S.Store.out (program_of c.args.code.now) (machine_view c.args.self.now c.args.objects.now) c.args.class c.args.index _ c.reference-object.ensures (omega arith) c.class-own.result c.class-own.ensures other

pub field_name-named-requires-clause-short : goal.field_name-named-requires-clause-short
field_name-named-requires-clause-short g c =
    let e : name_index (slice_get (classes_of c.args.code.now.classes.items) c.class-own.result) c.args.index ≡ Some c.in-Some.slot = ap (λ cs. name_index (slice_get (classes_of cs) c.class-own.result) c.args.index) (sym c.deref-2.ensures.value) ∙ sym c.name_index.ensures ∙ c.in-Some.is in
    (read_field_short g.S.Store.out (program_of c.args.code.now) (machine_view c.args.self.now c.args.objects.now) c.args.class c.args.index _ c.reference-object.ensures (omega arith) c.class-own.result c.class-own.ensures c.in-Some.slot e c.requires.ready).0

pub field_name-named-requires-clause-field : goal.field_name-named-requires-clause-field
field_name-named-requires-clause-field g c =
    let e : name_index (slice_get (classes_of c.args.code.now.classes.items) c.class-own.result) c.args.index ≡ Some c.in-Some.slot = ap (λ cs. name_index (slice_get (classes_of cs) c.class-own.result) c.args.index) (sym c.deref-2.ensures.value) ∙ sym c.name_index.ensures ∙ c.in-Some.is in
    (read_field_short g.S.Store.out (program_of c.args.code.now) (machine_view c.args.self.now c.args.objects.now) c.args.class c.args.index _ c.reference-object.ensures (omega arith) c.class-own.result c.class-own.ensures c.in-Some.slot e c.requires.ready).1

pub raise-requires-clause-object : goal.raise-requires-clause-object
raise-requires-clause-object g c =
    let own = c.class-own.result in
    let right : descends (classes_of c.args.code.now.classes.items) (Some own) c.args.class ≡ true = ap (λ cs. descends (classes_of cs) (Some c.class-own.result) c.args.class) (sym c.deref.ensures.value) ∙ sym c.is_of.ensures ∙ c.if-not-is_of.false in
    let value = c.match-name_index.named in
    let both = some_same _ _ (sym c.reference-object.ensures ∙ ap (λ l. slice_get l 0) c.take.ensures.named) in
    let names : c.args.objects.now.names ≡ c.reference-object.result ∷ c.take.new.self.names = c.take.ensures.named ∙ ap (λ w. w ∷ c.take.new.self.names) both in
    let has : ((slot : ℕ) × (name_index (slice_get (classes_of c.args.code.now.classes.items) c.class-own.result) c.args.index ≡ Some slot) × ((cell : Cell) → IsCell (g.S.Store.out c.args.objects.now.store) c.reference-object.result cell → value ≡ get_or cell.fields slot 0)) ⊎ ((name_index (slice_get (classes_of c.args.code.now.classes.items) c.class-own.result) c.args.index ≡ None) × (value ≡ 0)) =
    elim c.match-name_index.branch [
      | in-Some w ↦ inl (w.in-Some.slot, ap (λ cs. name_index (slice_get (classes_of cs) c.class-own.result) c.args.index) (sym c.deref-2.ensures.value) ∙ sym c.name_index.ensures ∙ w.in-Some.is, λ cell is. w.named-is ∙ w.field_name-named.ensures cell is)
      | in-None w ↦ inr (ap (λ cs. name_index (slice_get (classes_of cs) c.class-own.result) c.args.index) (sym c.deref-2.ensures.value) ∙ sym c.name_index.ensures ∙ w.in-None.is, w.named-is)
    ] in
    let taking = read_taking g.S.Store.out (program_of c.args.code.now) (machine_view c.args.self.now c.args.objects.now) c.args.class c.args.index _ c.reference-object.ensures (omega arith) c.class-own.result c.class-own.ensures right c.take.new.self.names names value has in
    rw c.take.ensures.others ((taking_needs g.S.Store.out (program_of c.args.code.now) (machine_view c.args.self.now c.args.objects.now) (Plain (ReadField c.args.class c.args.index)) value (value ∷ c.take.new.self.names) taking c.requires.few (omega arith)).0)

pub raise-requires-clause-fits : goal.raise-requires-clause-fits
raise-requires-clause-fits g c =
    let own = c.class-own.result in
    let right : descends (classes_of c.args.code.now.classes.items) (Some own) c.args.class ≡ true = ap (λ cs. descends (classes_of cs) (Some c.class-own.result) c.args.class) (sym c.deref.ensures.value) ∙ sym c.is_of.ensures ∙ c.if-not-is_of.false in
    let value = c.match-name_index.named in
    let both = some_same _ _ (sym c.reference-object.ensures ∙ ap (λ l. slice_get l 0) c.take.ensures.named) in
    let names : c.args.objects.now.names ≡ c.reference-object.result ∷ c.take.new.self.names = c.take.ensures.named ∙ ap (λ w. w ∷ c.take.new.self.names) both in
    let has : ((slot : ℕ) × (name_index (slice_get (classes_of c.args.code.now.classes.items) c.class-own.result) c.args.index ≡ Some slot) × ((cell : Cell) → IsCell (g.S.Store.out c.args.objects.now.store) c.reference-object.result cell → value ≡ get_or cell.fields slot 0)) ⊎ ((name_index (slice_get (classes_of c.args.code.now.classes.items) c.class-own.result) c.args.index ≡ None) × (value ≡ 0)) =
    elim c.match-name_index.branch [
      | in-Some w ↦ inl (w.in-Some.slot, ap (λ cs. name_index (slice_get (classes_of cs) c.class-own.result) c.args.index) (sym c.deref-2.ensures.value) ∙ sym c.name_index.ensures ∙ w.in-Some.is, λ cell is. w.named-is ∙ w.field_name-named.ensures cell is)
      | in-None w ↦ inr (ap (λ cs. name_index (slice_get (classes_of cs) c.class-own.result) c.args.index) (sym c.deref-2.ensures.value) ∙ sym c.name_index.ensures ∙ w.in-None.is, w.named-is)
    ] in
    let taking = read_taking g.S.Store.out (program_of c.args.code.now) (machine_view c.args.self.now c.args.objects.now) c.args.class c.args.index _ c.reference-object.ensures (omega arith) c.class-own.result c.class-own.ensures right c.take.new.self.names names value has in
    rw c.take.ensures.others ((taking_needs g.S.Store.out (program_of c.args.code.now) (machine_view c.args.self.now c.args.objects.now) (Plain (ReadField c.args.class c.args.index)) value (value ∷ c.take.new.self.names) taking c.requires.few (omega arith)).1)

pub push-requires-clause-few : goal.push-requires-clause-few
push-requires-clause-few g c =
    let own = c.class-own.result in
    let right : descends (classes_of c.args.code.now.classes.items) (Some own) c.args.class ≡ true = ap (λ cs. descends (classes_of cs) (Some c.class-own.result) c.args.class) (sym c.deref.ensures.value) ∙ sym c.is_of.ensures ∙ c.if-not-is_of.false in
    let value = c.match-name_index.named in
    let both = some_same _ _ (sym c.reference-object.ensures ∙ ap (λ l. slice_get l 0) c.take.ensures.named) in
    let names : c.args.objects.now.names ≡ c.reference-object.result ∷ c.take.new.self.names = c.take.ensures.named ∙ ap (λ w. w ∷ c.take.new.self.names) both in
    let has : ((slot : ℕ) × (name_index (slice_get (classes_of c.args.code.now.classes.items) c.class-own.result) c.args.index ≡ Some slot) × ((cell : Cell) → IsCell (g.S.Store.out c.args.objects.now.store) c.reference-object.result cell → value ≡ get_or cell.fields slot 0)) ⊎ ((name_index (slice_get (classes_of c.args.code.now.classes.items) c.class-own.result) c.args.index ≡ None) × (value ≡ 0)) =
    elim c.match-name_index.branch [
      | in-Some w ↦ inl (w.in-Some.slot, ap (λ cs. name_index (slice_get (classes_of cs) c.class-own.result) c.args.index) (sym c.deref-2.ensures.value) ∙ sym c.name_index.ensures ∙ w.in-Some.is, λ cell is. w.named-is ∙ w.field_name-named.ensures cell is)
      | in-None w ↦ inr (ap (λ cs. name_index (slice_get (classes_of cs) c.class-own.result) c.args.index) (sym c.deref-2.ensures.value) ∙ sym c.name_index.ensures ∙ w.in-None.is, w.named-is)
    ] in
    let taking = read_taking g.S.Store.out (program_of c.args.code.now) (machine_view c.args.self.now c.args.objects.now) c.args.class c.args.index _ c.reference-object.ensures (omega arith) c.class-own.result c.class-own.ensures right c.take.new.self.names names value has in
    let few = (taking_needs g.S.Store.out (program_of c.args.code.now) (machine_view c.args.self.now c.args.objects.now) (Plain (ReadField c.args.class c.args.index)) value (value ∷ c.take.new.self.names) taking c.requires.few (omega arith)).2 in
    let same = ap (λ (x : Memory). x.temporaries) c.raise.ensures.others in
    let before = ap (λ x. x.temporaries) c.take.ensures.others in
    omega (arith, few, same, before)

pub push-requires-clause-room : goal.push-requires-clause-room
push-requires-clause-room g c =
    let own = c.class-own.result in
    let right : descends (classes_of c.args.code.now.classes.items) (Some own) c.args.class ≡ true = ap (λ cs. descends (classes_of cs) (Some c.class-own.result) c.args.class) (sym c.deref.ensures.value) ∙ sym c.is_of.ensures ∙ c.if-not-is_of.false in
    let value = c.match-name_index.named in
    let both = some_same _ _ (sym c.reference-object.ensures ∙ ap (λ l. slice_get l 0) c.take.ensures.named) in
    let names : c.args.objects.now.names ≡ c.reference-object.result ∷ c.take.new.self.names = c.take.ensures.named ∙ ap (λ w. w ∷ c.take.new.self.names) both in
    let has : ((slot : ℕ) × (name_index (slice_get (classes_of c.args.code.now.classes.items) c.class-own.result) c.args.index ≡ Some slot) × ((cell : Cell) → IsCell (g.S.Store.out c.args.objects.now.store) c.reference-object.result cell → value ≡ get_or cell.fields slot 0)) ⊎ ((name_index (slice_get (classes_of c.args.code.now.classes.items) c.class-own.result) c.args.index ≡ None) × (value ≡ 0)) =
    elim c.match-name_index.branch [
      | in-Some w ↦ inl (w.in-Some.slot, ap (λ cs. name_index (slice_get (classes_of cs) c.class-own.result) c.args.index) (sym c.deref-2.ensures.value) ∙ sym c.name_index.ensures ∙ w.in-Some.is, λ cell is. w.named-is ∙ w.field_name-named.ensures cell is)
      | in-None w ↦ inr (ap (λ cs. name_index (slice_get (classes_of cs) c.class-own.result) c.args.index) (sym c.deref-2.ensures.value) ∙ sym c.name_index.ensures ∙ w.in-None.is, w.named-is)
    ] in
    let taking = read_taking g.S.Store.out (program_of c.args.code.now) (machine_view c.args.self.now c.args.objects.now) c.args.class c.args.index _ c.reference-object.ensures (omega arith) c.class-own.result c.class-own.ensures right c.take.new.self.names names value has in
    let few = (taking_needs g.S.Store.out (program_of c.args.code.now) (machine_view c.args.self.now c.args.objects.now) (Plain (ReadField c.args.class c.args.index)) value (value ∷ c.take.new.self.names) taking c.requires.few (omega arith)).3 in
    let same = ap (λ (x : Memory). length x.places) c.raise.ensures.others in
    let room = ap (λ (x : Memory). x.room) c.raise.ensures.others in
    let before = ap (λ x. length x.places) c.take.ensures.others in
    let before_room = ap (λ x. x.room) c.take.ensures.others in
    omega (arith, few, same, room, before, before_room, c.requires.places.places)

pub returns-clause-went : goal.returns-clause-went
returns-clause-went g c =
    let own = c.class-own.result in
    let right : descends (classes_of c.args.code.now.classes.items) (Some own) c.args.class ≡ true = ap (λ cs. descends (classes_of cs) (Some c.class-own.result) c.args.class) (sym c.deref.ensures.value) ∙ sym c.is_of.ensures ∙ c.if-not-is_of.false in
    let value = c.match-name_index.named in
    let both = some_same _ _ (sym c.reference-object.ensures ∙ ap (λ l. slice_get l 0) c.take.ensures.named) in
    let names : c.args.objects.now.names ≡ c.reference-object.result ∷ c.take.new.self.names = c.take.ensures.named ∙ ap (λ w. w ∷ c.take.new.self.names) both in
    let has : ((slot : ℕ) × (name_index (slice_get (classes_of c.args.code.now.classes.items) c.class-own.result) c.args.index ≡ Some slot) × ((cell : Cell) → IsCell (g.S.Store.out c.args.objects.now.store) c.reference-object.result cell → value ≡ get_or cell.fields slot 0)) ⊎ ((name_index (slice_get (classes_of c.args.code.now.classes.items) c.class-own.result) c.args.index ≡ None) × (value ≡ 0)) =
    elim c.match-name_index.branch [
      | in-Some w ↦ inl (w.in-Some.slot, ap (λ cs. name_index (slice_get (classes_of cs) c.class-own.result) c.args.index) (sym c.deref-2.ensures.value) ∙ sym c.name_index.ensures ∙ w.in-Some.is, λ cell is. w.named-is ∙ w.field_name-named.ensures cell is)
      | in-None w ↦ inr (ap (λ cs. name_index (slice_get (classes_of cs) c.class-own.result) c.args.index) (sym c.deref-2.ensures.value) ∙ sym c.name_index.ensures ∙ w.in-None.is, w.named-is)
    ] in
    let taking = read_taking g.S.Store.out (program_of c.args.code.now) (machine_view c.args.self.now c.args.objects.now) c.args.class c.args.index _ c.reference-object.ensures (omega arith) c.class-own.result c.class-own.ensures right c.take.new.self.names names value has in
    let old = c.args.objects.now in
    let raised = c.raise.new.self in
    let change = renamed_alters g.S.Store.out old c.take.new.self raised c.take.new.self.names value (λ x. with_count x (x.count + 1)) c.take.ensures.others c.raise.ensures in
    taking_went g.S.Store.out (program_of c.args.code.now) (machine_view c.args.self.now old) (Plain (ReadField c.args.class c.args.index)) value (value ∷ c.take.new.self.names) taking (with_names raised old.names) change _ refl refl
    (c.name.ensures ∙ ap (λ x. with_names x (value ∷ x.names)) c.push.ensures ∙ ap (λ ns. with_names (taking_by value raised) (value ∷ ns)) (ap (λ (x : Memory). x.names) c.raise.ensures.others))

pub name-requires : goal.name-requires
name-requires c = grind (arith, common_steps)
