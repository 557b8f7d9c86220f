-- What the meaning of an update is, once its right operand is known.
use Rattle.std.proofs.Common.{◌≡◌, ℕ, ℤ, Bool, true, false, Option, Some, None, refl, sym, ap, ◌∙◌}
use Rattle.std.specs.Prelude.{if◌then◌else◌}
use Rattle.arc_ast.specs.declared.tree.BinaryOperator.{BinaryOperator}
use Rattle.arc_ast.specs.declared.tree.Kind.{Kind}
use Rattle.arc_ast.specs.declared.tree.Moment.{Moment}
use Rattle.arc_spec.specs.declared.location.Location.{Location}
use Rattle.arc_spec.specs.declared.event.Fault.TheVariants.{FieldClass, Resurrected}
use Rattle.arc_spec.specs.Classes.{descends}
use Rattle.arc_spec.specs.Objects.{Object, object_at, is_emptying}
use Rattle.arc_spec.specs.Resolved.{Value, Update, UpdateField, Reference, SetObjectField}
use Rattle.arc_spec.specs.World.{World, Outcome, Done, Faulted, then_do, Finished, takes, name_at}
use Rattle.arc_spec.specs.Meaning.{Callees, held_at, holds, updated, given_by, evaluated, referred, field_read, field_set, in_object, field_stores, field_assigned, object_field_set, released}
use Rattle.arc_plain.specs.Views.{field_replaced, object_field_replaced}

module _ (D : Callees) (moment : Moment) (operator : BinaryOperator) (computed kept : Kind) where
  -- where the new number of a variable is stored
  abbrev pub variable_stored : (i : Location) → (old new : ℤ) → World → Outcome ℤ
  variable_stored i old new w = Done (given_by moment old new) (holds i new w)

  abbrev pub field_stored : (r class index : ℕ) → (old new : ℤ) → World → Outcome ℤ
  field_stored r class index old new w = then_do (field_set D r class index new w) (λ _ w1. Done (given_by moment old new) w1)

  pub variable_updated : (i : Location) (a : Value) (old right same_old same_right : ℤ) (w between : World) → same_old ≡ old → same_right ≡ right → old ≡ held_at i w → evaluated D a w ≡ Done right between
      → evaluated D (Update moment i operator computed kept a) w ≡ then_do (updated operator computed kept same_old same_right between) (variable_stored i same_old)
  variable_updated i a old right same_old same_right w between olds rights is done =
      let go : (old x : ℤ) → World → Outcome ℤ = λ old x w1. then_do (updated operator computed kept old x w1) (variable_stored i old) in
      ap (λ n. then_do (evaluated D a w) (go n)) (sym (olds ∙ is))
      ∙ ap (λ o. then_do o (go same_old)) done
      ∙ ap (λ x. go same_old x between) (sym rights)

  pub field_updated : (class index : ℕ) (a : Reference) (b : Value) (r : ℕ) (old right same_old same_right : ℤ) (w found between : World) → same_old ≡ old → same_right ≡ right
      → referred D a w ≡ Done r found → field_read D r class index found ≡ Done old found → evaluated D b found ≡ Done right between
      → evaluated D (UpdateField moment a class index operator computed kept b) w ≡ then_do (updated operator computed kept same_old same_right between) (field_stored r class index same_old)
  field_updated class index a b r old right same_old same_right w found between olds rights there read done =
      let go : ℕ → (old x : ℤ) → World → Outcome ℤ = λ r old x w1. then_do (updated operator computed kept old x w1) (field_stored r class index old) in
      ap (λ o. then_do o (λ r w1. then_do (field_read D r class index w1) (λ old w2. then_do (evaluated D b w2) (go r old)))) there
      ∙ ap (λ o. then_do o (λ old w2. then_do (evaluated D b w2) (go r old))) read
      ∙ ap (λ o. then_do o (go r old)) done
      ∙ ap (λ n. go r n right between) (sym olds)
      ∙ ap (λ x. go r same_old x between) (sym rights)

module _ (D : Callees) (r class index named : ℕ) (w : World) where
  by_phase : (o : Object) (b : Bool) → (if b then Faulted Resurrected w else released D (name_at o.strong index) (field_stores r o index named w))
      ≡ then_do (if b then Faulted Resurrected w else Done (name_at o.strong index) (field_stores r o index named w)) (λ old w1. released D old w1)
  by_phase o true = refl
  by_phase o false = refl

  by_class : (o : Object) (b : Bool) → (if b then field_assigned D r index named w o else Faulted FieldClass w) ≡ then_do (if b then field_replaced r index named w o else Faulted FieldClass w) (λ old w1. released D old w1)
  by_class o true = by_phase o (is_emptying o.phase)
  by_class o false = refl

  -- a field takes a new value, and then the old one is dropped
  field_dropped_after : (ob : Option Object) → in_object D class ob (field_assigned D r index named w) w ≡ then_do (in_object D class ob (field_replaced r index named w) w) (λ old w1. released D old w1)
  field_dropped_after None = refl
  field_dropped_after (Some o) = by_class o (descends D.classes (Some o.class) class)

  pub object_field_is : object_field_set D r class index named w ≡ then_do (object_field_replaced D r class index named w) (λ old w1. released D old w1)
  object_field_is = field_dropped_after (object_at w.objects r)

-- what a stored field comes to, once its object and what it names now are known
pub field_named : (D : Callees) (class index : ℕ) (a b : Reference) (r named : ℕ) (w found between : World) → referred D a w ≡ Done r found → referred D b found ≡ Done named between
    → referred D (SetObjectField a class index b) w ≡ then_do (then_do (object_field_replaced D r class index named between) (λ old w1. released D old w1)) (λ _ w1. Done named (takes named w1))
field_named D class index a b r named w found between there given =
    let taken : ℕ → Finished → World → Outcome ℕ = λ named _ w1. Done named (takes named w1) in
    let set : ℕ → ℕ → World → Outcome ℕ = λ r named w1. then_do (object_field_set D r class index named w1) (taken named) in
    ap (λ o. then_do o (λ r w1. then_do (referred D b w1) (set r))) there
    ∙ ap (λ o. then_do o (set r)) given
    ∙ ap (λ o. then_do o (taken named)) (object_field_is D r class index named between)
