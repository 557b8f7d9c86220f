-- The meaning of each part of a program keeps the places that wait, and where only objects end, also the frame of the running function.
use Rattle.std.proofs.Common.{◌≡◌, ℕ, zero, suc, ◌+◌, ℤ, pos, List, [], ◌∷◌, length, Option, Some, None, Bool, true, false, not, ◌&&◌, slice_get, refl, ◌∙◌}
use Rattle.std.specs.Prelude.{slice_set, slice_index_or, if◌then◌else◌}
use Rattle.arc_ast.specs.declared.tree.BinaryOperator.{BinaryOperator}
use Rattle.arc_ast.specs.declared.tree.Kind.{Kind}
use Rattle.arc_ast.specs.declared.tree.Moment.{Moment}
use Rattle.arc_ast.specs.declared.tree.Moment.TheVariants as moments
use Rattle.arc_spec.specs.declared.class.Gives.{Gives}
use Rattle.arc_spec.specs.declared.class.Gives.TheVariants as gives
use Rattle.arc_spec.specs.Classes.{superclasses, ancestry, own_dealloc, class_at, descends, field_order, is_root_init, init_selector}
use Rattle.arc_spec.specs.Number.{converted, applied, combined, is_zero}
use Rattle.arc_spec.specs.Objects.{Object, Phase, Emptying, is_emptying, object_at, is_live, names, with_object, with_fields}
use Rattle.arc_ast.specs.declared.tree.Sign.TheVariants as signs
use Rattle.arc_spec.specs.declared.location.Location.{Location}
use Rattle.arc_spec.specs.declared.location.Location.TheVariants.{Local, Global}
use Rattle.arc_spec.specs.Resolved.{Value, Number, ReadByte, Print, Unary, Binary, Conditional, Convert, Read, AssignNumber, Update, Call, Send, Receiver, ClassValue, ClassSuper, ObjectValue, ObjectSuper, GetField, SetField, UpdateField, NotSame, IsObject, Reference, Nil, Itself, Variable, ObjectConditional, AssignObject, GetObjectField, SetObjectField, Alloc, New, ObjectCall, ObjectSend, Arguments, no_arguments, number_argument, object_argument, Command, Sequence, Evaluate, EvaluateReference, InitVariable, Return, Give, If, While, Break, Continue, Commands, no_commands, and_command, Function, Program}
use Rattle.arc_spec.specs.World.{World, Outcome, Done, Faulted, Cut, then_do, Finished, finished, places, prints, Given, nothing_given, Answer, entered, left, takes, named_at, stores, with_temporaries, with_objects, name_at}
use Rattle.arc_spec.specs.Meaning.{Callees, held_at, holds, formatted, byte_count, or_fault, updated, given_by, released, temporaries_dropped, all_dropped, assigned, variables_dropped, and_number, and_object, sent_to_class, finds, gives_object, sent_to_method, class_in, sent_to_object, Target, ToClass, ToObject, ToSuper, sent, number_given, object_given, made, second_dropped, made_new, new_found, new_sent, in_object, field_read, field_set, object_field_read, field_stores, field_assigned, object_field_set, difference, evaluated, referred, received, all_evaluated, full_expression, full_object_expression, begun, result_place, Flow, Normal, Broken, Continued, Returned, if_normal, in_turn, after_body, chosen, turns, looped, scope_left, normally, executed, all_executed, answer, function_places, function_at, called, dealloc_run, deallocs_run, turned, gone, dying, field_dropped, fields_dropped, emptied, ended, level}

-- what holds of the world after a part that was done
abbrev pub After : {A : Type 0} → (World → Type 0) → Outcome A → Type 0
After P (Done a w) = P w
After P (Faulted f w) = Unit {0}
After P (Cut w) = Unit {0}

-- the same places wait
abbrev pub Waits : World → World → Type 0
Waits before now = now.waiting ≡ before.waiting

-- and the same function runs
pub record Same (before now : World) : Type 0 where
  pub frame : now.frame ≡ before.frame
  pub waiting : now.waiting ≡ before.waiting

pub same_refl : (w : World) → Same w w
same_refl w = record { frame = refl; waiting = refl }

same_trans : (a b c : World) → Same a b → Same b c → Same a c
same_trans a b c h k = record { frame = k.frame ∙ h.frame; waiting = k.waiting ∙ h.waiting }

after_weaker : {A : Type 0} → (P Q : World → Type 0) (o : Outcome A) → ((w : World) → P w → Q w) → After P o → After Q o
after_weaker P Q (Done a w) weaker h = weaker w h
after_weaker P Q (Faulted f w) weaker h = tt
after_weaker P Q (Cut w) weaker h = tt

after_any : {A : Type 0} → (o : Outcome A) → After (λ w. Unit {0}) o
after_any (Done a w) = tt
after_any (Faulted f w) = tt
after_any (Cut w) = tt

-- what is known of a part that was done
pub after_done : {A : Type 0} → (P : World → Type 0) (o : Outcome A) (a : A) (w : World) → After P o → o ≡ Done a w → P w
after_done P o a w h is = rw is at h

after_then : {A B : Type 0} → (P Q : World → Type 0) (o : Outcome A) (go : A → World → Outcome B) → After P o → ((a : A) (w : World) → P w → After Q (go a w)) → After Q (then_do o go)
after_then P Q (Done a w) go h next = next a w h
after_then P Q (Faulted f w) go h next = tt
after_then P Q (Cut w) go h next = tt

same_then : {A B : Type 0} → (w : World) (o : Outcome A) (go : A → World → Outcome B) → After (Same w) o → ((a : A) (w1 : World) → After (Same w1) (go a w1)) → After (Same w) (then_do o go)
same_then w o go h next = after_then (Same w) (Same w) o go h (λ a w1 s. after_weaker (Same w1) (Same w) (go a w1) (λ w2 t. same_trans w w1 w2 s t) (next a w1))

waits_then : {A B : Type 0} → (w : World) (o : Outcome A) (go : A → World → Outcome B) → After (Waits w) o → ((a : A) (w1 : World) → After (Waits w1) (go a w1)) → After (Waits w) (then_do o go)
waits_then w o go h next = after_then (Waits w) (Waits w) o go h (λ a w1 s. after_weaker (Waits w1) (Waits w) (go a w1) (λ w2 t. t ∙ s) (next a w1))

after_if : {A : Type 0} → (P : World → Type 0) (b : Bool) (x y : Outcome A) → After P x → After P y → After P (if b then x else y)
after_if P true x y h k = h
after_if P false x y h k = k

after_chosen : {A : Type 0} → (P : World → Type 0) (b : Bool) (x y : Outcome A) → After P x → After P y → After P (chosen b x y)
after_chosen P true x y h k = k
after_chosen P false x y h k = h

-- ---- calls and ends of objects

-- a level at which calls and ends leave these as they were
pub record Steady (D : Callees) : Type 0 where
  pub calls : (wanted : Gives) (f self : ℕ) (passed : Given) (w : World) → After (Same w) (D.call wanted f self passed w)
  pub ends : (o : ℕ) (w : World) → After (Same w) (D.end_of o w)

called_same : (D : Callees) (bound : ℕ) (f : Function) (self : ℕ) (passed : Given) (w : World) → After (Same w) (called D bound f self passed w)
called_same D bound f self passed w =
    let begins = entered f.slots (function_places f) f.parameters f.owns self passed w in
    after_then (λ w1. Unit {0}) (Same w) (all_executed D bound f.body begins) (λ flow w1. then_do (variables_dropped D 0 f.names w1) (λ _ w2. Done (answer f flow w2) (left w w2)))
    (after_any (all_executed D bound f.body begins))
    (λ flow w1 _. after_then (λ w2. Unit {0}) (Same w) (variables_dropped D 0 f.names w1) (λ _ w2. Done (answer f flow w2) (left w w2))
    (after_any (variables_dropped D 0 f.names w1)) (λ _ w2 _. record { frame = refl; waiting = refl }))

dealloc_same : (P : Program) (D : Callees) (bound : ℕ) (f : Option ℕ) (o : ℕ) (w : World) → After (Same w) (dealloc_run P D bound f o w)
dealloc_same P D bound None o w = same_refl w
dealloc_same P D bound (Some f) o w =
    let function = function_at P gives.Number f in
    same_then w (called D bound function o nothing_given w) (λ _ w1. Done finished w1) (called_same D bound function o nothing_given w) (λ _ w1. same_refl w1)

deallocs_same : (P : Program) (D : Callees) (bound : ℕ) (classes : List ℕ) (o : ℕ) (w : World) → After (Same w) (deallocs_run P D bound classes o w)
deallocs_same P D bound [] o w = same_refl w
deallocs_same P D bound (class ∷ others) o w =
    let own = own_dealloc (slice_get P.classes class) in
    same_then w (dealloc_run P D bound own o w) (λ _ w1. deallocs_run P D bound others o w1) (dealloc_same P D bound own o w) (λ _ w1. deallocs_same P D bound others o w1)

turned_same : (phase : Phase) (o : ℕ) (ob : Option Object) (w : World) → Same w (turned phase o ob w)
turned_same phase o None w = same_refl w
turned_same phase o (Some ob) w = record { frame = refl; waiting = refl }

dying_same : (o : ℕ) (ob : Option Object) (w : World) → Same w (dying o ob w)
dying_same o None w = same_refl w
dying_same o (Some ob) w = record { frame = refl; waiting = refl }

gone_same : (o : ℕ) (w : World) → After (Same w) (gone o w)
gone_same o w = after_if (Same w) (names o (places w)) _ _ tt (turned_same _ o (object_at w.objects o) w)

pub released_same : (D : Callees) → Steady D → (r : ℕ) (w : World) → After (Same w) (released D r w)
released_same D steady r w = after_if (Same w) (is_live (object_at w.objects r) && not (names r (places w))) (D.end_of r w) (Done finished w) (steady.ends r w) (same_refl w)

field_same : (D : Callees) → Steady D → (o index : ℕ) (ob : Option Object) (w : World) → After (Same w) (field_dropped D o index ob w)
field_same D steady o index None w = same_refl w
field_same D steady o index (Some ob) w =
    let next = field_stores o ob index 0 w in
    let first : Same w next = record { frame = refl; waiting = refl } in
    after_weaker (Same next) (Same w) (released D (name_at ob.strong index) next) (λ w1 s. same_trans w next w1 first s) (released_same D steady (name_at ob.strong index) next)

fields_same : (D : Callees) → Steady D → (order : List ℕ) (o : ℕ) (w : World) → After (Same w) (fields_dropped D order o w)
fields_same D steady [] o w = same_refl w
fields_same D steady (index ∷ others) o w =
    same_then w (field_dropped D o index (object_at w.objects o) w) (λ _ w1. fields_dropped D others o w1) (field_same D steady o index (object_at w.objects o) w) (λ _ w1. fields_same D steady others o w1)

emptied_same : (D : Callees) → Steady D → (o : ℕ) (ob : Option Object) (w : World) → After (Same w) (emptied D o ob w)
emptied_same D steady o None w = same_refl w
emptied_same D steady o (Some ob) w =
    let next = turned Emptying o (Some ob) w in
    after_weaker (Same next) (Same w) (fields_dropped D (field_order D.classes ob.class) o next) (λ w1 s. same_trans w next w1 (turned_same Emptying o (Some ob) w) s)
    (fields_same D steady (field_order D.classes ob.class) o next)

ended_same : (P : Program) (D : Callees) → Steady D → (bound o : ℕ) (w : World) → After (Same w) (ended P D bound o w)
ended_same P D steady bound o w =
    let first = dying o (object_at w.objects o) w in
    let classes = ancestry (superclasses P.classes) (class_in (object_at w.objects o)) in
    let run = deallocs_run P D bound classes o first in
    let rest : Finished → World → Outcome Finished = λ _ w1. then_do (emptied D o (object_at w1.objects o) w1) (λ _ w2. gone o w2) in
    after_weaker (Same first) (Same w) (then_do run rest) (λ w1 s. same_trans w first w1 (dying_same o (object_at w.objects o) w) s)
    (same_then first run rest (deallocs_same P D bound classes o first)
    (λ _ w1. same_then w1 (emptied D o (object_at w1.objects o) w1) (λ _ w2. gone o w2) (emptied_same D steady o (object_at w1.objects o) w1) (λ _ w2. gone_same o w2)))

pub level_steady : (P : Program) (bound levels : ℕ) → Steady (level P bound levels)
level_steady P bound zero = record { calls = λ wanted f self passed w. tt; ends = λ o w. tt }
level_steady P bound (suc n) = record {
  calls = λ wanted f self passed w. called_same (level P bound n) bound (function_at P wanted f) self passed w;
  ends = λ o w. ended_same P (level P bound n) (level_steady P bound n) bound o w;
}

-- ---- places that are dropped

module _ (D : Callees) (steady : Steady D) where
  temporaries_wait : (all : List ℕ) (w : World) → After (Waits w) (temporaries_dropped D all w)
  temporaries_wait [] w = refl
  temporaries_wait (r ∷ others) w =
      let next = with_temporaries w others in
      waits_then w (released D r next) (λ _ w1. temporaries_dropped D others w1)
      (after_weaker (Same next) (Waits w) (released D r next) (λ w1 s. s.waiting) (released_same D steady r next)) (λ _ w1. temporaries_wait others w1)

  stores_wait : (i : Location) (r : ℕ) (w : World) → Waits w (stores i r w)
  stores_wait (Local i) r w = refl
  stores_wait (Global i) r w = refl

  assigned_wait : (i : Location) (r : ℕ) (w : World) → After (Waits w) (assigned D i r w)
  assigned_wait i r w =
      let next = stores i r w in
      after_weaker (Same next) (Waits w) (released D (named_at i w) next) (λ w1 s. s.waiting ∙ stores_wait i r w) (released_same D steady (named_at i w) next)

  pub variables_wait : (first count : ℕ) (w : World) → After (Waits w) (variables_dropped D first count w)
  variables_wait first zero w = refl
  variables_wait first (suc n) w = waits_then w (assigned D (Local (first + n)) 0 w) (λ _ w1. variables_dropped D first n w1) (assigned_wait (Local (first + n)) 0 w) (λ _ w1. variables_wait first n w1)

  -- ---- expressions

  call_waits : (wanted : Gives) (f self : ℕ) (passed : Given) (w : World) → After (Waits w) (D.call wanted f self passed w)
  call_waits wanted f self passed w = after_weaker (Same w) (Waits w) (D.call wanted f self passed w) (λ w1 s. s.waiting) (steady.calls wanted f self passed w)

  dispatched_waits : (wanted : Gives) (f : Option ℕ) (class : ℤ) (passed : Given) (w : World) → After (Waits w) (sent_to_class D wanted f class passed w)
  dispatched_waits wanted None class passed w = tt
  dispatched_waits wanted (Some f) class passed w = call_waits wanted f 0 (and_number class passed) w

  found_waits : (wanted : Gives) (f : Option ℕ) (self selector : ℕ) (passed : Given) (w : World) → After (Waits w) (sent_to_method D wanted f self selector passed w)
  found_waits wanted None self selector passed w =
      after_if (Waits w) (is_root_init selector (length passed.numbers) (length passed.objects) wanted) (Done (gives_object self) w) (Faulted _ w) refl tt
  found_waits wanted (Some f) self selector passed w = call_waits wanted f self passed w

  sent_waits : (wanted : Gives) (from : Option ℕ) (self selector : ℕ) (passed : Given) (w : World) → After (Waits w) (sent_to_object D wanted from self selector passed w)
  sent_waits wanted from zero selector passed w = refl
  sent_waits wanted from (suc k) selector passed w = found_waits wanted _ (suc k) selector passed w

  target_waits : (wanted : Gives) (target : Target) (selector : ℕ) (passed : Given) (w : World) → After (Waits w) (sent D wanted target selector passed w)
  target_waits wanted (ToClass from class) selector passed w = dispatched_waits wanted (finds D wanted from signs.Class selector passed) class passed w
  target_waits wanted (ToObject self) selector passed w = sent_waits wanted (class_in (object_at w.objects self)) self selector passed w
  target_waits wanted (ToSuper from self) selector passed w = sent_waits wanted (Some from) self selector passed w

  number_waits : (o : Outcome Answer) (w : World) → After (Waits w) o → After (Waits w) (number_given o)
  number_waits o w h = waits_then w o (λ a w1. Done a.number w1) h (λ a w1. refl)

  object_waits : (o : Outcome Answer) (w : World) → After (Waits w) o → After (Waits w) (object_given o)
  object_waits o w h = waits_then w o (λ a w1. Done a.object (takes a.object w1)) h (λ a w1. refl)

  made_waits : (class : Option ℕ) (w : World) → After (Waits w) (made D class w)
  made_waits None w = tt
  made_waits (Some c) w = refl

  second_waits : (all : List ℕ) (w : World) → After (Waits w) (second_dropped D all w)
  second_waits [] w = refl
  second_waits (r ∷ []) w = refl
  second_waits (r ∷ made_first ∷ others) w =
      let next = with_temporaries w (r ∷ others) in
      after_weaker (Same next) (Waits w) (released D made_first next) (λ w1 s. s.waiting) (released_same D steady made_first next)

  made_new_waits : (class : Option ℕ) (w : World) → After (Waits w) (made_new D class w)
  made_new_waits class w =
      let last : ℕ → World → Outcome ℕ = λ a w2. then_do (second_dropped D w2.frame.temporaries w2) (λ _ w3. Done a w3) in
      let initialized : ℕ → World → Outcome ℕ = λ r w1. object_given (sent D gives.Object (ToObject r) init_selector nothing_given w1) in
      waits_then w (made D class w) (λ r w1. then_do (initialized r w1) last) (made_waits class w)
      (λ r w1. waits_then w1 (initialized r w1) last
      (object_waits (sent D gives.Object (ToObject r) init_selector nothing_given w1) w1 (target_waits gives.Object (ToObject r) init_selector nothing_given w1))
      (λ a w2. waits_then w2 (second_dropped D w2.frame.temporaries w2) (λ _ w3. Done a w3) (second_waits w2.frame.temporaries w2) (λ _ w3. refl)))

  new_waits : (f : Option ℕ) (class : ℤ) (w : World) → After (Waits w) (new_found D f class w)
  new_waits None class w = made_new_waits (class_at class) w
  new_waits (Some f) class w =
      let passed = and_number class nothing_given in
      object_waits (D.call gives.Object f 0 passed w) w (call_waits gives.Object f 0 passed w)

  in_object_waits : {A : Type 0} (class : ℕ) (ob : Option Object) (go : Object → Outcome A) (w : World) → ((o : Object) → After (Waits w) (go o)) → After (Waits w) (in_object D class ob go w)
  in_object_waits class None go w h = tt
  in_object_waits class (Some o) go w h = after_if (Waits w) (descends D.classes (Some o.class) class) (go o) (Faulted _ w) (h o) tt

  fault_waits : (v : Option ℤ) (w : World) → After (Waits w) (or_fault v w)
  fault_waits (Some v) w = refl
  fault_waits None w = tt

  updated_waits : (operator : BinaryOperator) (computed kept : Kind) (old x : ℤ) (w : World) → After (Waits w) (updated operator computed kept old x w)
  updated_waits operator computed kept old x w = waits_then w (or_fault (combined operator computed old x) w) (λ v w1. Done (converted kept v) w1) (fault_waits (combined operator computed old x) w) (λ v w1. refl)

  read_waits : (r class index : ℕ) (w : World) → After (Waits w) (field_read D r class index w)
  read_waits r class index w = in_object_waits class (object_at w.objects r) (λ o. Done (slice_index_or o.fields index (pos 0)) w) w (λ o. refl)

  set_waits : (r class index : ℕ) (v : ℤ) (w : World) → After (Waits w) (field_set D r class index v w)
  set_waits r class index v w = in_object_waits class (object_at w.objects r) (λ o. Done v (with_objects w (with_object w.objects r (with_fields o (slice_set o.fields index v))))) w (λ o. refl)

  object_read_waits : (r class index : ℕ) (w : World) → After (Waits w) (object_field_read D r class index w)
  object_read_waits r class index w = in_object_waits class (object_at w.objects r) (λ o. Done (name_at o.strong index) (takes (name_at o.strong index) w)) w (λ o. refl)

  field_assigned_waits : (r index value : ℕ) (w : World) (o : Object) → After (Waits w) (field_assigned D r index value w o)
  field_assigned_waits r index value w o =
      let next = field_stores r o index value w in
      after_if (Waits w) (is_emptying o.phase) (Faulted _ w) (released D (name_at o.strong index) next) tt
      (after_weaker (Same next) (Waits w) (released D (name_at o.strong index) next) (λ w1 s. s.waiting) (released_same D steady (name_at o.strong index) next))

  object_set_waits : (r class index value : ℕ) (w : World) → After (Waits w) (object_field_set D r class index value w)
  object_set_waits r class index value w = in_object_waits class (object_at w.objects r) (field_assigned D r index value w) w (field_assigned_waits r index value w)

  holds_waits : (i : Location) (v : ℤ) (w : World) → Waits w (holds i v w)
  holds_waits (Local i) v w = refl
  holds_waits (Global i) v w = refl

  mutual
    value_waits : (a : Value) (w : World) → After (Waits w) (evaluated D a w)
    value_waits (Number n) w = refl
    value_waits ReadByte w = refl
    value_waits (Print pieces arguments) w =
        waits_then w (all_evaluated D arguments w) (λ passed w1. let bytes = formatted pieces passed.numbers in Done (byte_count bytes) (prints bytes w1)) (arguments_wait arguments w) (λ passed w1. refl)
    value_waits (Unary operator kind a) w = waits_then w (evaluated D a w) (λ x w1. Done (applied operator kind x) w1) (value_waits a w) (λ x w1. refl)
    value_waits (Binary operator kind a b) w =
        waits_then w (evaluated D a w) (λ x w1. then_do (evaluated D b w1) (λ y w2. or_fault (combined operator kind x y) w2)) (value_waits a w)
        (λ x w1. waits_then w1 (evaluated D b w1) (λ y w2. or_fault (combined operator kind x y) w2) (value_waits b w1) (λ y w2. fault_waits (combined operator kind x y) w2))
    value_waits (Conditional c a b) w =
        waits_then w (evaluated D c w) (λ x w1. chosen (is_zero x) (evaluated D a w1) (evaluated D b w1)) (value_waits c w)
        (λ x w1. after_chosen (Waits w1) (is_zero x) (evaluated D a w1) (evaluated D b w1) (value_waits a w1) (value_waits b w1))
    value_waits (Convert kind a) w = waits_then w (evaluated D a w) (λ x w1. Done (converted kind x) w1) (value_waits a w) (λ x w1. refl)
    value_waits (Read i) w = refl
    value_waits (AssignNumber i a) w = waits_then w (evaluated D a w) (λ x w1. Done x (holds i x w1)) (value_waits a w) (λ x w1. holds_waits i x w1)
    value_waits (Update moment i operator computed kept a) w =
        let old = held_at i w in
        let stored : ℤ → World → Outcome ℤ = λ new w2. Done (given_by moment old new) (holds i new w2) in
        waits_then w (evaluated D a w) (λ x w1. then_do (updated operator computed kept old x w1) stored) (value_waits a w)
        (λ x w1. waits_then w1 (updated operator computed kept old x w1) stored (updated_waits operator computed kept old x w1) (λ new w2. holds_waits i new w2))
    value_waits (Call f arguments) w = waits_then w (all_evaluated D arguments w) (λ passed w1. number_given (D.call gives.Number f 0 passed w1)) (arguments_wait arguments w)
        (λ passed w1. number_waits (D.call gives.Number f 0 passed w1) w1 (call_waits gives.Number f 0 passed w1))
    value_waits (Send receiver selector arguments) w =
        let go : Target → Given → World → Outcome ℤ = λ target passed w2. number_given (sent D gives.Number target selector passed w2) in
        waits_then w (received D receiver w) (λ target w1. then_do (all_evaluated D arguments w1) (go target)) (receiver_waits receiver w)
        (λ target w1. waits_then w1 (all_evaluated D arguments w1) (go target) (arguments_wait arguments w1)
        (λ passed w2. number_waits (sent D gives.Number target selector passed w2) w2 (target_waits gives.Number target selector passed w2)))
    value_waits (GetField a class index) w =
        waits_then w (referred D a w) (λ r w1. field_read D r class index w1) (reference_waits a w)
        (λ r w1. read_waits r class index w1)
    value_waits (SetField a class index b) w =
        waits_then w (referred D a w) (λ r w1. then_do (evaluated D b w1) (λ v w2. field_set D r class index v w2)) (reference_waits a w)
        (λ r w1. waits_then w1 (evaluated D b w1) (λ v w2. field_set D r class index v w2) (value_waits b w1)
        (λ v w2. set_waits r class index v w2))
    value_waits (UpdateField moment a class index operator computed kept b) w =
        let set : ℕ → (old new : ℤ) → World → Outcome ℤ = λ r old new w4. then_do (field_set D r class index new w4) (λ _ w5. Done (given_by moment old new) w5) in
        let renewed : ℕ → (old x : ℤ) → World → Outcome ℤ = λ r old x w3. then_do (updated operator computed kept old x w3) (set r old) in
        waits_then w (referred D a w) (λ r w1. then_do (field_read D r class index w1) (λ old w2. then_do (evaluated D b w2) (renewed r old))) (reference_waits a w)
        (λ r w1. waits_then w1 (field_read D r class index w1) (λ old w2. then_do (evaluated D b w2) (renewed r old)) (read_waits r class index w1)
        (λ old w2. waits_then w2 (evaluated D b w2) (renewed r old) (value_waits b w2)
        (λ x w3. waits_then w3 (updated operator computed kept old x w3) (set r old) (updated_waits operator computed kept old x w3)
        (λ new w4. waits_then w4 (field_set D r class index new w4) (λ _ w5. Done (given_by moment old new) w5) (set_waits r class index new w4) (λ _ w5. refl)))))
    value_waits (NotSame a b) w =
        waits_then w (referred D a w) (λ x w1. then_do (referred D b w1) (λ y w2. Done (difference x y) w2)) (reference_waits a w)
        (λ x w1. waits_then w1 (referred D b w1) (λ y w2. Done (difference x y) w2) (reference_waits b w1) (λ y w2. refl))
    value_waits (IsObject a) w = waits_then w (referred D a w) (λ x w1. Done (difference x 0) w1) (reference_waits a w) (λ x w1. refl)

    reference_waits : (a : Reference) (w : World) → After (Waits w) (referred D a w)
    reference_waits Nil w = refl
    reference_waits Itself w = refl
    reference_waits (Variable i) w = refl
    reference_waits (ObjectConditional c a b) w =
        waits_then w (evaluated D c w) (λ x w1. chosen (is_zero x) (referred D a w1) (referred D b w1)) (value_waits c w)
        (λ x w1. after_chosen (Waits w1) (is_zero x) (referred D a w1) (referred D b w1) (reference_waits a w1) (reference_waits b w1))
    reference_waits (AssignObject i a) w =
        waits_then w (referred D a w) (λ r w1. then_do (assigned D i r w1) (λ _ w2. Done r (takes r w2))) (reference_waits a w)
        (λ r w1. waits_then w1 (assigned D i r w1) (λ _ w2. Done r (takes r w2)) (assigned_wait i r w1) (λ _ w2. refl))
    reference_waits (GetObjectField a class index) w =
        waits_then w (referred D a w) (λ r w1. object_field_read D r class index w1) (reference_waits a w) (λ r w1. object_read_waits r class index w1)
    reference_waits (SetObjectField a class index b) w =
        let taken : ℕ → Finished → World → Outcome ℕ = λ value _ w3. Done value (takes value w3) in
        let set : ℕ → ℕ → World → Outcome ℕ = λ r value w2. then_do (object_field_set D r class index value w2) (taken value) in
        waits_then w (referred D a w) (λ r w1. then_do (referred D b w1) (set r)) (reference_waits a w)
        (λ r w1. waits_then w1 (referred D b w1) (set r) (reference_waits b w1)
        (λ value w2. waits_then w2 (object_field_set D r class index value w2) (taken value) (object_set_waits r class index value w2) (λ _ w3. refl)))
    reference_waits (Alloc a) w = waits_then w (evaluated D a w) (λ class w1. made D (class_at class) w1) (value_waits a w) (λ class w1. made_waits (class_at class) w1)
    reference_waits (New from a) w = waits_then w (evaluated D a w) (λ class w1. new_sent D from class w1) (value_waits a w) (λ class w1. new_waits _ class w1)
    reference_waits (ObjectCall f arguments) w =
        waits_then w (all_evaluated D arguments w) (λ passed w1. object_given (D.call gives.Object f 0 passed w1)) (arguments_wait arguments w)
        (λ passed w1. object_waits (D.call gives.Object f 0 passed w1) w1 (call_waits gives.Object f 0 passed w1))
    reference_waits (ObjectSend receiver selector arguments) w =
        let go : Target → Given → World → Outcome ℕ = λ target passed w2. object_given (sent D gives.Object target selector passed w2) in
        waits_then w (received D receiver w) (λ target w1. then_do (all_evaluated D arguments w1) (go target)) (receiver_waits receiver w)
        (λ target w1. waits_then w1 (all_evaluated D arguments w1) (go target) (arguments_wait arguments w1)
        (λ passed w2. object_waits (sent D gives.Object target selector passed w2) w2 (target_waits gives.Object target selector passed w2)))

    receiver_waits : (receiver : Receiver) (w : World) → After (Waits w) (received D receiver w)
    receiver_waits (ClassValue a) w = waits_then w (evaluated D a w) (λ class w1. Done (ToClass (class_at class) class) w1) (value_waits a w) (λ class w1. refl)
    receiver_waits (ClassSuper from) w = refl
    receiver_waits (ObjectValue a) w = waits_then w (referred D a w) (λ self w1. Done (ToObject self) w1) (reference_waits a w) (λ self w1. refl)
    receiver_waits (ObjectSuper a from) w = waits_then w (referred D a w) (λ self w1. Done (ToSuper from self) w1) (reference_waits a w) (λ self w1. refl)

    arguments_wait : (all : Arguments) (w : World) → After (Waits w) (all_evaluated D all w)
    arguments_wait no_arguments w = refl
    arguments_wait (number_argument a others) w =
        waits_then w (evaluated D a w) (λ x w1. then_do (all_evaluated D others w1) (λ passed w2. Done (and_number x passed) w2)) (value_waits a w)
        (λ x w1. waits_then w1 (all_evaluated D others w1) (λ passed w2. Done (and_number x passed) w2) (arguments_wait others w1) (λ passed w2. refl))
    arguments_wait (object_argument a others) w =
        waits_then w (referred D a w) (λ r w1. then_do (all_evaluated D others w1) (λ passed w2. Done (and_object r passed) w2)) (reference_waits a w)
        (λ r w1. waits_then w1 (all_evaluated D others w1) (λ passed w2. Done (and_object r passed) w2) (arguments_wait others w1) (λ passed w2. refl))

  -- ---- statements

  dropped_waits : (w : World) → After (Waits w) (all_dropped D w)
  dropped_waits w = temporaries_wait w.frame.temporaries w

  full_expression_waits : (a : Value) (w : World) → After (Waits w) (full_expression D a w)
  full_expression_waits a w =
      waits_then w (evaluated D a w) (λ v w1. then_do (all_dropped D w1) (λ _ w2. Done v w2)) (value_waits a w)
      (λ v w1. waits_then w1 (all_dropped D w1) (λ _ w2. Done v w2) (dropped_waits w1) (λ _ w2. refl))

  full_object_expression_waits : (a : Reference) (w : World) → After (Waits w) (full_object_expression D a w)
  full_object_expression_waits a w = waits_then w (referred D a w) (λ _ w1. all_dropped D w1) (reference_waits a w) (λ _ w1. dropped_waits w1)

  begun_waits : (i : ℕ) (a : Reference) (w : World) → After (Waits w) (begun D i a w)
  begun_waits i a w =
      waits_then w (referred D a w) (λ r w1. then_do (assigned D (Local i) r w1) (λ _ w2. all_dropped D w2)) (reference_waits a w)
      (λ r w1. waits_then w1 (assigned D (Local i) r w1) (λ _ w2. all_dropped D w2) (assigned_wait (Local i) r w1) (λ _ w2. dropped_waits w2))

  normally_waits : (o : Outcome Finished) (w : World) → After (Waits w) o → After (Waits w) (normally o)
  normally_waits o w h = waits_then w o (λ _ w1. Done Normal w1) h (λ _ w1. refl)

  scope_waits : (first count : ℕ) (flow : Flow) (w : World) → After (Waits w) (scope_left D first count flow w)
  scope_waits first count Normal w = normally_waits (variables_dropped D first count w) w (variables_wait first count w)
  scope_waits first count Broken w = waits_then w (variables_dropped D first count w) (λ _ w1. Done Broken w1) (variables_wait first count w) (λ _ w1. refl)
  scope_waits first count Continued w = waits_then w (variables_dropped D first count w) (λ _ w1. Done Continued w1) (variables_wait first count w) (λ _ w1. refl)
  scope_waits first count (Returned v) w = refl

  flow_waits : (flow : Flow) (go : World → Outcome Flow) (w : World) → ((w1 : World) → After (Waits w1) (go w1)) → After (Waits w) (if_normal flow go w)
  flow_waits Normal go w h = h w
  flow_waits Broken go w h = refl
  flow_waits Continued go w h = refl
  flow_waits (Returned v) go w h = refl

  body_waits : (flow : Flow) (go : World → Outcome Flow) (w : World) → ((w1 : World) → After (Waits w1) (go w1)) → After (Waits w) (after_body flow go w)
  body_waits Normal go w h = h w
  body_waits Broken go w h = refl
  body_waits Continued go w h = h w
  body_waits (Returned v) go w h = refl

  in_turn_waits : (one other : World → Outcome Flow) (w : World) → ((w1 : World) → After (Waits w1) (one w1)) → ((w1 : World) → After (Waits w1) (other w1)) → After (Waits w) (in_turn one other w)
  in_turn_waits one other w h k = waits_then w (one w) (λ flow w1. if_normal flow other w1) (h w) (λ flow w1. flow_waits flow other w1 k)

  turns_wait : (bound : ℕ) (test : World → Outcome ℤ) (step body : World → Outcome Flow) (w : World)
      → ((w1 : World) → After (Waits w1) (test w1)) → ((w1 : World) → After (Waits w1) (step w1)) → ((w1 : World) → After (Waits w1) (body w1)) → After (Waits w) (turns bound test step body w)
  turns_wait zero test step body w tests steps bodies =
      waits_then w (test w) (λ v w1. chosen (is_zero v) (Cut w1) (Done Normal w1)) (tests w) (λ v w1. after_chosen (Waits w1) (is_zero v) (Cut w1) (Done Normal w1) tt refl)
  turns_wait (suc n) test step body w tests steps bodies =
      let next = in_turn step (turns n test step body) in
      waits_then w (test w) (λ v w1. chosen (is_zero v) (then_do (body w1) (λ flow w2. after_body flow next w2)) (Done Normal w1)) (tests w)
      (λ v w1. after_chosen (Waits w1) (is_zero v) (then_do (body w1) (λ flow w2. after_body flow next w2)) (Done Normal w1)
      (waits_then w1 (body w1) (λ flow w2. after_body flow next w2) (bodies w1)
      (λ flow w2. body_waits flow next w2 (λ w3. in_turn_waits step (turns n test step body) w3 steps (λ w4. turns_wait n test step body w4 tests steps bodies)))) refl)

  loop_waits : (moment : Moment) (bound : ℕ) (test : World → Outcome ℤ) (step body : World → Outcome Flow) (w : World)
      → ((w1 : World) → After (Waits w1) (test w1)) → ((w1 : World) → After (Waits w1) (step w1)) → ((w1 : World) → After (Waits w1) (body w1)) → After (Waits w) (looped moment bound test step body w)
  loop_waits moments.Before bound test step body w tests steps bodies = turns_wait bound test step body w tests steps bodies
  loop_waits moments.After zero test step body w tests steps bodies = tt
  loop_waits moments.After (suc n) test step body w tests steps bodies =
      let next = in_turn step (turns n test step body) in
      waits_then w (body w) (λ flow w1. after_body flow next w1) (bodies w)
      (λ flow w1. body_waits flow next w1 (λ w2. in_turn_waits step (turns n test step body) w2 steps (λ w3. turns_wait n test step body w3 tests steps bodies)))

  mutual
    command_waits : (bound : ℕ) (c : Command) (w : World) → After (Waits w) (executed D bound c w)
    command_waits bound (Sequence first count all) w =
        waits_then w (all_executed D bound all w) (λ flow w1. scope_left D first count flow w1) (commands_wait bound all w) (λ flow w1. scope_waits first count flow w1)
    command_waits bound (Evaluate a) w = waits_then w (full_expression D a w) (λ _ w1. Done Normal w1) (full_expression_waits a w) (λ _ w1. refl)
    command_waits bound (EvaluateReference a) w = normally_waits (full_object_expression D a w) w (full_object_expression_waits a w)
    command_waits bound (InitVariable i a) w = normally_waits (begun D i a w) w (begun_waits i a w)
    command_waits bound (Return None) w = refl
    command_waits bound (Return (Some a)) w = waits_then w (full_expression D a w) (λ v w1. Done (Returned v) w1) (full_expression_waits a w) (λ v w1. refl)
    command_waits bound (Give a) w =
        let place = result_place w in
        waits_then w (begun D place a w) (λ _ w1. Done (Returned (pos 0)) w1) (begun_waits place a w) (λ _ w1. refl)
    command_waits bound (If test a b) w =
        waits_then w (full_expression D test w) (λ v w1. chosen (is_zero v) (executed D bound a w1) (executed D bound b w1)) (full_expression_waits test w)
        (λ v w1. after_chosen (Waits w1) (is_zero v) (executed D bound a w1) (executed D bound b w1) (command_waits bound a w1) (command_waits bound b w1))
    command_waits bound (While moment test step body) w =
        loop_waits moment bound (full_expression D test) (executed D bound step) (executed D bound body) w (λ w1. full_expression_waits test w1) (λ w1. command_waits bound step w1) (λ w1. command_waits bound body w1)
    command_waits bound Break w = refl
    command_waits bound Continue w = refl

    pub commands_wait : (bound : ℕ) (all : Commands) (w : World) → After (Waits w) (all_executed D bound all w)
    commands_wait bound no_commands w = refl
    commands_wait bound (and_command c others) w =
        waits_then w (executed D bound c w) (λ flow w1. if_normal flow (all_executed D bound others) w1) (command_waits bound c w)
        (λ flow w1. flow_waits flow (all_executed D bound others) w1 (λ w2. commands_wait bound others w2))
