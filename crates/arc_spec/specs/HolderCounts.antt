-- Objects whose holders are counted: what actions and instructions do to them, and to the places that hold them.
use Rattle.std.specs.Prelude.{◌≡◌, ◌<◌, ℕ, zero, suc, ◌-◌, ℤ, List, [], ◌∷◌, ◌++◌, length, take, drop, Bool, ◌&&◌, nat_eq, Option, Some, None, slice_get, slice_set, if◌then◌else◌}
use Rattle.std.specs.List.{list_all}
use Rattle.std.specs.Option.{option_map_or}
use Rattle.arc_spec.specs.declared.event.Fault.TheVariants.{NilField, FieldClass, Resurrected}
use Rattle.arc_spec.specs.Classes.{Class, descends, field_counts}
use Rattle.arc_spec.specs.Objects.{Object, Phase, Live, Dying, object_at, with_object, in_phase, is_live, is_emptying, new_object, field_places}
pub use Rattle.arc_spec.specs.Objects.{is_there}
pub use Rattle.arc_spec.specs.Classes.{count_of}
use Rattle.arc_spec.specs.Statics.{Statics, first_statics, with_numbers}
use Rattle.arc_spec.specs.World.{World}
use Rattle.arc_spec.specs.SmallSteps.{Next, Faults, Stuck, only_if}

-- The strong places and the references of the running functions. Of the one that runs: its temporaries, the last one first, what its variables that name objects
-- hold, the first one first, and in a method of objects `self`. The strong places of those that wait for it. The references that operands name, which hold nothing,
-- the last one first. The objects, and how many strong places are counted to name each of them. What is kept from the start to the end, and what the variables of the
-- whole program name that name objects.
pub record Heap : Type 0 where
  pub temporaries : List ℕ
  pub variables : List ℕ
  pub self : ℕ
  pub places : List ℕ
  pub names : List ℕ
  pub objects : List Object
  pub counts : ℕ → ℕ
  pub statics : Statics
  pub strong_globals : List ℕ

abbrev pub empty_heap : Heap
empty_heap = record { temporaries = []; variables = []; self = 0; places = []; names = []; objects = []; counts = λ o. 0; statics = first_statics []; strong_globals = [] }

-- what a world holds, with these references, and with these counts
abbrev pub counting : List ℕ → World → (ℕ → ℕ) → Heap
counting names w counts = record { temporaries = w.frame.temporaries; variables = w.frame.strong; self = w.frame.self; places = w.waiting; names = names; objects = w.objects; counts = counts; statics = w.statics; strong_globals = w.strong_globals }

-- the strong places of all functions that were called
abbrev pub stacked : Heap → List ℕ
stacked h = (h.temporaries ++ h.variables) ++ h.places

-- All strong places: what each of them names. They are the temporaries and variables of all functions that were called, the variables of the whole program, and the
-- fields of the objects that aren't gone.
abbrev pub all_places : Heap → List ℕ
all_places h =
    stacked h
    ++ (h.strong_globals
    ++ field_places h.objects)

-- a function that waits: its `self`, and how many temporaries and variables it has among the places that wait
pub record Waiter : Type 0 where
  pub self : ℕ
  pub temporaries : ℕ
  pub variables : ℕ

-- What waits for the running function, and where it goes on: a call of one; the end of an object, which goes on with the dealloc of the next class, of so many that are
-- left; or the end of an object, of whose fields that name objects these are still to be destroyed.
pub data ReturnFrame : Type 0 where
  Calling : (back : ℕ) → Waiter → ReturnFrame
  Ending : (back : ℕ) → Waiter → (object : ℕ) → (next : Option ℕ) → (classes : ℕ) → ReturnFrame
  Clearing : (back : ℕ) → Waiter → (object : ℕ) → (fields : List ℕ) → ReturnFrame

abbrev pub with_temporaries : Heap → List ℕ → Heap
with_temporaries h temporaries = record h { temporaries = temporaries }

abbrev pub with_variables : Heap → List ℕ → Heap
with_variables h variables = record h { variables = variables }

abbrev pub with_names : Heap → List ℕ → Heap
with_names h names = record h { names = names }

abbrev pub with_things : Heap → List Object → Heap
with_things h objects = record h { objects = objects }

abbrev pub with_globals : Heap → List ℤ → Heap
with_globals h globals = record h { statics = with_numbers h.statics globals }

abbrev pub with_strong_globals : Heap → List ℕ → Heap
with_strong_globals h strong_globals = record h { strong_globals = strong_globals }

-- how many places name an object
abbrev pub holders : ℕ → List ℕ → ℕ
holders o [] = 0
holders o (p ∷ others) = if nat_eq o p then suc (holders o others) else holders o others

-- Each count is the number of places that name the object, and an object whose dealloc hasn't begun has a place that names it.
pub record CountsAreExact (h : Heap) : Type 0 where
  pub counted : (k : ℕ) → h.counts (suc k) ≡ holders (suc k) (all_places h)
  pub held : (k : ℕ) (o : Object) → object_at h.objects (suc k) ≡ Some o → o.phase ≡ Live → 0 < h.counts (suc k)

-- one more place names an object, or one less
abbrev pub raised : ℕ → Heap → Heap
raised o h = record h { counts = λ k. if nat_eq k o then suc (h.counts k) else h.counts k }

abbrev pub lowered : ℕ → Heap → Heap
lowered o h = record h { counts = λ k. if nat_eq k o then h.counts k - 1 else h.counts k }

-- an object that isn't gone; no step uses one that is
abbrev pub on_object : {S : Type 0} → Option Object → (Object → Next S) → Next S
on_object None go = Stuck
on_object (Some o) go = only_if (is_there o.phase) (go o)

-- what a reference names is nil, or an object that isn't gone
abbrev pub on_named : {S : Type 0} → ℕ → Heap → Next S → Next S
on_named zero h next = next
on_named (suc k) h next = on_object (object_at h.objects (suc k)) (λ _. next)

-- a further reference
abbrev pub named : ℕ → Heap → Heap
named r h = record h { names = r ∷ h.names }

-- a further temporary takes this
abbrev pub taken_by : ℕ → Heap → Heap
taken_by r h = raised r (record h { temporaries = r ∷ h.temporaries })

-- the same, where it is nil or an object that isn't gone
abbrev pub holds : {S : Type 0} → ℕ → Heap → (Heap → Next S) → Next S
holds r h go = on_named r h (go (taken_by r h))

-- a further variable, which is nil, before all others; a function that has temporaries gets none
abbrev pub declares : {S : Type 0} → List ℕ → Heap → (Heap → Next S) → Next S
declares [] h go = go (raised 0 (record h { variables = 0 ∷ h.variables }))
declares (r ∷ others) h go = Stuck

-- A place named this and doesn't any more: one holder less is counted. The last one less of an object whose dealloc hasn't begun is the beginning of its end.
abbrev pub lets_go : {S : Type 0} → ℕ → Heap → (stays : Heap → Next S) → (ends : (o class : ℕ) → Heap → Next S) → Next S
lets_go zero h stays ends = stays (lowered 0 h)
lets_go (suc k) h stays ends = on_object (object_at h.objects (suc k)) (λ o. if is_live (Some o) && nat_eq (h.counts (suc k)) 1
    then ends (suc k) o.class (record (lowered (suc k) h) { objects = with_object h.objects (suc k) (in_phase Dying o) })
    else stays (lowered (suc k) h))

-- ---- functions that begin and are left

-- the running function, as it waits
abbrev pub waiter_of : Heap → Waiter
waiter_of h = record { self = h.self; temporaries = length h.temporaries; variables = length h.variables }

-- a function runs with this `self`, and the one that ran waits
abbrev pub entered : (self : ℕ) → Heap → Heap
entered self h = record h { temporaries = []; variables = []; self = self; places = stacked h }

-- the function that waited runs again
abbrev pub resumed : Waiter → Heap → Heap
resumed w h = record h {
  temporaries = take w.temporaries h.places;
  variables = take w.variables (drop w.temporaries h.places);
  self = w.self;
  places = drop w.variables (drop w.temporaries h.places);
}

-- whether all of these are nil
abbrev pub all_nil : List ℕ → Bool
all_nil = list_all (nat_eq 0)

-- the running function is left: it has no temporary, and its variables, all of them nil, are no more
abbrev pub on_left : {S : Type 0} → List ℕ → Heap → (Heap → Next S) → Next S
on_left [] h go = only_if (all_nil h.variables) (go (record h { variables = [] }))
on_left (r ∷ others) h go = Stuck

-- what the last of some places names, where the others are nil
abbrev pub on_last : {S : Type 0} → List ℕ → (ℕ → Next S) → Next S
on_last [] go = Stuck
on_last (r ∷ []) go = go r
on_last (zero ∷ q ∷ others) go = on_last (q ∷ others) go
on_last (suc k ∷ q ∷ others) go = Stuck

-- The running function is left with an object: it has no temporary, and its variables, of which all but the last one, its result, are nil, are no more.
abbrev pub on_result : {S : Type 0} → List ℕ → Heap → (ℕ → Heap → Next S) → Next S
on_result [] h go = on_last h.variables (λ r. go r (record h { variables = [] }))
on_result (r ∷ others) h go = Stuck

-- a result is the last temporary, and the last reference names it: no place more or less names it than before it was handed over
abbrev pub given_back : ℕ → Heap → Heap
given_back r h = named r (record h { temporaries = r ∷ h.temporaries })

-- ---- objects

-- an object is made, a further temporary takes it, and a further reference names it
abbrev pub makes : List Class → (class : ℕ) → Heap → Heap
makes classes class h = named (suc (length h.objects)) (taken_by (suc (length h.objects))
    (record h { objects = h.objects ++ new_object class (field_counts (slice_get classes class)) ∷ [] }))

-- a field of an object, whose own class this is
abbrev pub on_field : {S : Type 0} → List Class → (class r : ℕ) → Heap → (Object → Next S) → Next S
on_field classes class zero h go = Faults NilField
on_field classes class (suc k) h go = on_object (object_at h.objects (suc k)) (λ o. if descends classes (Some o.class) class then go o else Faults FieldClass)

abbrev pub with_field : Heap → ℕ → Object → (index : ℕ) → ℤ → Heap
with_field h r o index v = record h { objects = with_object h.objects r (record o { fields = slice_set o.fields index v }) }

-- a field of an object names this now
abbrev pub with_strong_field : Heap → ℕ → Object → (index : ℕ) → ℕ → Heap
with_strong_field h r o index value = record h { objects = with_object h.objects r (record o { strong = slice_set o.strong index value }) }

-- what a place names, where there is that place
abbrev pub on_place : {S : Type 0} → Option ℕ → Next S → (ℕ → Next S) → Next S
on_place None none go = none
on_place (Some old) none go = go old

-- A field of an object takes this value, if there is that field, and what it named is let go; where the fields of the object are being destroyed this is a fault.
abbrev pub stores_field : {S : Type 0} → (r : ℕ) → Object → (index value : ℕ) → Heap → (stays : Heap → Next S) → (ends : (o class : ℕ) → Heap → Next S) → Next S
stores_field r o index value h stays ends = if is_emptying o.phase then Faults Resurrected
    else on_place (slice_get o.strong index) (stays h) (λ old. lets_go old (raised value (with_strong_field h r o index value)) stays ends)

-- an object in another phase
abbrev pub turned_in : Phase → List Object → ℕ → List Object
turned_in phase objects o = option_map_or (λ ob. with_object objects o (in_phase phase ob)) (object_at objects o) objects

-- a field of an object whose fields are destroyed is nil, and what it named is let go
abbrev pub clears_field : {S : Type 0} → (r index : ℕ) → Heap → (stays : Heap → Next S) → (ends : (o class : ℕ) → Heap → Next S) → Next S
clears_field r index h stays ends = on_object (object_at h.objects r) (λ o.
    on_place (slice_get o.strong index) (stays h) (λ old. lets_go old (raised 0 (with_strong_field h r o index 0)) stays ends))
