-- What the interpreter does with objects and their fields, and with the places that name them, is what the meaning says.
use Rattle.std.proofs.Common.{arith, ◌≡◌, ℕ, zero, suc, ◌+◌, ◌-◌, ◌<◌, ◌≤◌, ℤ, pos, Bool, true, false, ◌||◌, nat_eq, nat_lt, List, [], ◌∷◌, ◌++◌, length, map, drop, reverse, replicate, get_or, Option, Some, None, option_map, Result, MatchOption, slice_get, slice_set, refl, sym, ap, subst, ◌∙◌}
use Rattle.std.specs.Prelude.{slice_index_or, if◌then◌else◌}
use Rattle.std.specs.Option.{is_some, IfSome}
use Rattle.std.proofs.lemmas.List.{reverse-append, map-set, map-append, length-map, length-append, drop_more}
use Rattle.std.proofs.lemmas.Option.{slice_get-map, slice_get_read, slice_get_past}
use Rattle.std.proofs.lemmas.Bool.{ltb-true, ltb-false}
use Rattle.std.specs.Borrow.{Bor}
use Rattle.arc_spec.specs.declared.event.Fault.TheVariants.{FieldClass, Resurrected}
use Rattle.arc_spec.specs.declared.sort_counts.SortCounts.{SortCounts}
use Rattle.arc_spec.specs.Classes.{Class, descends, field_counts}
use Rattle.arc_spec.specs.Sorts.{none_counted}
use Rattle.arc_spec.specs.Objects as objects
use Rattle.arc_spec.specs.Objects.{object_at, with_object, with_fields, with_strong_fields, is_emptying, new_object, names, field_places, nils, zeros}
use Rattle.arc_spec.specs.World.{World, Outcome, Done, Faulted, takes, with_objects, name_at}
use Rattle.arc_spec.specs.Meaning.{Callees, class_in, next_object, made, in_object, field_read, field_set, field_stores}
use Rattle.arc_plain.specs.declared.halt.Halt.{Halt}
use Rattle.arc_plain.specs.declared.object.Object.{Object}
use Rattle.arc_plain.specs.Views.{Reports, object_of, changed, changed_to, named_in, field_replaced, object_field_replaced}
use Rattle.arc_plain.proofs.LoopsAndFailures.{nothing_below}

pub nils_are : (n : ℕ) → replicate n 0 ≡ nils n
nils_are zero = refl
nils_are (suc n) = ap (λ l. 0 ∷ l) (nils_are n)

pub zeros_are : (n : ℕ) → replicate n (pos 0) ≡ zeros n
zeros_are zero = refl
zeros_are (suc n) = ap (λ l. pos 0 ∷ l) (zeros_are n)

-- an object as it is made
pub new_reported : (class : ℕ) (counts : SortCounts) (fields : List ℤ) (strong : List ℕ) → fields ≡ replicate counts.numbers (pos 0) → strong ≡ replicate counts.objects 0
    → with_strong_fields (with_fields (new_object class none_counted) fields) strong ≡ new_object class counts
new_reported class counts fields strong is names =
    let blank = new_object class none_counted in
    ap (λ l. with_strong_fields (with_fields blank l) strong) (is ∙ zeros_are counts.numbers) ∙ ap (with_strong_fields (with_fields blank (zeros counts.numbers))) (names ∙ nils_are counts.objects)

-- ---- places

or_false : (b : Bool) → b ≡ (b || false)
or_false true = refl
or_false false = refl

or_swap : (a b : Bool) → (a || b) ≡ (b || a)
or_swap true true = refl
or_swap true false = refl
or_swap false true = refl
or_swap false false = refl

or_assoc : (a b c : Bool) → ((a || b) || c) ≡ (a || (b || c))
or_assoc true b c = refl
or_assoc false b c = refl

names_append : (o : ℕ) (a b : List ℕ) → names o (a ++ b) ≡ (names o a || names o b)
names_append o [] b = refl
names_append o (p ∷ a) b =
    ap (λ x. nat_eq o p || x) (names_append o a b) ∙ sym (or_assoc (nat_eq o p) (names o a) (names o b))

names_one : (o p : ℕ) → names o (p ∷ []) ≡ nat_eq o p
names_one o p = sym (or_false (nat_eq o p))

names_reverse : (o : ℕ) (a : List ℕ) → names o (reverse a) ≡ names o a
names_reverse o [] = refl
names_reverse o (p ∷ a) =
    ap (names o) (reverse-append (p ∷ []) a) ∙ names_append o (reverse a) (p ∷ [])
    ∙ or_swap (names o (reverse a)) (names o (p ∷ []))
    ∙ ap (λ x. x || names o (reverse a)) (names_one o p) ∙ ap (λ x. nat_eq o p || x) (names_reverse o a)

-- whether a place names an object, of all kinds of places
pub names_places : (o : ℕ) (t s w g f : List ℕ) → names o (((reverse t ++ s) ++ reverse w) ++ (g ++ f)) ≡ (names o t || (names o s || (names o w || (names o g || names o f))))
names_places o t s w g f =
    names_append o ((reverse t ++ s) ++ reverse w) (g ++ f)
    ∙ ap (λ x. names o ((reverse t ++ s) ++ reverse w) || x) (names_append o g f)
    ∙ ap (λ x. x || (names o g || names o f)) (names_append o (reverse t ++ s) (reverse w))
    ∙ ap (λ x. (x || names o (reverse w)) || (names o g || names o f)) (names_append o (reverse t) s)
    ∙ ap (λ x. ((x || names o s) || names o (reverse w)) || (names o g || names o f)) (names_reverse o t)
    ∙ ap (λ x. ((names o t || names o s) || x) || (names o g || names o f)) (names_reverse o w)
    ∙ or_assoc (names o t || names o s) (names o w) (names o g || names o f)
    ∙ or_assoc (names o t) (names o s) (names o w || (names o g || names o f))

-- whether the fields of some objects name one
pub names_fields : (o : ℕ) (all : List Object) (i : ℕ) (one : Object) → i < length all → one ≡ get_or all i one
    → names o (field_places (map object_of (drop i all))) ≡ (names o (objects.fields_of (object_of one)) || names o (field_places (map object_of (drop (i + 1) all))))
names_fields o all i one below is =
    ap (λ l. names o (field_places (map object_of l))) (drop_more all i one below ∙ ap (λ x. x ∷ drop (i + 1) all) (sym is))
    ∙ names_append o (objects.fields_of (object_of one)) (field_places (map object_of (drop (i + 1) all)))

-- ---- objects by number

object_there : (all : List objects.Object) (number : ℕ) → 0 < number → object_at all number ≡ slice_get all (number - 1)
object_there all zero some = nothing_below some
object_there all (suc k) some =
    let one : suc k - 1 ≡ k = omega arith in
    ap (slice_get all) (sym one)

pub object_here : (all : List Object) (number : ℕ) (o : Object) → 0 < number → number - 1 < length all → o ≡ get_or all (number - 1) o → object_at (map object_of all) number ≡ Some (object_of o)
object_here all number o some below is =
    object_there (map object_of all) number some ∙ slice_get-map object_of all (number - 1)
    ∙ ap (option_map object_of) (slice_get_read all (length all) (number - 1) o refl below is)

pub object_missing : (all : List Object) (number : ℕ) → 0 < number → length all ≤ number - 1 → object_at (map object_of all) number ≡ None
object_missing all number some past =
    object_there (map object_of all) number some ∙ slice_get-map object_of all (number - 1) ∙ ap (option_map object_of) (slice_get_past all (number - 1) past)

-- what was found at a number
pub object_found : (r : Option (Bor Object)) (all : List Object) (number : ℕ) → 0 < number → is_some r ≡ nat_lt (number - 1) (length all) → IfSome r (λ x. x.now ≡ get_or all (number - 1) x.now)
    → MatchOption r (object_at (map object_of all) number ≡ None) (λ o. object_at (map object_of all) number ≡ Some (object_of o.now))
object_found None all number some there is = object_missing all number some (ltb-false (number - 1) (length all) (sym there))
object_found (Some x) all number some there is = object_here all number x.now some (ltb-true (number - 1) (length all) (sym there)) is

-- where there is no such object, none is changed
pub unchanged_nil : (all : List objects.Object) (number : ℕ) (change : objects.Object → objects.Object) → number ≡ 0 → all ≡ changed all number change
unchanged_nil all number change is = ap (λ n. changed all n change) (sym is)

pub unchanged_past : (all : List Object) (number : ℕ) (change : objects.Object → objects.Object) → length all < number → map object_of all ≡ changed (map object_of all) number change
unchanged_past all number change past =
    sym (ap (changed_to (map object_of all) number change) (object_missing all number (omega (arith, past)) (omega (arith, past))))

changed_place : (all : List objects.Object) (number : ℕ) (o : objects.Object) → 0 < number → with_object all number o ≡ slice_set all (number - 1) o
changed_place all zero o some = nothing_below some
changed_place all (suc k) o some =
    let one : suc k - 1 ≡ k = omega arith in
    ap (λ i. slice_set all i o) (sym one)

-- an object that is changed
pub changed_there : (all : List Object) (number : ℕ) (o new : Object) (change : objects.Object → objects.Object) → 0 < number → number ≤ length all
    → o ≡ get_or all (number - 1) o → object_of new ≡ change (object_of (get_or all (number - 1) o)) → map object_of (slice_set all (number - 1) new) ≡ changed (map object_of all) number change
changed_there all number o new change some below is changes =
    map-set object_of all (number - 1) new ∙ ap (slice_set (map object_of all) (number - 1)) (changes ∙ ap (λ x. change (object_of x)) (sym is))
    ∙ sym (changed_place (map object_of all) number (change (object_of o)) some)
    ∙ sym (ap (changed_to (map object_of all) number change) (object_here all number o some (omega (arith, below, some)) is))

-- ---- fields

-- a field that is read, of an object of another class and of one that has it
pub read_other : (D : Callees) (classes : List Class) (r class index : ℕ) (o : objects.Object) (w : World) → D.classes ≡ classes → object_at w.objects r ≡ Some o
    → descends classes (Some o.class) class ≡ false → field_read D r class index w ≡ Faulted FieldClass w
read_other D classes r class index o w same is other =
    let go = λ (o : objects.Object). Done (slice_index_or o.fields index (pos 0)) w in
    ap (λ ob. in_object D class ob go w) is
    ∙ ap (λ b. if b then go o else Faulted FieldClass w) (ap (λ l. descends l (Some o.class) class) same ∙ other)

pub read_reported : (D : Callees) (classes : List Class) (r class index : ℕ) (v : ℤ) (o : objects.Object) (w : World) → D.classes ≡ classes → object_at w.objects r ≡ Some o
    → descends classes (Some o.class) class ≡ true → slice_index_or o.fields index (pos 0) ≡ v → field_read D r class index w ≡ Done v w
read_reported D classes r class index v o w same is holds gives =
    let go = λ (o : objects.Object). Done (slice_index_or o.fields index (pos 0)) w in
    ap (λ ob. in_object D class ob go w) is
    ∙ ap (λ b. if b then go o else Faulted FieldClass w) (ap (λ l. descends l (Some o.class) class) same ∙ holds) ∙ ap (λ n. Done n w) gives

-- a field that is set, of an object of another class
pub set_other : (D : Callees) (classes : List Class) (r class index own : ℕ) (v : ℤ) (w : World) → D.classes ≡ classes → Some own ≡ class_in (object_at w.objects r)
    → descends classes (Some own) class ≡ false → field_set D r class index v w ≡ Faulted FieldClass w
set_other D classes r class index own v w same is other =
    in_other (object_at w.objects r) (λ o. Done v (with_objects w (with_object w.objects r (with_fields o (slice_set o.fields index v))))) is
  where
    in_other : (ob : Option objects.Object) (go : objects.Object → Outcome ℤ) → Some own ≡ class_in ob → in_object D class ob go w ≡ Faulted FieldClass w
    in_other None go known = absurd (cc)
    in_other (Some o) go known =
        let test : descends D.classes (Some o.class) class ≡ false = ap (λ l. descends l (Some o.class) class) same ∙ ap (λ c. descends classes c class) (sym known) ∙ other in
        ap (λ b. if b then go o else Faulted FieldClass w) test

-- of an object that has it
pub set_reported : (D : Callees) (classes : List Class) (r class index own : ℕ) (v given : ℤ) (w : World) (all new : List objects.Object) → D.classes ≡ classes → Some own ≡ class_in (object_at w.objects r)
    → descends classes (Some own) class ≡ true → given ≡ v → all ≡ w.objects → new ≡ changed all r (λ o. with_fields o (slice_set o.fields index given))
    → field_set D r class index v w ≡ Done given (with_objects w new)
set_reported D classes r class index own v given w all new same is holds gives there changes =
    let written : new ≡ changed w.objects r (λ o. with_fields o (slice_set o.fields index v)) =
    changes ∙ ap (λ l. changed l r (λ o. with_fields o (slice_set o.fields index given))) there ∙ ap (λ n. changed w.objects r (λ o. with_fields o (slice_set o.fields index n))) gives in
    in_same (object_at w.objects r) is ∙ ap (λ l. Done v (with_objects w l)) (sym written) ∙ ap (λ n. Done n (with_objects w new)) (sym gives)
  where
    in_same : (ob : Option objects.Object) → Some own ≡ class_in ob
        → in_object D class ob (λ o. Done v (with_objects w (with_object w.objects r (with_fields o (slice_set o.fields index v))))) w ≡ Done v (with_objects w (changed_to w.objects r (λ o. with_fields o (slice_set o.fields index v)) ob))
    in_same None known = absurd (cc)
    in_same (Some o) known =
        let test : descends D.classes (Some o.class) class ≡ true = ap (λ l. descends l (Some o.class) class) same ∙ ap (λ c. descends classes c class) (sym known) ∙ holds in
        ap (λ b. if b then Done v (with_objects w (with_object w.objects r (with_fields o (slice_set o.fields index v)))) else Faulted FieldClass w) test

-- ---- objects that are made

pub make_reported : (D : Callees) (classes : List Class) (known : Option ℕ) (c : ℕ) (counts : SortCounts) (number : ℕ) (w : World) (old new : List Object) (o : Object) (result : Result ℕ Halt) (after : World)
    → D.classes ≡ classes → known ≡ Some c → w.objects ≡ map object_of old → counts ≡ field_counts (slice_get classes c) → object_of o ≡ new_object c counts
    → new ≡ old ++ o ∷ [] → number ≡ length new
    → Reports (λ n. n) result (Done number (takes number (with_objects w (map object_of new)))) after → Reports (λ n. n) result (made D known w) after
make_reported D classes known c counts number w old new o result after same is there these makes grown last reported =
    let fields : counts ≡ field_counts (slice_get D.classes c) = these ∙ ap (λ l. field_counts (slice_get l c)) (sym same) in
    let objects : map object_of new ≡ w.objects ++ new_object c (field_counts (slice_get D.classes c)) ∷ [] =
    ap (map object_of) grown ∙ map-append object_of old (o ∷ []) ∙ ap (λ l. l ++ object_of o ∷ []) (sym there)
    ∙ ap (λ x. w.objects ++ x ∷ []) (makes ∙ ap (new_object c) fields) in
    let first : length w.objects ≡ length old = ap length there ∙ length-map old object_of in
    let one : number ≡ next_object w = omega (arith, last, ap length grown, length-append old (o ∷ []), first) in
    let meant : Done number (takes number (with_objects w (map object_of new))) ≡ made D known w =
    ap (λ n. Done n (takes n (with_objects w (map object_of new)))) one
    ∙ ap (λ l. Done (next_object w) (takes (next_object w) (with_objects w l))) objects ∙ ap (λ k. made D k w) (sym is) in
    subst (λ x. Reports (λ n. n) result x after) meant reported

-- ---- fields that name objects

-- a field of an object of another class
pub in_other_class : {A : Type 0} (D : Callees) (classes : List Class) (r class : ℕ) (o : objects.Object) (w : World) (go : objects.Object → Outcome A) → D.classes ≡ classes → object_at w.objects r ≡ Some o
    → descends classes (Some o.class) class ≡ false → in_object D class (object_at w.objects r) go w ≡ Faulted FieldClass w
in_other_class D classes r class o w go same is other =
    ap (λ ob. in_object D class ob go w) is ∙ ap (λ b. if b then go o else Faulted FieldClass w) (ap (λ l. descends l (Some o.class) class) same ∙ other)

-- a field of an object that has it
pub in_own_class : {A : Type 0} (D : Callees) (classes : List Class) (r class : ℕ) (o : objects.Object) (w : World) (go : objects.Object → Outcome A) → D.classes ≡ classes → object_at w.objects r ≡ Some o
    → descends classes (Some o.class) class ≡ true → in_object D class (object_at w.objects r) go w ≡ go o
in_own_class D classes r class o w go same is holds =
    ap (λ ob. in_object D class ob go w) is ∙ ap (λ b. if b then go o else Faulted FieldClass w) (ap (λ l. descends l (Some o.class) class) same ∙ holds)

-- what a field names that takes a new value
pub replaced_reported : (D : Callees) (classes : List Class) (r class index value : ℕ) (o : objects.Object) (w : World) (all new : List objects.Object) (before : ℕ) → D.classes ≡ classes → object_at w.objects r ≡ Some o
    → descends classes (Some o.class) class ≡ true → is_emptying o.phase ≡ false → all ≡ w.objects → before ≡ named_in (object_at all r) index
    → new ≡ changed all r (λ x. with_strong_fields x (slice_set x.strong index value)) → object_field_replaced D r class index value w ≡ Done before (with_objects w new)
replaced_reported D classes r class index value o w all new before same is holds phase there gives changes =
    let change = λ (x : objects.Object). with_strong_fields x (slice_set x.strong index value) in
    let found : object_at all r ≡ Some o = ap (λ l. object_at l r) there ∙ is in
    let named : before ≡ name_at o.strong index = gives ∙ ap (λ ob. named_in ob index) found in
    let stored : new ≡ with_object w.objects r (change o) = changes ∙ ap (changed_to all r change) found ∙ ap (λ l. with_object l r (change o)) there in
    in_own_class D classes r class o w (field_replaced r index value w) same is holds
    ∙ ap (λ b. if b then Faulted Resurrected w else Done (name_at o.strong index) (field_stores r o index value w)) phase
    ∙ ap (λ n. Done n (field_stores r o index value w)) (sym named)
    ∙ ap (λ l. Done before (with_objects w l)) (sym stored)
