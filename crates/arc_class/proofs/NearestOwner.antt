-- The maps of classes, added in turn, give the nearest class that has a name.
use Rattle.std.proofs.Common.{◌≡◌, ℕ, zero, suc, ◌-◌, ◌<◌, ◌≤◌, ◌⊎◌, inl, inr, Bool, true, List, [], ◌∷◌, ◌++◌, length, map, Option, Some, None, option_map, is_some, slice_get, IfSome, if◌then◌else◌, refl, sym, ap, subst, ◌∙◌, true≢false, arith}
use Rattle.std.proofs.Math.Path.{fun_ext}
use Rattle.std.proofs.lemmas.Option.{slice_get-map, slice_get_within}
use Rattle.arc_spec.specs.Classes.{and_above, ancestry, ancestry_within, first_that_has}
use Rattle.arc_class.specs.declared.owners.Map.{Map}
use Rattle.arc_class.specs.declared.owners.Maps.{Maps}
use Rattle.arc_class.specs.declared.owners.Owners.{Owners}
use Rattle.arc_class.specs.Classes.{number_among}
use Rattle.arc_class.specs.NumberMaps.{at_number, IsWithin}
use Rattle.arc_class.specs.Owners.{names_in, at_number_of, in_map, IsMap, Keeps, Adds, view_of, views, IsOwners, joined, view_at, has_at, with_own, own_of, owner_by, Finds}
use Rattle.arc_class.proofs.NumberMapUpdates.{none_within, at_none}
use Rattle.arc_class.proofs.FirstDeclaration.{or_none}
use Rattle.std.specs.Option.{option_or}

-- ---- maps with no parts

nothing_at : (maps : Maps) (o : Option ℕ) → at_number_of maps None o ≡ None
nothing_at maps None = refl
nothing_at maps (Some number) = at_none maps.levels maps.nodes.items number

pub empty_is_map : (maps : Maps) (map : Map) → map.first ≡ None → IsMap maps map
empty_is_map maps map e = record {
  within = let P : Option ℕ → Type 0 = λ first. IsWithin maps.levels maps.nodes.items first in subst P (sym e) (none_within maps.levels maps.nodes.items);
  unnamed = λ number le lt. ap (λ first. at_number maps.levels maps.nodes.items first number) e ∙ at_none maps.levels maps.nodes.items number;
}

pub empty_view : (maps : Maps) (otherwise : Option ℕ) → in_map maps (record { first = None; otherwise = otherwise }) ≡ (λ name. otherwise)
empty_view maps otherwise = fun_ext (λ name. ap (λ o. option_or o otherwise) (nothing_at maps (number_among (names_in maps) name)))

-- ---- one class more

-- what a list with one more has: what it had, or the new one at its end
pushed_get : {X : Type 0} (xs : List X) (y z : X) (i : ℕ) → slice_get (xs ++ y ∷ []) i ≡ Some z → (slice_get xs i ≡ Some z) ⊎ ((i ≡ length xs) × (y ≡ z))
pushed_get [] y z zero e = inr (refl, cc)
pushed_get [] y z (suc i) e = cc
pushed_get (x ∷ xs) y z zero e = inl e
pushed_get (x ∷ xs) y z (suc i) e = elim (pushed_get xs y z i e) [ inl h ↦ inl h | inr h ↦ inr (ap (λ n. suc n) h.0, h.1) ]

-- where maps are kept, all classes have what they had
kept_views : (old new : Maps) (classes : List (Option Map)) → Keeps old new → ((class : ℕ) (m : Map) → slice_get classes class ≡ Some (Some m) → IsMap old m) → map (view_of new) classes ≡ map (view_of old) classes
kept_views old new [] k h = refl
kept_views old new (None ∷ classes) k h = ap (λ vs. None ∷ vs) (kept_views old new classes k (λ class m e. h (suc class) m e))
kept_views old new (Some m ∷ classes) k h =
    ap (λ v. Some v ∷ map (view_of new) classes) (fun_ext (λ name. k.same m (h 0 m refl) name))
    ∙ ap (λ vs. Some (in_map old m) ∷ vs) (kept_views old new classes k (λ class m e. h (suc class) m e))

map_push : {X Y : Type 0} (f : X → Y) (xs : List X) (x : X) → map f (xs ++ x ∷ []) ≡ map f xs ++ f x ∷ []
map_push f [] x = refl
map_push f (y ∷ ys) x = ap (λ zs. f y ∷ zs) (map_push f ys x)

-- the views of classes, where a map that has been made is pushed
pub pushed_views : (old new : Owners) (made : Option Map) → Keeps old.maps new.maps → IsOwners old → new.classes.items ≡ old.classes.items ++ made ∷ []
    → views new ≡ views old ++ view_of new.maps made ∷ []
pushed_views old new made k h e =
    ap (map (view_of new.maps)) e ∙ map_push (view_of new.maps) old.classes.items made
    ∙ ap (λ vs. vs ++ view_of new.maps made ∷ []) (kept_views old.maps new.maps old.classes.items k h.maps)

pub pushed_owners : (old new : Owners) (made : Option Map) → Keeps old.maps new.maps → IsOwners old → new.classes.items ≡ old.classes.items ++ made ∷ []
    → IfSome made (λ m. IsMap new.maps m) → IsOwners new
pushed_owners old new made k h e is = record {
  maps = λ class m at. go class m (pushed_get old.classes.items made (Some m) class (ap (λ cs. slice_get cs class) (sym e) ∙ at));
}
  where
    go : (class : ℕ) (m : Map) → (slice_get old.classes.items class ≡ Some (Some m)) ⊎ ((class ≡ length old.classes.items) × (made ≡ Some m)) → IsMap new.maps m
    go class m (inl a) = k.is_map m (h.maps class m a)
    go class m (inr a) = let P : Option Map → Type 0 = λ o. IfSome o (λ m. IsMap new.maps m) in subst P a.1 is

pub no_change : (maps : Maps) → Keeps maps maps
no_change maps = record { is_map = λ m h. h; same = λ m h name. refl }

-- a map to which names were added is seen as a class with these names of its own
pub own_view : (old new : Maps) (m made : Map) (passes : List ℕ → Bool) (class : ℕ) (view : Option (List ℕ → Option ℕ)) → Adds old new m made passes class → view_of old (Some m) ≡ view
    → view_of new (Some made) ≡ with_own passes class view
own_view old new m made passes class view a e = ap Some (fun_ext a.found) ∙ ap (with_own passes class) e

-- ---- from a class up

-- `Finds`, for any number of classes that are looked at, if it is more than the class's own number
abbrev pub Follows : {X : Type 0} → (superclasses : List (Option ℕ)) → (own : ℕ → List ℕ → Option X) → List (Option (List ℕ → Option ℕ)) → Type 0
Follows superclasses own all = (class : ℕ) (view : List ℕ → Option ℕ) → slice_get all class ≡ Some (Some view) → (n : ℕ) → class < n → (name : List ℕ)
    → first_that_has (λ c. own c name) (ancestry_within n superclasses (Some class)) ≡ own_of (λ c. own c name) (view name)

module _ {X : Type 0} (superclasses : List (Option ℕ)) (own : ℕ → List ℕ → Option X) (all : List (Option (List ℕ → Option ℕ))) where
  pub finds_all : length all ≤ length superclasses → Follows superclasses own all → Finds superclasses own all
  finds_all few f class view e name =
      let within : class < length all = slice_get_within all class (Some view) e in
      f class view e (length superclasses) (omega arith) name

  -- a class, and what is nearest above it
  class_first : (n class : ℕ) (name : List ℕ) (superclass : Option ℕ) → slice_get superclasses class ≡ Some superclass
      → first_that_has (λ c. own c name) (ancestry_within (suc n) superclasses (Some class)) ≡ option_or (own class name) (first_that_has (λ c. own c name) (ancestry_within n superclasses superclass))
  class_first n class name superclass e = ap (λ s. first_that_has (λ c. own c name) (and_above class s (λ above. ancestry_within n superclasses above))) e

  -- with nothing above it, a class has only its own
  no_more : (n class : ℕ) (name : List ℕ) → slice_get superclasses class ≡ Some None → first_that_has (λ c. own c name) (ancestry_within (suc n) superclasses (Some class)) ≡ own class name
  no_more n class name e =
      class_first n class name None e ∙ or_none (own class name)

  -- the root has all names
  pub follows_root : all ≡ [] → slice_get superclasses 0 ≡ Some None → Follows superclasses own (all ++ Some (λ name. Some 0) ∷ [])
  follows_root e top class view at n lt name = go (pushed_get all (Some (λ name. Some 0)) (Some view) class at)
    where
      go : (slice_get all class ≡ Some (Some view)) ⊎ ((class ≡ length all) × (Some (λ (name : List ℕ). Some 0) ≡ Some view))
          → first_that_has (λ c. own c name) (ancestry_within n superclasses (Some class)) ≡ own_of (λ c. own c name) (view name)
      go (inl h) =
          let none : None ≡ Some (Some view) = ap (λ vs. slice_get vs class) (sym e) ∙ h in
          cc
      go (inr h) =
          let first : class ≡ 0 = h.0 ∙ ap length e in
          let same : Some 0 ≡ view name = ap (λ o. has_at o name) h.1 in
          let fuel : n ≡ suc (n - 1) = omega (arith, lt) in
          ap (λ m. first_that_has (λ c. own c name) (ancestry_within m superclasses (Some class))) fuel
          ∙ ap (λ c. first_that_has (λ c. own c name) (ancestry_within (suc (n - 1)) superclasses (Some c))) first ∙ no_more (n - 1) 0 name top ∙ ap (own_of (λ c. own c name)) same

  -- a class whose superclass stands before it
  module _ (passes : List ℕ → Bool) (has : (name : List ℕ) → passes name ≡ is_some (own (length all) name)) (f : Follows superclasses own all) where
    abbrev class : ℕ
    class = length all

    -- a class's own, or what is above it, is what its map names
    chosen : (name : List ℕ) (rest : Option X) (further : Option ℕ) → rest ≡ own_of (λ c. own c name) further
        → option_or (own class name) rest ≡ own_of (λ c. own c name) (if passes name then Some class else further)
    chosen name rest further e = go (own class name) refl
      where
        go : (o : Option X) → own class name ≡ o → option_or o rest ≡ own_of (λ c. own c name) (if passes name then Some class else further)
        go None h = e ∙ sym (ap (λ b. own_of (λ c. own c name) (if b then Some class else further)) (has name ∙ ap is_some h))
        go (Some x) h = sym (ap (λ b. own_of (λ c. own c name) (if b then Some class else further)) (has name ∙ ap is_some h) ∙ h)

    -- the map of the class after all others follows it up
    further_up : (superclass : Option ℕ) → slice_get superclasses class ≡ Some superclass → (view : List ℕ → Option ℕ) → with_own passes class (view_at all superclass) ≡ Some view
        → (n : ℕ) → class ≤ n → (name : List ℕ) → first_that_has (λ c. own c name) (ancestry_within (suc n) superclasses (Some class)) ≡ own_of (λ c. own c name) (view name)
    further_up None up view e n le name =
        let same : (if passes name then Some class else None) ≡ view name = ap (λ o. has_at o name) e in
        no_more n class name up ∙ sym (or_none (own class name)) ∙ chosen name None None refl ∙ ap (own_of (λ c. own c name)) same
    further_up (Some s) up view e n le name = go (slice_get all s) refl e
      where
        go : (o : Option (Option (List ℕ → Option ℕ))) → slice_get all s ≡ o → with_own passes class (joined o) ≡ Some view
            → first_that_has (λ c. own c name) (ancestry_within (suc n) superclasses (Some class)) ≡ own_of (λ c. own c name) (view name)
        go None h e = cc
        go (Some None) h e = cc
        go (Some (Some higher)) h e =
            let within : s < class = slice_get_within all s (Some higher) h in
            let same : (if passes name then Some class else higher name) ≡ view name = ap (λ o. has_at o name) e in
            class_first n class name (Some s) up
            ∙ chosen name (first_that_has (λ c. own c name) (ancestry_within n superclasses (Some s))) (higher name) (f s higher h n (omega arith) name)
            ∙ ap (own_of (λ c. own c name)) same

    pub follows_class : (superclass : Option ℕ) → slice_get superclasses class ≡ Some superclass → Follows superclasses own (all ++ with_own passes class (view_at all superclass) ∷ [])
    follows_class superclass up at view e n lt name = go (pushed_get all (with_own passes class (view_at all superclass)) (Some view) at e)
      where
        go : (slice_get all at ≡ Some (Some view)) ⊎ ((at ≡ length all) × (with_own passes class (view_at all superclass) ≡ Some view))
            → first_that_has (λ c. own c name) (ancestry_within n superclasses (Some at)) ≡ own_of (λ c. own c name) (view name)
        go (inl h) = f at view h n lt name
        go (inr h) =
            let here : class ≤ n - 1 = omega (arith, h.0, lt) in
            let fuel : n ≡ suc (n - 1) = omega (arith, lt) in
            ap (λ m. first_that_has (λ c. own c name) (ancestry_within m superclasses (Some at))) fuel
            ∙ ap (λ c. first_that_has (λ c. own c name) (ancestry_within (suc (n - 1)) superclasses (Some c))) h.0 ∙ further_up superclass up view h.1 (n - 1) here name

-- ---- what is kept of a class

pub known_is_map : (owners : Owners) (number : ℕ) (made : Option Map) → IsOwners owners → slice_get owners.classes.items number ≡ Some made → IfSome made (λ m. IsMap owners.maps m)
known_is_map owners number None h e = tt
known_is_map owners number (Some m) h e = h.maps number m e

pub known_view : (owners : Owners) (number : ℕ) (made : Option Map) → slice_get owners.classes.items number ≡ Some made → view_of owners.maps made ≡ view_at (views owners) (Some number)
known_view owners number made e = ap joined (sym (slice_get-map (view_of owners.maps) owners.classes.items number ∙ ap (option_map (view_of owners.maps)) e))

pub no_view : (owners : Owners) (number : ℕ) → slice_get owners.classes.items number ≡ None → None ≡ view_at (views owners) (Some number)
no_view owners number e = ap joined (sym (slice_get-map (view_of owners.maps) owners.classes.items number ∙ ap (option_map (view_of owners.maps)) e))

-- ---- what is nearest, by the class that has it

owned_again : {X : Type 0} (own : ℕ → Option X) (o : Option ℕ) → own_of own (own_of (λ c. option_map (λ found. c) (own c)) o) ≡ own_of own o
owned_again own None = refl
owned_again {X} own (Some c) = go (own c) refl
  where
    go : (x : Option X) → own c ≡ x → own_of own (option_map (λ found. c) x) ≡ own c
    go None e = sym e
    go (Some a) e = refl

first_owner : {X : Type 0} (own : ℕ → Option X) (classes : List ℕ) → first_that_has own classes ≡ own_of own (first_that_has (λ c. option_map (λ found. c) (own c)) classes)
first_owner own [] = refl
first_owner {X} own (c ∷ others) = go (own c) refl (first_owner own others)
  where
    go : (x : Option X) → own c ≡ x → first_that_has own others ≡ own_of own (first_that_has (λ c. option_map (λ found. c) (own c)) others)
        → option_or x (first_that_has own others) ≡ own_of own (option_or (option_map (λ found. c) x) (first_that_has (λ c. option_map (λ found. c) (own c)) others))
    go None e h = h
    go (Some a) e h = sym e

reported_nearest : {X : Type 0} (superclasses : List (Option ℕ)) (own : ℕ → List ℕ → Option X) (all : List (Option (List ℕ → Option ℕ))) → Finds superclasses (owner_by own) all
    → (number : ℕ) (view : List ℕ → Option ℕ) → slice_get all number ≡ Some (Some view) → (name : List ℕ)
    → first_that_has (λ c. own c name) (ancestry superclasses (Some number)) ≡ own_of (λ c. own c name) (view name)
reported_nearest superclasses own all t number view e name =
    first_owner (λ c. own c name) (ancestry superclasses (Some number)) ∙ ap (own_of (λ c. own c name)) (t number view e name) ∙ owned_again (λ c. own c name) (view name)

pub reported_at : {X : Type 0} (superclasses : List (Option ℕ)) (own : ℕ → List ℕ → Option X) (all : List (Option (List ℕ → Option ℕ))) → Finds superclasses (owner_by own) all
    → (number : ℕ) → is_some (view_at all (Some number)) ≡ true → (name : List ℕ) (found : Option ℕ) → found ≡ has_at (view_at all (Some number)) name
    → own_of (λ c. own c name) found ≡ first_that_has (λ c. own c name) (ancestry superclasses (Some number))
reported_at {X} superclasses own all t number known name found is = ap (own_of (λ c. own c name)) is ∙ go (slice_get all number) refl known
  where
    go : (o : Option (Option (List ℕ → Option ℕ))) → slice_get all number ≡ o → is_some (joined o) ≡ true
        → own_of (λ c. own c name) (has_at (joined o) name) ≡ first_that_has (λ c. own c name) (ancestry superclasses (Some number))
    go None e h = absurd (true≢false (sym h))
    go (Some None) e h = absurd (true≢false (sym h))
    go (Some (Some view)) e h = sym (reported_nearest superclasses own all t number view e name)
