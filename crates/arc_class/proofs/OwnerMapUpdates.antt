-- Maps from names: a name more, and the names of a map in turn.
use Rattle.std.proofs.Common.{◌≡◌, ℕ, suc, ◌<◌, ◌≤◌, ◌^◌, Bool, true, false, ◌||◌, cond, List, [], ◌∷◌, ◌++◌, length, map, Option, Some, None, option_map, is_some, slice_get, nat_eq, if◌then◌else◌, refl, sym, ap, subst, ◌∙◌, true≢false, arith}
use Rattle.std.specs.Borrow.{Bor}
use Rattle.std.specs.Cmp.Lexicographic.{slice_cmp}
use Rattle.std.specs.Map.{keys_of}
use Rattle.std.specs.Ordering.{nat_cmp, is_eq}
use Rattle.std.specs.Str.{bytes_eq}
use Rattle.std.proofs.lemmas.Bool.Decides.{Decides-eqb}
use Rattle.std.proofs.lemmas.Bool.{false_from_ne_true}
use Rattle.std.proofs.lemmas.List.{length-append}
use Rattle.std.proofs.lemmas.Map.Text.{is_eq-slice_cmp}
use Rattle.std.proofs.lemmas.Option.{slice_get_within}
use Rattle.std.proofs.lemmas.Slice.Eq.{bytes_eq-Decides}
use Rattle.arc_class.specs.declared.owners.Map.{Map}
use Rattle.arc_class.specs.declared.owners.Maps.{Maps}
use Rattle.arc_class.specs.declared.numbered.Node.{Node}
use Rattle.arc_class.specs.Classes.{among, and_name, number_among}
use Rattle.arc_class.specs.NameMaps.{Named, at_name}
use Rattle.arc_class.specs.NumberMaps.{at_number, IsWithin, Puts}
use Rattle.arc_class.specs.Owners.{names_in, at_number_of, in_map, IsMap, Keeps, Adds}
use Rattle.arc_class.proofs.NumberMapUpdates.{IsWithin-append, at_number-append}
use Rattle.arc_class.proofs.NameEquality.{self_eq, apart}
use Rattle.arc_class.proofs.NameMapParts.{or_append}
use Rattle.std.specs.Option.{option_or}

-- ---- names and their numbers

one_further : (o : Option ℕ) (k : ℕ) → option_map (λ n. suc n) o ≡ Some k → (j : ℕ) × (o ≡ Some j) × (suc j ≡ k)
one_further None k e = cc
one_further (Some j) k e = (j, refl, cc)

pub number_there : (names : List (List ℕ)) (name : List ℕ) (k : ℕ) → number_among names name ≡ Some k → slice_get names k ≡ Some name
number_there [] name k e = cc
number_there (a ∷ others) name k e = go (bytes_eq a name) refl e (number_there others name)
  where
    go : (b : Bool) → bytes_eq a name ≡ b → (if b then Some 0 else option_map (λ n. suc n) (number_among others name)) ≡ Some k
        → ((j : ℕ) → number_among others name ≡ Some j → slice_get others j ≡ Some name) → slice_get (a ∷ others) k ≡ Some name
    go true h e below =
        let z : 0 ≡ k = cc in
        ap (λ n. slice_get (a ∷ others) n) (sym z) ∙ ap Some ((bytes_eq-Decides a name).0 h)
    go false h e below =
        let p = one_further (number_among others name) k e in
        ap (λ n. slice_get (a ∷ others) n) (sym p.2) ∙ below p.0 p.1

pub number_within : (names : List (List ℕ)) (name : List ℕ) (k : ℕ) → number_among names name ≡ Some k → k < length names
number_within names name k e = slice_get_within names k name (number_there names name k e)

pub one_name : (names : List (List ℕ)) (a b : List ℕ) (k : ℕ) → number_among names a ≡ Some k → number_among names b ≡ Some k → a ≡ b
one_name names a b k e f =
    let x : slice_get names k ≡ Some a = number_there names a k e in
    let y : slice_get names k ≡ Some b = number_there names b k f in
    cc

push_other : (names : List (List ℕ)) (name sought : List ℕ) → bytes_eq name sought ≡ false → number_among (names ++ name ∷ []) sought ≡ number_among names sought
push_other [] name sought ne = ap (λ b. if b then Some 0 else None) ne
push_other (a ∷ others) name sought ne = ap (λ o. if bytes_eq a sought then Some 0 else option_map (λ n. suc n) o) (push_other others name sought ne)

not_first : (a b : Bool) → (a || b) ≡ false → (a ≡ false) × (b ≡ false)
not_first true b e = absurd (true≢false e)
not_first false b e = (refl, e)

push_same : (names : List (List ℕ)) (name : List ℕ) → among names name ≡ false → number_among (names ++ name ∷ []) name ≡ Some (length names)
push_same [] name none = ap (λ b. if b then Some 0 else None) (self_eq name)
push_same (a ∷ others) name none =
    let p = not_first (bytes_eq a name) (among others name) none in
    ap (λ b. if b then Some 0 else option_map (λ n. suc n) (number_among (others ++ name ∷ []) name)) p.0 ∙ ap (option_map (λ n. suc n)) (push_same others name p.1)

none_among : (names : List (List ℕ)) (name : List ℕ) → among names name ≡ false → number_among names name ≡ None
none_among [] name none = refl
none_among (a ∷ others) name none =
    let p = not_first (bytes_eq a name) (among others name) none in
    ap (λ b. if b then Some 0 else option_map (λ n. suc n) (number_among others name)) p.0 ∙ ap (option_map (λ n. suc n)) (none_among others name p.1)

other_number : (names : List (List ℕ)) (name sought : List ℕ) → bytes_eq sought name ≡ false → number_among (and_name names name) sought ≡ number_among names sought
other_number names name sought ne = go (among names name)
  where
    go : (b : Bool) → number_among (if b then names else names ++ name ∷ []) sought ≡ number_among names sought
    go true = refl
    go false = push_other names name sought (apart sought name ne)

longer : (names : List (List ℕ)) (name : List ℕ) → length names ≤ length (and_name names name)
longer names name = go (among names name)
  where
    go : (b : Bool) → length names ≤ length (if b then names else names ++ name ∷ [])
    go true = omega arith
    go false = omega (arith, length-append names (name ∷ []))

-- ---- one name more

module _ (old grown : Maps) (map : Map) (name : List ℕ) (number class at : ℕ)
    (n : names_in grown ≡ and_name (names_in old) name) (k : number_among (names_in grown) name ≡ Some number) (fits : length (names_in grown) ≤ 2 ^ old.levels)
    (p : Puts old.levels old.nodes.items grown.nodes.items map.first number class at) (m : IsMap old map) where
  abbrev new : Maps
  new = record grown { levels = old.levels }

  grows : length (names_in old) ≤ length (names_in new)
  grows = let e : length (names_in new) ≡ length (and_name (names_in old) name) = ap length n in omega (arith, longer (names_in old) name)

  same_at : (other : Map) → IsMap old other → (sought : ℕ) → at_number old.levels new.nodes.items other.first sought ≡ at_number old.levels old.nodes.items other.first sought
  same_at other h sought = ap (λ ns. at_number old.levels ns other.first sought) p.extends.is ∙ at_number-append old.levels old.nodes.items p.extends.more other.first sought h.within

  same_of : (other : Map) → IsMap old other → (o : Option ℕ) → at_number_of new other.first o ≡ at_number_of old other.first o
  same_of other h None = refl
  same_of other h (Some sought) = same_at other h sought

  kept_new : (other : Map) → IsMap old other → (b : Bool) → among (names_in old) name ≡ b → at_number_of new other.first (number_among (names_in new) name) ≡ at_number_of old other.first (number_among (names_in old) name)
  kept_new other h true e =
      let same : names_in new ≡ names_in old = n ∙ ap (λ b. if b then names_in old else names_in old ++ name ∷ []) e in
      ap (λ ns. at_number_of new other.first (number_among ns name)) same ∙ same_of other h (number_among (names_in old) name)
  kept_new other h false e =
      let pushed : names_in new ≡ names_in old ++ name ∷ [] = n ∙ ap (λ b. if b then names_in old else names_in old ++ name ∷ []) e in
      let more : length (names_in new) ≡ length (names_in old ++ name ∷ []) = ap length pushed in
      let lt : length (names_in old) < 2 ^ old.levels = omega (arith, length-append (names_in old) (name ∷ [])) in
      ap (λ ns. at_number_of new other.first (number_among ns name)) pushed ∙ ap (at_number_of new other.first) (push_same (names_in old) name e)
      ∙ same_at other h (length (names_in old)) ∙ h.unnamed (length (names_in old)) (omega arith) lt
      ∙ sym (ap (at_number_of old other.first) (none_among (names_in old) name e))

  kept_at : (other : Map) → IsMap old other → (sought : List ℕ) → at_number_of new other.first (number_among (names_in new) sought) ≡ at_number_of old other.first (number_among (names_in old) sought)
  kept_at other h sought = go (bytes_eq sought name) refl
    where
      go : (b : Bool) → bytes_eq sought name ≡ b → at_number_of new other.first (number_among (names_in new) sought) ≡ at_number_of old other.first (number_among (names_in old) sought)
      go true e =
          let same : name ≡ sought = sym ((bytes_eq-Decides sought name).0 e) in
          let P : List ℕ → Type 0 = λ s. at_number_of new other.first (number_among (names_in new) s) ≡ at_number_of old other.first (number_among (names_in old) s) in
          subst P same (kept_new other h (among (names_in old) name) refl)
      go false e =
          ap (at_number_of new other.first) (ap (λ ns. number_among ns sought) n ∙ other_number (names_in old) name sought e) ∙ same_of other h (number_among (names_in old) sought)

  all_kept : Keeps old new
  all_kept = record {
    is_map = λ other h. record {
      within = let P : List Node → Type 0 = λ ns. IsWithin old.levels ns other.first in subst P (sym p.extends.is) (IsWithin-append old.levels old.nodes.items p.extends.more other.first h.within);
      unnamed = λ sought le lt. same_at other h sought ∙ h.unnamed sought (omega (arith, grows)) lt;
    };
    same = λ other h sought. ap (λ o. option_or o other.otherwise) (kept_at other h sought);
  }

  abbrev made : Map
  made = record { first = Some at; otherwise = map.otherwise }

  numbered_within : number < length (names_in new)
  numbered_within = number_within (names_in new) name number k

  made_at : (sought : ℕ) → sought < 2 ^ old.levels → (sought ≡ number → ⊥) → at_number old.levels new.nodes.items (Some at) sought ≡ at_number old.levels old.nodes.items map.first sought
  made_at sought lt ne =
      p.found sought lt ∙ ap (λ b. if b then Some class else at_number old.levels old.nodes.items map.first sought) (false_from_ne_true (nat_eq sought number) (λ t. ne ((Decides-eqb sought number).0 t)))

  made_is_map : IsMap new made
  made_is_map = record {
    within = p.within;
    unnamed = λ sought le lt.
        let ne : sought ≡ number → ⊥ = λ e. absurd (omega (arith, numbered_within)) in
        made_at sought lt ne ∙ m.unnamed sought (omega (arith, grows)) lt;
  }

  found_of : (sought : List ℕ) → bytes_eq sought name ≡ false → (o : Option ℕ) → number_among (names_in old) sought ≡ o → at_number_of new (Some at) o ≡ at_number_of old map.first o
  found_of sought ne None e = refl
  found_of sought ne (Some j) e =
      let within : j < length (names_in old) = number_within (names_in old) sought j e in
      let in_new : number_among (names_in new) sought ≡ Some j = ap (λ ns. number_among ns sought) n ∙ other_number (names_in old) name sought ne ∙ e in
      let differ : j ≡ number → ⊥ = λ same.
      let one : sought ≡ name = one_name (names_in new) sought name number (in_new ∙ ap Some same) k in
      true≢false (sym ((bytes_eq-Decides sought name).1 one) ∙ ne) in
      made_at j (omega (arith, grows)) differ

  found_at : (sought : List ℕ) → in_map new made sought ≡ (if bytes_eq sought name then Some class else in_map old map sought)
  found_at sought = go (bytes_eq sought name) refl
    where
      go : (b : Bool) → bytes_eq sought name ≡ b → in_map new made sought ≡ (if b then Some class else in_map old map sought)
      go true e =
          let same : sought ≡ name = (bytes_eq-Decides sought name).0 e in
          let there : number_among (names_in new) sought ≡ Some number = ap (number_among (names_in new)) same ∙ k in
          let lt : number < 2 ^ old.levels = omega (arith, numbered_within) in
          ap (λ o. option_or (at_number_of new (Some at) o) map.otherwise) there
          ∙ ap (λ o. option_or o map.otherwise) (p.found number lt ∙ ap (λ b. if b then Some class else at_number old.levels old.nodes.items map.first number) ((Decides-eqb number number).1 refl))
      go false e =
          let there : number_among (names_in new) sought ≡ number_among (names_in old) sought = ap (λ ns. number_among ns sought) n ∙ other_number (names_in old) name sought e in
          ap (λ o. option_or (at_number_of new (Some at) o) map.otherwise) there
          ∙ ap (λ o. option_or o map.otherwise) (found_of sought e (number_among (names_in old) sought) refl)

  pub adds_name : Adds old new map made (λ sought. bytes_eq sought name) class
  adds_name = record { keeps = all_kept; is_map = made_is_map; found = found_at }

-- ---- names in turn

abbrev pub any_key : List (Bor (List ℕ)) → List ℕ → Bool
any_key [] sought = false
any_key (key ∷ others) sought = bytes_eq sought key.now || any_key others sought

-- names of which these are left are put into a map
pub record Adding (old new : Maps) (map made : Map) (all left : List ℕ → Bool) (class : ℕ) : Type 0 where
  pub keeps : Keeps old new
  pub is_map : IsMap new made
  pub found : (sought : List ℕ) → (if all sought then Some class else in_map old map sought) ≡ (if left sought then Some class else in_map new made sought)

pub adding_none : (old : Maps) (map : Map) (all left : List ℕ → Bool) (class : ℕ) → IsMap old map → ((sought : List ℕ) → left sought ≡ all sought) → Adding old old map map all left class
adding_none old map all left class m e = record {
  keeps = record { is_map = λ other h. h; same = λ other h name. refl };
  is_map = m;
  found = λ sought. ap (λ b. if b then Some class else in_map old map sought) (sym (e sought));
}

keeps_both : (a b c : Maps) → Keeps a b → Keeps b c → Keeps a c
keeps_both a b c f g = record {
  is_map = λ map h. g.is_map map (f.is_map map h);
  same = λ map h name. g.same map (f.is_map map h) name ∙ f.same map h name;
}

one_left : {X : Type 0} (here further : Bool) (value was now : X) → now ≡ (if here then value else was) → (if here || further then value else was) ≡ (if further then value else now)
one_left true true value was now e = refl
one_left true false value was now e = sym e
one_left false true value was now e = refl
one_left false false value was now e = sym e

pub adding_turn : (old new next : Maps) (map made further : Map) (all left left' passes : List ℕ → Bool) (class : ℕ) → ((sought : List ℕ) → left sought ≡ (passes sought || left' sought))
    → Adding old new map made all left class → Adds new next made further passes class → Adding old next map further all left' class
adding_turn old new next map made further all left left' passes class e f g = record {
  keeps = keeps_both old new next f.keeps g.keeps;
  is_map = g.is_map;
  found = λ sought.
      f.found sought ∙ ap (λ b. if b then Some class else in_map new made sought) (e sought)
      ∙ one_left (passes sought) (left' sought) (Some class) (in_map new made sought) (in_map next further sought) (g.found sought);
}

pub adding_all : (old new : Maps) (map made : Map) (all left passes : List ℕ → Bool) (class : ℕ) → ((sought : List ℕ) → left sought ≡ false) → ((sought : List ℕ) → all sought ≡ passes sought)
    → Adding old new map made all left class → Adds old new map made passes class
adding_all old new map made all left passes class e same f = record {
  keeps = f.keeps;
  is_map = f.is_map;
  found = λ sought.
      sym (ap (λ b. if b then Some class else in_map old map sought) (sym (same sought)) ∙ f.found sought ∙ ap (λ b. if b then Some class else in_map new made sought) (e sought));
}

pub any_named : {V : Type 0} (names : Named V) (sought : List ℕ) → any_key (keys_of names) sought ≡ is_some (at_name names sought)
any_named [] sought = refl
any_named (e ∷ names) sought = go (bytes_eq sought (e.0).now) (is_eq (slice_cmp nat_cmp sought (e.0).now)) (is_eq-slice_cmp sought (e.0).now) (any_named names sought)
  where
    go : (a b : Bool) → b ≡ a → any_key (keys_of names) sought ≡ is_some (at_name names sought) → (a || any_key (keys_of names) sought) ≡ is_some (cond b (Some e.1) (at_name names sought))
    go true true same h = refl
    go false false same h = h
    go true false same h = cc
    go false true same h = cc

-- a part before others
pub more_named : {V : Type 0} (part others : Named V) (sought : List ℕ) → is_some (at_name (part ++ others) sought) ≡ (is_some (at_name part sought) || is_some (at_name others sought))
more_named part others sought = ap is_some (or_append part others sought) ∙ either (at_name part sought) (at_name others sought)
  where
    either : {V : Type 0} (a b : Option V) → is_some (option_or a b) ≡ (is_some a || is_some b)
    either (Some x) b = refl
    either None b = refl
