-- Of the declarations of a name the first one is kept.
use Rattle.std.proofs.Common.{◌≡◌, ℕ, Bool, true, false, List, [], ◌∷◌, ◌++◌, Option, Some, None, is_some, option_map, if◌then◌else◌, refl, sym, ap, ◌∙◌, true≢false}
use Rattle.std.specs.Str.{bytes_eq}
use Rattle.arc_ast.specs.declared.tree.Sign.{Sign}
use Rattle.arc_ast.specs.Tree.{HeadTree}
use Rattle.arc_class.specs.Classes.{is_method, first_head}
use Rattle.arc_class.specs.KeptNames.{one_at}
use Rattle.std.specs.Option.{option_or}

pub or_none : {X : Type 0} (a : Option X) → option_or a None ≡ a
or_none None = refl
or_none (Some a) = refl

or_assoc : {X : Type 0} (a b c : Option X) → option_or (option_or a b) c ≡ option_or a (option_or b c)
or_assoc None b c = refl
or_assoc (Some a) b c = refl

-- the own one comes first, and with none the next is asked
pub own_first : {X : Type 0} (own : Option X) (x : X) (all above : Option X) → own ≡ Some x → all ≡ option_or own above → Some x ≡ all
own_first own x all above same is = sym (is ∙ ap (λ o. option_or o above) same)

pub above_next : {X : Type 0} (own : Option X) (all above : Option X) → own ≡ None → all ≡ option_or own above → all ≡ above
above_next own all above missing is = is ∙ ap (λ o. option_or o above) missing

-- one more is kept
pub kept_turn : {X : Type 0} (old one new rest whole : Option X) → new ≡ option_or old one → whole ≡ option_or old (option_or one rest) → whole ≡ option_or new rest
kept_turn old one new rest whole n w = w ∙ sym (or_assoc old one rest) ∙ ap (λ o. option_or o rest) (sym n)

pub or_one : {X : Type 0} (name : List ℕ) (value : X) (rest : Option X) (sought : List ℕ) → (if bytes_eq sought name then Some value else rest) ≡ option_or (one_at name value sought) rest
or_one name value rest sought = go (bytes_eq sought name)
  where
    go : (b : Bool) → (if b then Some value else rest) ≡ option_or (if b then Some value else None) rest
    go true = refl
    go false = refl

-- what is kept, as a tree
pub map_or : {X Y : Type 0} (f : X → Y) (a b : Option X) → option_map f (option_or a b) ≡ option_or (option_map f a) (option_map f b)
map_or f None b = refl
map_or f (Some a) b = refl

pub map_one : {X Y : Type 0} (f : X → Y) (name : List ℕ) (value : X) (sought : List ℕ) → option_map f (one_at name value sought) ≡ one_at name (f value) sought
map_one f name value sought = go (bytes_eq sought name)
  where
    go : (b : Bool) → option_map f (if b then Some value else None) ≡ (if b then Some (f value) else None)
    go true = refl
    go false = refl

pub kept_map : {X Y : Type 0} (f : X → Y) (old new : Option X) (name : List ℕ) (value : X) (sought : List ℕ) → new ≡ option_or old (one_at name value sought)
    → option_map f new ≡ option_or (option_map f old) (one_at name (f value) sought)
kept_map f old new name value sought e = ap (option_map f) e ∙ map_or f old (one_at name value sought) ∙ ap (option_or (option_map f old)) (map_one f name value sought)

pub none_is : {X : Type 0} (o : Option X) → is_some o ≡ false → o ≡ None
none_is None e = refl
none_is (Some a) e = absurd (true≢false e)

pub first_head-append : (sign : Sign) (selector : List ℕ) (xs ys : List HeadTree) → first_head sign selector (xs ++ ys) ≡ option_or (first_head sign selector xs) (first_head sign selector ys)
first_head-append sign selector [] ys = refl
first_head-append sign selector (x ∷ xs) ys = go (is_method sign selector x) (first_head-append sign selector xs ys)
  where
    go : (b : Bool) → first_head sign selector (xs ++ ys) ≡ option_or (first_head sign selector xs) (first_head sign selector ys)
        → (if b then Some x else first_head sign selector (xs ++ ys)) ≡ option_or (if b then Some x else first_head sign selector xs) (first_head sign selector ys)
    go true h = refl
    go false h = h

-- where nothing is kept at first, and then the first of one list and the first of another
pub both_kept : (sign : Sign) (selector : List ℕ) (xs ys : List HeadTree) (before one both : Option HeadTree) → before ≡ None → one ≡ option_or before (first_head sign selector xs) → both ≡ option_or one (first_head sign selector ys)
    → both ≡ first_head sign selector (xs ++ ys)
both_kept sign selector xs ys before one both n o b =
    b ∙ ap (λ kept. option_or kept (first_head sign selector ys)) (o ∙ ap (λ kept. option_or kept (first_head sign selector xs)) n) ∙ sym (first_head-append sign selector xs ys)
