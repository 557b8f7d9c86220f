-- What is read off a form without any tokens, and the test that each rule of a grammar must pass.
use Rattle.std.proofs.Common.{◌≡◌, Bool, true, false, not, ◌&&◌, ◌||◌, arith}
use Rattle.arc_form.specs.Kinds.{Kinds, none, ◌∪◌, is}
use Rattle.arc_form.specs.Form.{Form, Bodies, token, give, call, map, ◌⨾◌, into, choose, many, or_none, nest, bounded, two_ahead, avoid}
use Rattle.arc_form.proofs.Sets.{among, apart, both}
use Rattle.arc_form.proofs.Samples.{sample}

-- Tests of which each must pass, or must fail.
infixr 12 ◌and◌
pub data Test : Type 0 where
  yes : Bool → Test
  no : Bool → Test
  ◌and◌ : Test → Test → Test

abbrev pub passes : Test → Bool
passes (yes b) = b
passes (no b) = not b
passes (s and t) = passes s && passes t

-- what a test says
abbrev pub Holds : Test → Type 0
Holds (yes b) = b ≡ true
Holds (no b) = b ≡ false
Holds (s and t) = Holds s × Holds t

pub holds : (t : Test) → passes t ≡ true → Holds t
holds (yes b) e = e
holds (no b) e = grind arith
holds (s and t) e = let p = both (passes s) (passes t) e in (holds s p.0, holds t p.1)

-- Of a rule: with which kinds it begins, which kinds would go on with it where it could end, and which may not come after it.
pub record Facts : Type 0 where
  pub begins : Kinds
  pub goes_on : Kinds
  pub bars : Kinds

abbrev pub if_so : Bool → Kinds → Kinds
if_so true T = T
if_so false T = none

module _ {N : Type 0} {Node : N → Type 0} (facts : N → Facts) where
  -- whether it may be no token at all; a rule never is
  abbrev pub nullable : {A : Type 0} → Form N Node A → Bool
  nullable (give a) = true
  nullable (map h f) = nullable f
  nullable (f ⨾ g) = nullable f && nullable g
  nullable (choose T f g) = nullable g
  nullable (many T f) = true
  nullable (or_none T f a) = true
  nullable _ = false

  abbrev pub begins : {A : Type 0} → Form N Node A → Kinds
  begins (token T g) = T
  begins (give a) = none
  begins (call n) = (facts n).begins
  begins (map h f) = begins f
  begins (f ⨾ g) = begins f ∪ if_so (nullable f) (begins g)
  begins (into d f g) = begins f
  begins (choose T f g) = begins f ∪ begins g
  begins (many T f) = begins f
  begins (or_none T f a) = begins f
  begins (nest d T f) = begins f
  begins (bounded f) = begins f
  begins (two_ahead T U f g) = begins g
  begins (avoid T U f) = begins f

  abbrev pub goes_on : {A : Type 0} → Form N Node A → Kinds
  goes_on (call n) = (facts n).goes_on
  goes_on (map h f) = goes_on f
  goes_on (f ⨾ g) = goes_on g ∪ if_so (nullable g) (goes_on f)
  goes_on (into d f g) = goes_on g
  goes_on (choose T f g) = (goes_on f ∪ goes_on g) ∪ if_so (nullable g) T
  goes_on (many T f) = T ∪ goes_on f
  goes_on (or_none T f a) = goes_on f
  goes_on (nest d T f) = goes_on f
  goes_on (bounded f) = goes_on f
  goes_on (two_ahead T U f g) = goes_on f ∪ goes_on g
  goes_on (avoid T U f) = goes_on f
  goes_on _ = none

  -- whether it is two tokens at least
  abbrev pub long : {A : Type 0} → Form N Node A → Bool
  long (map h f) = long f
  long (nest d T f) = long f
  long (f ⨾ g) = not (nullable f) && not (nullable g)
  long _ = false

  abbrev pub bars : {A : Type 0} → Form N Node A → Kinds
  bars (call n) = (facts n).bars
  bars (map h f) = bars f
  bars (f ⨾ g) = bars g ∪ if_so (nullable g) (bars f)
  bars (into d f g) = bars g
  bars (choose T f g) = bars f ∪ bars g
  bars (many T f) = bars f
  bars (or_none T f a) = T ∪ bars f
  bars (nest d T f) = bars f
  bars (bounded f) = bars f
  bars (two_ahead T U f g) = if_so (not (long g)) U ∪ (bars f ∪ bars g)
  bars (avoid T U f) = bars f
  bars _ = none

  -- whether a token is taken before any rule is read
  abbrev pub guarded : {A : Type 0} → Form N Node A → Bool
  guarded (call n) = false
  guarded (map h f) = guarded f
  guarded (f ⨾ g) = guarded f && (not (nullable f) || guarded g)
  guarded (into d f g) = guarded f
  guarded (choose T f g) = guarded f && guarded g
  guarded (many T f) = guarded f
  guarded (or_none T f a) = guarded f
  guarded (nest d T f) = guarded f
  guarded (bounded f) = guarded f
  guarded (two_ahead T U f g) = guarded f && guarded g
  guarded (avoid T U f) = guarded f
  guarded _ = true

  -- it is some token at least, the first one of exactly these kinds
  abbrev pub heads : Kinds → {A : Type 0} → Form N Node A → Test
  heads T f = no (nullable f) and yes (among (begins f) T) and yes (among T (begins f))

  -- whether it has an example that no rule takes part in
  abbrev pub simple : {A : Type 0} → Form N Node A → Bool
  simple (token T g) = is T (sample T)
  simple (map h f) = simple f
  simple (f ⨾ g) = simple f && simple g
  simple (into d f g) = simple f && simple g
  simple (choose T f g) = simple g || (not (nullable g) && simple f)
  simple (nest d T f) = simple f
  simple (bounded f) = simple f
  simple (two_ahead T U f g) = simple f
  simple (call n) = false
  simple (avoid T U f) = false
  simple _ = true

  -- the second token is exactly of these kinds, and the first is a token of the form itself
  abbrev pub second : Kinds → {A : Type 0} → Form N Node A → Test
  second U (map h f) = second U f
  second U (token T g ⨾ f) = heads U f
  second U _ = no true

  -- kinds of tokens each of which is the form by itself, where nothing that it bars comes after it
  abbrev pub alone : {A : Type 0} → Form N Node A → Kinds
  alone (token T g) = T
  alone (map h f) = alone f
  alone (f ⨾ g) = if_so (nullable g && simple g) (alone f)
  alone (choose T f g) = alone f ∪ alone g
  alone (bounded f) = alone f
  alone _ = none

  -- something goes on with each token of the first kinds, and not by one of the second
  abbrev pub parts : Kinds → Kinds → {A : Type 0} → Form N Node A → Test
  parts T U (map h f) = parts T U f
  parts T U (nest d V f) = parts T U f
  parts T U (f ⨾ g) = yes (among T (alone f)) and yes (simple g) and no (nullable g) and yes (apart U (begins g))
  parts T U _ = no true

  -- the tokens ahead decide each choice, and each token has an example
  abbrev pub decided : {A : Type 0} → Form N Node A → Test
  decided (token T g) = yes (is T (sample T))
  decided (map h f) = decided f
  decided (f ⨾ g) = decided f and decided g and yes (apart (goes_on f) (begins g)) and yes (nullable g || apart (bars f) (begins g))
  decided (into d f g) = decided f and decided g and no (nullable f) and no (nullable g) and yes (among (goes_on f) none) and yes (among (bars f) none)
  decided (choose T f g) = decided f and decided g and heads T f and yes (apart (begins g) T)
  decided (many T f) = decided f and heads T f and yes (apart (goes_on f) T) and yes (apart (bars f) T)
  decided (or_none T f a) = decided f and heads T f
  decided (nest d T f) = decided f and heads T f
  decided (bounded f) = decided f and no (nullable f)
  decided (two_ahead T U f g) = decided f and decided g and heads T f and second U f and no (nullable g) and yes (among T (begins g))
  decided (avoid T U f) = decided f and yes (is T (sample T)) and no (nullable f) and yes (among T (begins f)) and yes (long f) and parts T U f
  decided _ = yes true

  abbrev pub Decided : {A : Type 0} → Form N Node A → Type 0
  Decided f = Holds (decided f)

  abbrev pub Heads : Kinds → {A : Type 0} → Form N Node A → Type 0
  Heads T f = Holds (heads T f)

  -- the form is as this says of it
  abbrev pub fits_as : Facts → {A : Type 0} → Form N Node A → Test
  fits_as F f = yes (guarded f) and decided f and heads F.begins f and yes (simple f) and yes (among (goes_on f) F.goes_on) and yes (among (bars f) F.bars)

  -- the test of a rule
  abbrev pub fits : Bodies N Node → N → Test
  fits body n = fits_as (facts n) (body n)

  -- what it says
  pub record Fits (body : Bodies N Node) (n : N) : Type 1 where
    pub guard : guarded (body n) ≡ true
    pub sure : Decided (body n)
    pub head : Heads (facts n).begins (body n)
    pub example : simple (body n) ≡ true
    pub further : among (goes_on (body n)) (facts n).goes_on ≡ true
    pub barred : among (bars (body n)) (facts n).bars ≡ true

  pub of_fits : (body : Bodies N Node) (n : N) → passes (fits body n) ≡ true → Fits body n
  of_fits body n e =
      let p = holds (fits body n) e in
      record { guard = p.0; sure = p.1.0; head = p.1.1.0; example = p.1.1.1.0; further = p.1.1.1.1.0; barred = p.1.1.1.1.1 }
