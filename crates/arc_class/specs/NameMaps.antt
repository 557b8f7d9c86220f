-- Maps from names, which are seen as names with their values, and lie in parts.
use Rattle.std.specs.Prelude.{◌≡◌, ℕ, ◌%◌, ◌⊎◌, List, length, flat_map, slice_get, Option, Some, None}
use Rattle.std.specs.BTreeMap.{BTreeMap}
use Rattle.std.specs.Borrow.{Bor}
use Rattle.std.specs.Cmp.Lexicographic.{slice_cmp}
use Rattle.std.specs.Hash.FoldHasher as folding
use Rattle.std.specs.Map.{lookup}
use Rattle.std.specs.Ordering.{nat_cmp, is_eq}

-- names with their values
abbrev pub Named : Type 0 → Type 0
Named X = List (Bor (List ℕ) × X)

-- what a map from names has at a name
abbrev pub at_name : {X : Type 0} → Named X → List ℕ → Option X
at_name map name = lookup (λ key. is_eq (slice_cmp nat_cmp name key.now)) map

-- ---- the parts of a map

-- a number that names share seldom
unfoldable pub name_hash : List ℕ → ℕ
name_hash name = folding.finish (folding.write folding.initial name)

-- which of so many parts a name belongs to
abbrev pub part_of : List ℕ → (count : ℕ) → ℕ
part_of name count = name_hash name % count

-- what all parts have
abbrev pub all_parts : {X : Type 0} → List (BTreeMap (Bor (List ℕ)) X) → Named X
all_parts parts = flat_map (λ part. part.entries) parts

-- Each part has only names that belong to it.
abbrev pub IsPlaced : {X : Type 0} → List (BTreeMap (Bor (List ℕ)) X) → Type 0
IsPlaced {X} parts =
    (i : ℕ) (part : BTreeMap (Bor (List ℕ)) X) → slice_get parts i ≡ Some part → (name : List ℕ) → (part_of name (length parts) ≡ i) ⊎ (at_name part.entries name ≡ None)
