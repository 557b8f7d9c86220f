-- What functions promise that fill vectors.
use Rattle.std.specs.Prelude.{List, [], ◌∷◌}

-- the trees of what was made
abbrev pub all : {A T : Type 0} → (A → T) → List A → List T
all tree [] = []
all tree (a ∷ others) = tree a ∷ all tree others
