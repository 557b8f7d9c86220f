-- The families of methods (ARC, "Method families").
use Rattle.std.specs.Prelude.{ℕ, Bool, true, false, not, ◌&&◌, ◌==◌, List, [], ◌∷◌, codes, if◌then◌else◌}
use Rattle.std.specs.Char.{is_ascii_lowercase}
use Rattle.arc_ast.specs.declared.tree.Sign.{Sign}
use Rattle.arc_ast.specs.declared.tree.Sign.TheVariants as signs
use Rattle.arc_ast.specs.declared.tree.Kind.{Kind}
use Rattle.arc_ast.specs.declared.tree.Kind.TheVariants as kind
use Rattle.arc_spec.specs.declared.signature.Family.{Family}
use Rattle.arc_spec.specs.declared.signature.Family.TheVariants as family
use Rattle.arc_spec.specs.declared.signature.Signature.{Signature}

-- a name without the underscores that lead it (ARC, "Method families", as all that follows)
unfoldable pub without_underscores : List ℕ → List ℕ
without_underscores [] = []
without_underscores (c ∷ others) = if c == 95 then without_underscores others else c ∷ others

-- a selector's first component: the part before its first colon
unfoldable pub first_component : List ℕ → List ℕ
first_component [] = []
first_component (c ∷ others) = if c == 58 then [] else c ∷ first_component others

-- whether a word ends before the characters: there are none, or the first isn't a lowercase letter
abbrev pub ends_before : List ℕ → Bool
ends_before [] = true
ends_before (c ∷ others) = not (is_ascii_lowercase c)

-- whether a component is the word, or begins with it followed by a character that isn't a lowercase letter
unfoldable pub begins_with_word : (component word : List ℕ) → Bool
begins_with_word component [] = ends_before component
begins_with_word [] (w ∷ ws) = false
begins_with_word (c ∷ others) (w ∷ ws) = w == c && begins_with_word others ws

-- the family that a first component names: one at most, since the five words begin with different letters
abbrev pub named_family : (component : List ℕ) → Family
named_family component =
    if begins_with_word component (codes "alloc") then family.Alloc
    else (if begins_with_word component (codes "copy") then family.Copy
    else (if begins_with_word component (codes "init") then family.Init
    else (if begins_with_word component (codes "mutableCopy") then family.MutableCopy
    else (if begins_with_word component (codes "new") then family.New
    else family.None))))

abbrev pub is_object : Kind → Bool
is_object kind.Object = true
is_object _ = false

-- a method of a family returns an object, and one of init is an instance method
abbrev pub may_have : Sign → Family → Kind → Bool
may_have signs.Class family.Init kind = false
may_have _ _ kind = is_object kind

-- the family of a method, from its sign, its selector and the kind of what it gives
abbrev pub method_family : Sign → (selector : List ℕ) → Kind → Family
method_family sign selector kind =
    let named = named_family (first_component (without_underscores selector)) in
    if may_have sign named kind then named else family.None

-- the same, of a signature
abbrev pub family_of : (selector : List ℕ) → Signature → Family
family_of selector signature = method_family (if signature.instance then signs.Instance else signs.Class) selector signature.result

-- whether a method is one of init, whose `self` it owns (ARC, "Semantics of init")
abbrev pub is_init : Family → Bool
is_init family.Init = true
is_init _ = false

-- whether what a method gives is retained for who sent the message (ARC, "Retained return values")
abbrev pub is_owning : Family → Bool
is_owning family.None = false
is_owning _ = true

-- Whether a method gives an object of the class that gets the message although its type says `id`: a class method of alloc or new, and a method of init (ARC, "Related
-- result types").
abbrev pub gives_related : Sign → Family → Bool
gives_related signs.Class family.Alloc = true
gives_related signs.Class family.New = true
gives_related signs.Instance family.Init = true
gives_related _ _ = false
