-- The rules for the functions of a source.
use denote.Enum.Declared.{tag_of}
use Rattle.std.specs.Prelude.{ℕ, Bool, true, false, ◌&&◌, ◌||◌, not, List, [], ◌∷◌, Option, Some, None, is_some, is_none, codes}
use Rattle.std.specs.Bool.{nat_eq}
use Rattle.std.specs.Option.{option_map_or}
use Rattle.std.specs.Str.{bytes_eq}
use Rattle.arc_ast.specs.declared.tree.Kind.{Kind}
use Rattle.arc_ast.specs.contracts.tree.Kind as kinds
use Rattle.arc_ast.specs.Tree.{FunctionTree}
use Rattle.arc_class.specs.declared.table.Signature.{Signature}
use Rattle.arc_class.specs.declared.table.Declared.{Declared}
use Rattle.arc_class.specs.BrokenRules.{Broken, broken_if}
use Rattle.arc_class.specs.FunctionNames.{has_body, signature, known}

-- whether two kinds are the same variant
abbrev pub same_kind : Kind → Kind → Bool
same_kind a b = nat_eq (tag_of kinds.the_type a) (tag_of kinds.the_type b)

abbrev pub same_kinds : List Kind → List Kind → Bool
same_kinds [] [] = true
same_kinds (a ∷ first) (b ∷ second) = same_kind a b && same_kinds first second
same_kinds _ _ = false

abbrev pub same_number : Option ℕ → Option ℕ → Bool
same_number a b = option_map_or (λ m. option_map_or (λ n. nat_eq m n) b false) a (is_none b)

-- whether two signatures agree
abbrev pub same_signature : Signature → Signature → Bool
same_signature a b = same_kind a.result b.result && same_number a.takes b.takes

-- the two functions of the library, which a source can't declare (this project's own choice)
abbrev pub is_library : List ℕ → Bool
is_library name = bytes_eq name (codes "printf") || bytes_eq name (codes "getchar")

-- whether a function can't stand after those of its name: it has one body (C99, section 6.9), and its declarations agree with the first (section 6.7)
abbrev pub clashes : Option Declared → FunctionTree → Bool
clashes None f = false
clashes (Some earlier) f = (is_some earlier.body && has_body f) || not (same_signature earlier.signature (signature f))

-- 21 Duplicate: a function that clashes with those before it, or has a name of the library's, at its name
abbrev pub duplicate : List FunctionTree → FunctionTree → List Broken
duplicate before f = broken_if (is_library f.name || clashes (known before f.name) f) f.at 21

-- 29 NoMain: no `main` has a body, reported at 0 (C99, section 5.1.2.2.1)
abbrev pub missing_main : Option ℕ → List Broken
missing_main main = broken_if (is_none main) 0 29
