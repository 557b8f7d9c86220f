-- How many fields or variables of each sort several lists have together.
use Rattle.std.proofs.Common.{◌≡◌, ◌≤◌, ℕ, suc, ◌+◌, List, [], ◌∷◌, ◌++◌, length, map, Option, Some, None, refl, ap, ◌∙◌, arith}
use Rattle.arc_ast.specs.declared.tree.Qual.{Qual}
use Rattle.arc_ast.specs.declared.tree.Qual.TheVariants as quals
use Rattle.arc_ast.specs.Tree.{FieldTree}
use Rattle.arc_spec.specs.declared.sort_counts.SortCounts.{SortCounts}
use Rattle.arc_class.specs.Fields.{ClassField, owned, field_sort, sorts_of_fields, written_sorts}
use Rattle.arc_spec.specs.Sorts.{next_of, with_one, with_all, counts, none_counted, total}
use Rattle.arc_class.proofs.TablePartsGrow.{map_append}

pub with_both : (c : SortCounts) (ss ts : List (Option Qual)) → with_all c (ss ++ ts) ≡ with_all (with_all c ss) ts
with_both c [] ts = refl
with_both c (s ∷ ss) ts = with_both (with_one s c) ss ts

pub next_within : (c : SortCounts) (sort : Option Qual) → next_of sort c ≤ total c
next_within c None = omega arith
next_within c (Some quals.Strong) = omega arith
next_within c (Some quals.Weak) = omega arith
next_within c (Some quals.Autoreleasing) = omega arith

pub one_total : (c : SortCounts) (sort : Option Qual) (n : ℕ) → total (with_one sort c) + n ≡ total c + suc n
one_total c None n = omega arith
one_total c (Some quals.Strong) n = omega arith
one_total c (Some quals.Weak) n = omega arith
one_total c (Some quals.Autoreleasing) n = omega arith

all_total : (c : SortCounts) (sorts : List (Option Qual)) → total (with_all c sorts) ≡ total c + length sorts
all_total c [] = omega arith
all_total c (s ∷ ss) = all_total (with_one s c) ss ∙ one_total c s (length ss)

-- there are as many of all sorts together as in all
pub counts_total : (sorts : List (Option Qual)) → total (counts sorts) ≡ length sorts
counts_total sorts = all_total none_counted sorts ∙ omega arith

pub sorts_length : (fs : List ClassField) → length (sorts_of_fields fs) ≡ length fs
sorts_length [] = refl
sorts_length (f ∷ fs) = ap suc (sorts_length fs)

sorts_owned : (owner : ℕ) (fs : List FieldTree) → sorts_of_fields (map (owned owner) fs) ≡ written_sorts fs
sorts_owned owner [] = refl
sorts_owned owner (f ∷ fs) = ap (λ ss. field_sort f ∷ ss) (sorts_owned owner fs)

-- those of a class are counted after those that it inherits
pub counts_of_class : (inherited : List ClassField) (owner : ℕ) (own : List FieldTree) → counts (sorts_of_fields (inherited ++ map (owned owner) own)) ≡ with_all (counts (sorts_of_fields inherited)) (written_sorts own)
counts_of_class inherited owner own =
    ap counts (map_append (λ f. f.qual) inherited (map (owned owner) own)) ∙ with_both none_counted (sorts_of_fields inherited) (sorts_of_fields (map (owned owner) own))
    ∙ ap (with_all (counts (sorts_of_fields inherited))) (sorts_owned owner own)

pub counts_of_parts : (before : SortCounts) (xs ys : List FieldTree) → with_all (with_all before (written_sorts xs)) (written_sorts ys) ≡ with_all before (written_sorts (xs ++ ys))
counts_of_parts before [] ys = refl
counts_of_parts before (x ∷ xs) ys = counts_of_parts (with_one (field_sort x) before) xs ys
