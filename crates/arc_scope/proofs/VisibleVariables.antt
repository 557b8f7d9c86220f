-- Visible variables with one more: a number, a variable that names objects, or a parameter.
use Rattle.std.proofs.Common.{◌≡◌, ℕ, suc, ◌+◌, ◌<◌, Bool, true, false, List, [], ◌∷◌, ◌++◌, length, get_or, take, drop, Option, Some, option_map, cond, refl, sym, ap, ◌∙◌}
use Rattle.std.proofs.Math.Path.{fun_ext}
use Rattle.std.specs.Str.{bytes_eq}
use Rattle.arc_ast.specs.declared.tree.Kind.{Kind}
use Rattle.arc_ast.specs.declared.tree.Parameter.{Parameter}
use Rattle.arc_ast.specs.declared.tree.Sign.{Sign}
use Rattle.arc_ast.specs.Tree as tree
use Rattle.arc_ast.specs.Tree.{parameter_trees}
use Rattle.arc_class.specs.declared.table.ClassTable.{ClassTable}
use Rattle.arc_class.specs.Table.{number_of_class}
use Rattle.arc_scope.specs.declared.scope.Bound.{Bound}
use Rattle.arc_scope.specs.declared.scope.Visible.{Visible}
use Rattle.arc_spec.specs.declared.location.Location.TheVariants as location
use Rattle.arc_scope.specs.Scopes.{Known, Local, Number, Object, Scope, bound, has_place, declare, with_number, with_object, with_parameters}
use Rattle.arc_scope.specs.Views.{local_of, later, local_at, local_in, seen}
use Rattle.arc_scope.proofs.ListSuffixes.{drop_turn}

later-cond : (p : Bool) (a b : Option Local) (n : Local) → later a (cond p (Some n) b) ≡ cond p (Some n) (later a b)
later-cond true a b n = refl
later-cond false a b n = refl

pub local_in-push : (all : List Bound) (b : Bound) (name : List ℕ) → local_in (all ++ b ∷ []) name ≡ bound b.name.now (local_of b.local) (local_in all) name
local_in-push [] b name = refl
local_in-push (a ∷ all) b name = ap (later (local_at a name)) (local_in-push all b name) ∙ later-cond (bytes_eq b.name.now name) (local_at a name) (local_in all name) (local_of b.local)

abbrev scope : Known → Option ℕ → Sign → Kind → (owns : Bool) → ℕ → (List ℕ → Option Local) → ℕ → ℕ → Scope
scope known class sign result owns hidden variables next names = record { known = known; class = class; sign = sign; result = result; owns = owns; hidden = hidden; variables = variables; next = next; names = names }

pub scope_is : (k : Known) (c d : Option ℕ) (s t : Sign) (p q : Kind) (o r : Bool) (h g : ℕ) (v w : List ℕ → Option Local) (n m a b : ℕ) → c ≡ d → s ≡ t → p ≡ q → o ≡ r → h ≡ g → v ≡ w → n ≡ m → a ≡ b → scope k c s p o h v n a ≡ scope k d t q r g w m b
scope_is k c d s t p q o r h g v w n m a b e1 e2 e3 e4 e5 e6 e7 e8 = rw (e1, e2, e3, e4, e5, e6, e7, e8) refl

with_bound : (old new : List Bound) (b : Bound) → new ≡ old ++ b ∷ [] → local_in new ≡ bound b.name.now (local_of b.local) (local_in old)
with_bound old new b i = fun_ext (λ q. ap (λ all. local_in all q) i ∙ local_in-push old b q)

-- a number more is visible
pub number_is : (table : ClassTable) (old new : Visible) (b : Bound) (kind : Kind) → has_place (seen table old) ≡ true → new.class ≡ old.class → new.sign ≡ old.sign → new.result ≡ old.result → new.owns ≡ old.owns → new.hidden ≡ old.hidden → new.bound.items ≡ old.bound.items ++ b ∷ [] → local_of b.local ≡ Number kind (location.Local old.next) → new.next ≡ suc old.next → new.names ≡ old.names
    → seen table new ≡ cond (has_place (seen table old)) (with_number b.name.now kind (seen table old)) (seen table old)
number_is table old new b kind t c g r o h i n m e =
    rw t (scope_is _ _ _ _ _ _ _ _ _ _ _ _ _ _ _ _ _ (ap (option_map number_of_class) c) g r o h (with_bound old.bound.items new.bound.items b i ∙ ap (λ x. bound b.name.now x (local_in old.bound.items)) n) m e)

-- a variable more is visible that names objects
pub object_is : (table : ClassTable) (old new : Visible) (b : Bound) (class : Option ℕ) → has_place (seen table old) ≡ true → new.class ≡ old.class → new.sign ≡ old.sign → new.result ≡ old.result → new.owns ≡ old.owns → new.hidden ≡ old.hidden → new.bound.items ≡ old.bound.items ++ b ∷ [] → local_of b.local ≡ Object (location.Local old.names) class → new.next ≡ old.next
    → new.names ≡ suc old.names → seen table new ≡ cond (has_place (seen table old)) (with_object b.name.now class (seen table old)) (seen table old)
object_is table old new b class t c g r o h i n m e =
    rw t (scope_is _ _ _ _ _ _ _ _ _ _ _ _ _ _ _ _ _ (ap (option_map number_of_class) c) g r o h (with_bound old.bound.items new.bound.items b i ∙ ap (λ x. bound b.name.now x (local_in old.bound.items)) n) m e)

pub parameters_turn : (xs : List Parameter) (i : ℕ) (x : Parameter) (old new whole : Scope) → i < length xs → x ≡ get_or xs i x → new ≡ declare x.name.items (tree.type_tree x.type_name) old → whole ≡ with_parameters old (parameter_trees (drop i xs))
    → whole ≡ with_parameters new (parameter_trees (drop (i + 1) xs))
parameters_turn xs i x old new whole l e n w = w ∙ ap (λ us. with_parameters old (parameter_trees us)) (drop_turn xs i x l e) ∙ ap (λ s. with_parameters s (parameter_trees (drop (i + 1) xs))) (sym n)

-- what stood in front stands there still
pub keeps_turn : {A : Type 0} (old mid new : List A) → take (length old) mid ≡ old → take (length mid) new ≡ mid → take (length old) new ≡ old
keeps_turn [] mid new p q = refl
keeps_turn (a ∷ old) [] new p q = absurd (cc)
keeps_turn (a ∷ old) (b ∷ mid) [] p q = absurd (cc)
keeps_turn (a ∷ old) (b ∷ mid) (d ∷ new) p q =
    let h : take (length old) mid ≡ old = cc in
    let g : take (length mid) new ≡ mid = cc in
    let r : take (length old) new ≡ old = keeps_turn old mid new h g in
    cc

-- and so it does where nothing is changed
take_whole : {A : Type 0} (all : List A) → take (length all) all ≡ all
take_whole [] = refl
take_whole (a ∷ all) = ap (λ us. a ∷ us) (take_whole all)

pub keeps_same : {A : Type 0} (old new : List A) → new ≡ old → take (length old) new ≡ old
keeps_same old new e = ap (take (length old)) e ∙ take_whole old
