-- The parts of a table, which grow by one class or one method at a time.
use Rattle.std.proofs.Common.{◌≡◌, ℕ, ◌+◌, Bool, true, false, List, [], ◌∷◌, ◌++◌, length, map, nat_lt, Option, Some, None, option_map, if◌then◌else◌, append_assoc, refl, sym, ap, ◌∙◌}
use Rattle.std.specs.Option.{option_and_then, option_map_or}
use Rattle.std.proofs.lemmas.List.{length-append, map_push}
use Rattle.std.proofs.Math.Path.{fun_ext}
use Rattle.arc_class.specs.NameMaps.{Named}
use Rattle.std.specs.Borrow.{Bor}
use Rattle.std.specs.Str.{bytes_eq}
use Rattle.arc_ast.specs.declared.tree.MethodHead.{MethodHead}
use Rattle.arc_ast.specs.declared.tree.Sign.{Sign}
use Rattle.arc_ast.specs.Tree.{HeadTree, MethodTree, FieldTree, InterfaceTree, ImplementationTree, UnitTree, head_tree}
use Rattle.arc_spec.specs.declared.class.Method.{Method}
use Rattle.arc_spec.specs.Classes.{Class}
use Rattle.arc_class.specs.declared.heads.Heads.{Heads}
use Rattle.arc_spec.specs.declared.sort_counts.SortCounts.{SortCounts}
use Rattle.arc_class.specs.declared.table.MethodResult.{MethodResult}
use Rattle.arc_class.specs.declared.table.Place.{Place}
use Rattle.arc_class.specs.Classes.{first_head, result_of, own_result, defined_by, class_number, implemented_before, own_heads}
use Rattle.arc_class.specs.private.Entries.{EntryTree, entry_tree, root_entry, class_entry}
use Rattle.arc_class.specs.Fields.{fields_by}
use Rattle.arc_class.specs.KeptNames.{head_in}
use Rattle.arc_class.specs.RuntimeClasses.{methods_from, dealloc_from, implemented, implementation_of, class_with}
use Rattle.arc_class.specs.Lookups.{class_number_in, given_in, given_at}
use Rattle.arc_class.specs.Table.{at_name, head_at, result_at}
use Rattle.arc_class.proofs.ClassesOfTypes.{all_given_same}

-- one more is made
pub push_turn : {X : Type 0} (old new : List X) (x y : X) (rest whole : List X) → new ≡ old ++ x ∷ [] → x ≡ y → whole ≡ old ++ (y ∷ rest) → whole ≡ new ++ rest
push_turn old new x y rest whole n e w = w ∙ ap (λ z. old ++ (z ∷ rest)) (sym e) ∙ sym (append_assoc old (x ∷ []) rest) ∙ sym (ap (λ us. us ++ rest) n)

pub made_turn : {X Y : Type 0} (f : X → Y) (old new : List X) (x : X) (y : Y) (rest whole : List Y) → new ≡ old ++ x ∷ [] → f x ≡ y → whole ≡ map f old ++ (y ∷ rest) → whole ≡ map f new ++ rest
made_turn f old new x y rest whole n e w = push_turn (map f old) (map f new) (f x) y rest whole (ap (map f) n ∙ map_push f old x) e w

pub map_append : {X Y : Type 0} (f : X → Y) (xs ys : List X) → map f (xs ++ ys) ≡ map f xs ++ map f ys
map_append f [] ys = refl
map_append f (x ∷ xs) ys = ap (λ us. f x ∷ us) (map_append f xs ys)

pub pushed_length : {X : Type 0} (old new : List X) (x : X) (n : ℕ) → new ≡ old ++ x ∷ [] → length old ≡ n → length new ≡ n + 1
pushed_length old new x n e h = ap length e ∙ length-append old (x ∷ []) ∙ ap (λ m. m + 1) h

-- ---- the methods of a class

pub kept_none : {X : Type 0} (m : Named X) (name : List ℕ) → m ≡ [] → at_name m name ≡ None
kept_none m name e = rw e refl

-- by what is kept of implementations
abbrev pub methods_at : Option (ℕ × ImplementationTree) → List MethodTree
methods_at None = []
methods_at (Some p) = (p.1).methods

abbrev pub fields_at : Option (ℕ × ImplementationTree) → List FieldTree
fields_at None = []
fields_at (Some p) = (p.1).fields

pub defined_kept : (n : ℕ) (ims : List ImplementationTree) (name : List ℕ) → defined_by ims name ≡ methods_at (implemented n ims name)
defined_kept n [] name = refl
defined_kept n (i ∷ ims) name = go (bytes_eq name i.name) (defined_kept (n + length i.methods) ims name)
  where
    go : (b : Bool) → defined_by ims name ≡ methods_at (implemented (n + length i.methods) ims name)
        → (if b then i.methods else defined_by ims name) ≡ methods_at (if b then Some (n, i) else implemented (n + length i.methods) ims name)
    go true h = refl
    go false h = h

pub fields_kept : (n : ℕ) (ims : List ImplementationTree) (name : List ℕ) → fields_by ims name ≡ fields_at (implemented n ims name)
fields_kept n [] name = refl
fields_kept n (i ∷ ims) name = go (bytes_eq name i.name) (fields_kept (n + length i.methods) ims name)
  where
    go : (b : Bool) → fields_by ims name ≡ fields_at (implemented (n + length i.methods) ims name)
        → (if b then i.fields else fields_by ims name) ≡ fields_at (if b then Some (n, i) else implemented (n + length i.methods) ims name)
    go true h = refl
    go false h = h

-- whether an implementation stands before a place
abbrev pub before_at : Option (ℕ × ImplementationTree) → (at : ℕ) → Bool
before_at None at = false
before_at (Some p) at = nat_lt (p.1).at at

pub before_kept : (n : ℕ) (ims : List ImplementationTree) (name : List ℕ) (at : ℕ) → implemented_before ims name at ≡ before_at (implemented n ims name) at
before_kept n [] name at = refl
before_kept n (i ∷ ims) name at = go (bytes_eq name i.name) (before_kept (n + length i.methods) ims name at)
  where
    go : (b : Bool) → implemented_before ims name at ≡ before_at (implemented (n + length i.methods) ims name) at
        → (if b then nat_lt i.at at else implemented_before ims name at) ≡ before_at (if b then Some (n, i) else implemented (n + length i.methods) ims name) at
    go true h = refl
    go false h = h

-- ---- an entry and a class

pub result_kept : (methods : Heads) (sign : Sign) (selector : List ℕ) → option_map result_of (head_in methods sign selector) ≡ result_at methods sign selector
result_kept methods sign selector = go (head_at methods sign selector)
  where
    go : (o : Option (Bor MethodHead)) → option_map result_of (option_map (λ h. head_tree h.now) o) ≡ option_map (λ h. result_of (head_tree h.now)) o
    go None = refl
    go (Some h) = refl

pub given_kept : (names : Named Place) (methods : Heads) (sign : Sign) (selector : List ℕ) → option_map (given_in names) (head_in methods sign selector) ≡ given_at names methods sign selector
given_kept names methods sign selector = go (head_at methods sign selector)
  where
    go : (o : Option (Bor MethodHead)) → option_map (given_in names) (option_map (λ h. head_tree h.now) o) ≡ option_map (λ h. given_in names (head_tree h.now)) o
    go None = refl
    go (Some h) = refl

abbrev entry_of : Option ℕ → (Sign → List ℕ → Option MethodResult) → EntryTree
entry_of superclass results = record { superclass = superclass; results = results }

-- what is known of a class, where names have the numbers of its source
pub entry_is : (u : UnitTree) (i : InterfaceTree) (names : Named Place) (superclass : Option ℕ) (methods : Heads) → superclass ≡ class_number u.interfaces i.superclass
    → ((sought : List ℕ) → class_number_in names sought ≡ class_number u.interfaces sought)
    → ((sign : Sign) (selector : List ℕ) → head_in methods sign selector ≡ first_head sign selector (own_heads u i))
    → entry_tree names (record { superclass = superclass; methods = methods }) ≡ class_entry u i
entry_is u i names superclass methods e same h =
    ap (λ s. entry_of s (given_at names methods)) e
    ∙ ap (entry_of (class_number u.interfaces i.superclass)) (fun_ext (λ sign. fun_ext (λ selector. given sign selector)))
  where
    given : (sign : Sign) (selector : List ℕ) → given_at names methods sign selector ≡ own_result u sign selector i
    given sign selector =
        sym (given_kept names methods sign selector) ∙ ap (option_map (given_in names)) (h sign selector)
        ∙ ap (λ (f : HeadTree → MethodResult). option_map f (first_head sign selector (own_heads u i))) (all_given_same names u.interfaces same)

-- the root has no methods of its own
pub root_is : (names : Named Place) (methods : Heads) → ((sign : Sign) (selector : List ℕ) → head_at methods sign selector ≡ None) → entry_tree names (record { superclass = None; methods = methods }) ≡ root_entry
root_is names methods h = ap (entry_of None) (fun_ext (λ sign. fun_ext (λ selector. ap (option_map (λ h. given_in names (head_tree h.now))) (h sign selector))))

abbrev class_made : Option ℕ → List Method → Option ℕ → SortCounts → Class
class_made superclass methods dealloc fields = record { superclass = superclass; methods = methods; dealloc = dealloc; fields = fields }

pub class_is : (u : UnitTree) (fields : SortCounts) (i : InterfaceTree) (superclass : Option ℕ) (methods : List Method) (dealloc : Option ℕ) → superclass ≡ class_number u.interfaces i.superclass
    → methods ≡ option_map_or (λ p. methods_from u p.0 (p.1).methods) (implementation_of u i) [] → dealloc ≡ option_and_then (λ p. dealloc_from p.0 (p.1).methods) (implementation_of u i) → class_made superclass methods dealloc fields ≡ class_with u fields i
class_is u fields i superclass methods dealloc e h d =
    ap (λ s. class_made s methods dealloc fields) e ∙ ap (λ ms. class_made (class_number u.interfaces i.superclass) ms dealloc fields) h
    ∙ ap (λ f. class_made (class_number u.interfaces i.superclass) (option_map_or (λ p. methods_from u p.0 (p.1).methods) (implementation_of u i) []) f fields) d
