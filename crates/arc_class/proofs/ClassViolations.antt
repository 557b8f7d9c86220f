-- The first violation in methods, fields, interfaces and implementations, one more at a time.
use Rattle.std.proofs.Common.{◌≡◌, ℕ, zero, suc, ◌+◌, ◌<◌, Bool, true, false, ◌||◌, List, [], ◌∷◌, ◌++◌, length, not, nat_lt, Option, Some, None, is_some, is_none, option_map, slice_get, if◌then◌else◌, take, drop, get_or, length-take-le, append_assoc, refl, sym, ap, ◌∙◌, arith}
use Rattle.std.proofs.lemmas.List.{take_more}
use Rattle.std.specs.Str.{bytes_eq}
use Rattle.arc_class.specs.NameMaps.{Named}
use Rattle.arc_ast.specs.declared.tree.Implementation.{Implementation}
use Rattle.arc_ast.specs.declared.tree.Interface.{Interface}
use Rattle.arc_ast.specs.declared.tree.Method.{Method}
use Rattle.arc_ast.specs.declared.tree.Field.{Field}
use Rattle.arc_ast.specs.declared.tree.Sign.{Sign}
use Rattle.arc_ast.specs.Tree.{HeadTree, FieldTree, InterfaceTree, ImplementationTree, UnitTree, head_tree, method_trees, field_trees, interface_tree, interface_trees, implementation_tree, implementation_trees}
use Rattle.arc_class.specs.declared.kept.Implemented.{Implemented}
use Rattle.arc_class.specs.declared.table.Place.{Place}
use Rattle.arc_class.specs.private.Scopes.{and_name}
use Rattle.arc_class.specs.BrokenRules.{broken_if, Broken, first, earlier_of}
use Rattle.arc_class.specs.ClassRules.{broken_methods, broken_field, broken_fields, field_place, broken_interface, broken_implementation, is_implemented}
use Rattle.arc_class.specs.BrokenRules.{in_order}
use Rattle.arc_class.specs.SiteRules.{interface_before}
use Rattle.arc_class.specs.Classes.{heads, first_head, interface_number, class_number, is_root}
use Rattle.arc_class.specs.KeptNames.{place_before, places, implemented_tree}
use Rattle.arc_class.specs.RuntimeClasses.{implemented}
use Rattle.arc_class.specs.Table.{at_name, class_number_in}
use Rattle.arc_class.proofs.FirstBrokenRule.{first_turn}
use Rattle.arc_class.proofs.FirstDeclaration.{first_head-append}
use Rattle.arc_class.proofs.ListSuffixes.{drop_turn}
use Rattle.arc_class.proofs.NameEquality.{eq_turned}
use Rattle.std.specs.Option.{option_or}

-- ---- names that stand before

or_true : (b : Bool) → true ≡ (b || true)
or_true true = refl
or_true false = refl

more_there : (o : Option ℕ) → is_some (option_map (λ n. suc n) o) ≡ is_some o
more_there None = refl
more_there (Some n) = refl

pub interface_seen : (sought : List ℕ) (xs : List InterfaceTree) (x : InterfaceTree) → is_some (interface_number (xs ++ x ∷ []) sought) ≡ (bytes_eq x.name sought || is_some (interface_number xs sought))
interface_seen sought [] x = go (bytes_eq sought x.name) (eq_turned sought x.name)
  where
    go : (b : Bool) → b ≡ bytes_eq x.name sought → is_some (if b then Some 0 else option_map (λ n. suc n) None) ≡ (bytes_eq x.name sought || false)
    go true e = ap (λ b. b || false) e
    go false e = ap (λ b. b || false) e
interface_seen sought (y ∷ xs) x = go (bytes_eq sought y.name) (interface_seen sought xs x)
  where
    go : (b : Bool) → is_some (interface_number (xs ++ x ∷ []) sought) ≡ (bytes_eq x.name sought || is_some (interface_number xs sought))
        → is_some (if b then Some 0 else option_map (λ n. suc n) (interface_number (xs ++ x ∷ []) sought)) ≡ (bytes_eq x.name sought || is_some (if b then Some 0 else option_map (λ n. suc n) (interface_number xs sought)))
    go true h = or_true (bytes_eq x.name sought)
    go false h = more_there (interface_number (xs ++ x ∷ []) sought) ∙ h ∙ ap (λ b. bytes_eq x.name sought || b) (sym (more_there (interface_number xs sought)))

pub implementation_seen : (sought : List ℕ) (xs : List ImplementationTree) (x : ImplementationTree) → is_implemented (xs ++ x ∷ []) sought ≡ (bytes_eq x.name sought || is_implemented xs sought)
implementation_seen sought [] x = ap (λ b. b || false) (eq_turned sought x.name)
implementation_seen sought (y ∷ xs) x = go (bytes_eq sought y.name) (implementation_seen sought xs x)
  where
    go : (b : Bool) → is_implemented (xs ++ x ∷ []) sought ≡ (bytes_eq x.name sought || is_implemented xs sought) → (b || is_implemented (xs ++ x ∷ []) sought) ≡ (bytes_eq x.name sought || (b || is_implemented xs sought))
    go true h = or_true (bytes_eq x.name sought)
    go false h = h

pub there_none : {X : Type 0} (o : Option X) → not (is_some o) ≡ is_none o
there_none None = refl
there_none (Some a) = refl

pub there_map : {X Y : Type 0} (f : X → Y) (o : Option X) → is_some (option_map f o) ≡ is_some o
there_map f None = refl
there_map f (Some a) = refl

-- an earlier interface's class is known, and so is the root
pub class_missing : (is : List InterfaceTree) (name : List ℕ) → not (is_root name || is_some (interface_number is name)) ≡ is_none (class_number is name)
class_missing is name = go (is_root name) (interface_number is name)
  where
    go : (b : Bool) (o : Option ℕ) → not (b || is_some o) ≡ is_none (if b then Some 0 else option_map (λ n. suc n) o)
    go true o = refl
    go false None = refl
    go false (Some n) = refl

implemented_there : (n : ℕ) (ims : List ImplementationTree) (name : List ℕ) → is_some (implemented n ims name) ≡ is_implemented ims name
implemented_there n [] name = refl
implemented_there n (i ∷ ims) name = go (bytes_eq name i.name) (implemented_there (n + length i.methods) ims name)
  where
    go : (b : Bool) → is_some (implemented (n + length i.methods) ims name) ≡ is_implemented ims name → is_some (if b then Some (n, i) else implemented (n + length i.methods) ims name) ≡ (b || is_implemented ims name)
    go true h = refl
    go false h = h

pub implemented_known : (kept : Option Implemented) (n : ℕ) (ims : List ImplementationTree) (name : List ℕ) → option_map implemented_tree kept ≡ implemented n ims name → is_some kept ≡ is_implemented ims name
implemented_known kept n ims name e = sym (there_map implemented_tree kept) ∙ ap is_some e ∙ implemented_there n ims name

pub before_places : (n : ℕ) (is : List InterfaceTree) (name : List ℕ) (at : ℕ) → place_before (places n is name) at ≡ interface_before is name at
before_places n [] name at = refl
before_places n (i ∷ is) name at = go (bytes_eq name i.name) (before_places (suc n) is name at)
  where
    go : (b : Bool) → place_before (places (suc n) is name) at ≡ interface_before is name at
        → place_before (if b then Some (record { number = n; at = i.at }) else places (suc n) is name) at ≡ (if b then nat_lt i.at at else interface_before is name at)
    go true h = refl
    go false h = h

places_number : (n : ℕ) (is : List InterfaceTree) (name : List ℕ) → option_map (λ p. p.number) (places n is name) ≡ option_map (λ m. n + m) (interface_number is name)
places_number n [] name = refl
places_number n (i ∷ is) name = go (bytes_eq name i.name) (interface_number is name) (places_number (suc n) is name)
  where
    go : (b : Bool) (o : Option ℕ) → option_map (λ p. p.number) (places (suc n) is name) ≡ option_map (λ m. suc n + m) o
        → option_map (λ p. p.number) (if b then Some (record { number = n; at = i.at }) else places (suc n) is name) ≡ option_map (λ m. n + m) (if b then Some 0 else option_map (λ m. suc m) o)
    go true o h = ap Some (omega arith)
    go false None h = h
    go false (Some m) h = h ∙ ap Some (omega arith)

-- the number of a class, by what is kept of the interfaces
pub class_number_kept : (names : Named Place) (is : List InterfaceTree) (name : List ℕ) → at_name names name ≡ places 1 is name → class_number_in names name ≡ class_number is name
class_number_kept names is name e = ap (λ o. if is_root name then Some 0 else o) (ap (option_map (λ p. p.number)) e ∙ places_number 1 is name ∙ go (interface_number is name))
  where
    go : (o : Option ℕ) → option_map (λ m. 1 + m) o ≡ option_map (λ n. suc n) o
    go None = refl
    go (Some m) = ap Some (omega arith)

-- ---- methods

heads_push : (xs : List Method) (x : Method) → heads (method_trees (xs ++ x ∷ [])) ≡ heads (method_trees xs) ++ head_tree x.head ∷ []
heads_push [] x = refl
heads_push (y ∷ xs) x = ap (λ us. head_tree y.head ∷ us) (heads_push xs x)

heads_take : (xs : List Method) (k : ℕ) (x : Method) → k < length xs → x ≡ get_or xs k x → heads (method_trees (take (k + 1) xs)) ≡ heads (method_trees (take k xs)) ++ head_tree x.head ∷ []
heads_take xs k x l e = ap (λ us. heads (method_trees us)) (take_more xs k x l ∙ ap (λ y. take k xs ++ y ∷ []) (sym e)) ∙ heads_push (take k xs) x

pub methods_turn : (xs : List Method) (k : ℕ) (x : Method) (so_far one now whole : Option Broken) → k < length xs → x ≡ get_or xs k x
    → one ≡ first (broken_if (is_some (first_head x.head.sign x.head.selector.items (heads (method_trees (take k xs))))) x.head.at 21) → now ≡ earlier_of so_far one
    → whole ≡ earlier_of so_far (first (broken_methods (heads (method_trees (take k xs))) (method_trees (drop k xs)))) → whole ≡ earlier_of now (first (broken_methods (heads (method_trees (take (k + 1) xs))) (method_trees (drop (k + 1) xs))))
methods_turn xs k x so_far one now whole l e o n w =
    let before = heads (method_trees (take k xs)) in
    let others = method_trees (drop (k + 1) xs) in
    first_turn (broken_if (is_some (first_head x.head.sign x.head.selector.items before)) x.head.at 21) (broken_methods (before ++ head_tree x.head ∷ []) others) so_far one now whole o n
    (w ∙ ap (λ us. earlier_of so_far (first (broken_methods before (method_trees us)))) (drop_turn xs k x l e))
    ∙ ap (λ b. earlier_of now (first (broken_methods b others))) (sym (heads_take xs k x l e))

pub methods_held : (xs : List Method) (k : ℕ) (x : Method) (old new : Sign → List ℕ → Option HeadTree) → k < length xs → x ≡ get_or xs k x
    → ((sign : Sign) (selector : List ℕ) → new sign selector ≡ option_or (old sign selector) (first_head sign selector (head_tree x.head ∷ [])))
    → ((sign : Sign) (selector : List ℕ) → old sign selector ≡ first_head sign selector (heads (method_trees (take k xs)))) → (sign : Sign) (selector : List ℕ) → new sign selector ≡ first_head sign selector (heads (method_trees (take (k + 1) xs)))
methods_held xs k x old new l e n h sign selector =
    n sign selector ∙ ap (λ o. option_or o (first_head sign selector (head_tree x.head ∷ []))) (h sign selector)
    ∙ sym (ap (first_head sign selector) (heads_take xs k x l e) ∙ first_head-append sign selector (heads (method_trees (take k xs))) (head_tree x.head ∷ []))

-- ---- fields

pub fields_turn : (u : UnitTree) (above : Option ℕ) (all : List FieldTree) (xs : List Field) (k : ℕ) (x : Field) (so_far one now whole : Option Broken) → k < length xs → x ≡ get_or xs k x
    → one ≡ first (broken_field u above all x.at x.name.items) → now ≡ earlier_of so_far one
    → whole ≡ earlier_of so_far (first (broken_fields u above all (field_trees (drop k xs)))) → whole ≡ earlier_of now (first (broken_fields u above all (field_trees (drop (k + 1) xs))))
fields_turn u above all xs k x so_far one now whole l e o n w =
    first_turn (broken_field u above all x.at x.name.items) (broken_fields u above all (field_trees (drop (k + 1) xs))) so_far one now whole o n
    (w ∙ ap (λ us. earlier_of so_far (first (broken_fields u above all (field_trees us)))) (drop_turn xs k x l e))

pub broken_fields-append : (u : UnitTree) (above : Option ℕ) (all xs ys : List FieldTree) → broken_fields u above all (xs ++ ys) ≡ broken_fields u above all xs ++ broken_fields u above all ys
broken_fields-append u above all [] ys = refl
broken_fields-append u above all (x ∷ xs) ys =
    ap (λ bs. broken_field u above all x.at x.name ++ bs) (broken_fields-append u above all xs ys)
    ∙ sym (append_assoc (broken_field u above all x.at x.name) (broken_fields u above all xs) (broken_fields u above all ys))

pub field_place-append : (name : List ℕ) (xs ys : List FieldTree) → field_place name (xs ++ ys) ≡ option_or (field_place name xs) (field_place name ys)
field_place-append name [] ys = refl
field_place-append name (x ∷ xs) ys = go (bytes_eq name x.name) (field_place-append name xs ys)
  where
    go : (b : Bool) → field_place name (xs ++ ys) ≡ option_or (field_place name xs) (field_place name ys)
        → (if b then Some x.at else field_place name (xs ++ ys)) ≡ option_or (if b then Some x.at else field_place name xs) (field_place name ys)
    go true h = refl
    go false h = h

-- ---- interfaces

interfaces_push : (xs : List Interface) (x : Interface) → interface_trees (xs ++ x ∷ []) ≡ interface_trees xs ++ interface_tree x ∷ []
interfaces_push [] x = refl
interfaces_push (y ∷ xs) x = ap (λ us. interface_tree y ∷ us) (interfaces_push xs x)

interfaces_take : (xs : List Interface) (k : ℕ) (x : Interface) → k < length xs → x ≡ get_or xs k x → interface_trees (take (k + 1) xs) ≡ interface_trees (take k xs) ++ interface_tree x ∷ []
interfaces_take xs k x l e = ap interface_trees (take_more xs k x l ∙ ap (λ y. take k xs ++ y ∷ []) (sym e)) ∙ interfaces_push (take k xs) x

pub interfaces_count : (xs : List Interface) → length (interface_trees xs) ≡ length xs
interfaces_count [] = refl
interfaces_count (x ∷ xs) = ap suc (interfaces_count xs)

-- how many interfaces stand before one
pub interfaces_before : (xs : List Interface) (k : ℕ) → k < length xs → length (interface_trees (take k xs)) ≡ k
interfaces_before xs k l = interfaces_count (take k xs) ∙ length-take-le k xs (omega (arith, l))

-- the interface of an index
pub interface_there : (xs : List Interface) (k : ℕ) (x : Interface) → k < length xs → x ≡ get_or xs k x → slice_get (interface_trees xs) k ≡ Some (interface_tree x)
interface_there [] k x l e = absurd (omega (arith, l))
interface_there (y ∷ xs) zero x l e = ap (λ i. Some (interface_tree i)) (sym e)
interface_there (y ∷ xs) (suc k) x l e = interface_there xs k x (omega (arith, l)) e

pub interfaces_turn : (u : UnitTree) (xs : List Interface) (k : ℕ) (x : Interface) (so_far one now whole : Option Broken) → k < length xs → x ≡ get_or xs k x
    → one ≡ first (broken_interface u (interface_trees (take k xs)) (interface_tree x)) → now ≡ earlier_of so_far one
    → whole ≡ earlier_of so_far (first (in_order (broken_interface u) (interface_trees (take k xs)) (interface_trees (drop k xs)))) → whole ≡ earlier_of now (first (in_order (broken_interface u) (interface_trees (take (k + 1) xs)) (interface_trees (drop (k + 1) xs))))
interfaces_turn u xs k x so_far one now whole l e o n w =
    let before = interface_trees (take k xs) in
    let others = interface_trees (drop (k + 1) xs) in
    let i = interface_tree x in
    first_turn (broken_interface u before i) (in_order (broken_interface u) (before ++ i ∷ []) others) so_far one now whole o n
    (w ∙ ap (λ us. earlier_of so_far (first (in_order (broken_interface u) before (interface_trees us)))) (drop_turn xs k x l e))
    ∙ ap (λ b. earlier_of now (first (in_order (broken_interface u) b others))) (sym (interfaces_take xs k x l e))

pub interfaces_held : (xs : List Interface) (k : ℕ) (x : Interface) (old new : List ℕ → Bool) → k < length xs → x ≡ get_or xs k x → new ≡ and_name x.name.items old
    → ((name : List ℕ) → old name ≡ is_some (interface_number (interface_trees (take k xs)) name)) → (name : List ℕ) → new name ≡ is_some (interface_number (interface_trees (take (k + 1) xs)) name)
interfaces_held xs k x old new l e n h name =
    ap (λ f. f name) n ∙ ap (λ b. bytes_eq x.name.items name || b) (h name) ∙ sym (ap (λ us. is_some (interface_number us name)) (interfaces_take xs k x l e) ∙ interface_seen name (interface_trees (take k xs)) (interface_tree x))

-- ---- implementations

implementations_push : (xs : List Implementation) (x : Implementation) → implementation_trees (xs ++ x ∷ []) ≡ implementation_trees xs ++ implementation_tree x ∷ []
implementations_push [] x = refl
implementations_push (y ∷ xs) x = ap (λ us. implementation_tree y ∷ us) (implementations_push xs x)

implementations_take : (xs : List Implementation) (k : ℕ) (x : Implementation) → k < length xs → x ≡ get_or xs k x → implementation_trees (take (k + 1) xs) ≡ implementation_trees (take k xs) ++ implementation_tree x ∷ []
implementations_take xs k x l e = ap implementation_trees (take_more xs k x l ∙ ap (λ y. take k xs ++ y ∷ []) (sym e)) ∙ implementations_push (take k xs) x

pub implementations_turn : (u : UnitTree) (xs : List Implementation) (k : ℕ) (x : Implementation) (so_far one now whole : Option Broken) → k < length xs → x ≡ get_or xs k x
    → one ≡ first (broken_implementation u (implementation_trees (take k xs)) (implementation_tree x)) → now ≡ earlier_of so_far one
    → whole ≡ earlier_of so_far (first (in_order (broken_implementation u) (implementation_trees (take k xs)) (implementation_trees (drop k xs))))
    → whole ≡ earlier_of now (first (in_order (broken_implementation u) (implementation_trees (take (k + 1) xs)) (implementation_trees (drop (k + 1) xs))))
implementations_turn u xs k x so_far one now whole l e o n w =
    let before = implementation_trees (take k xs) in
    let others = implementation_trees (drop (k + 1) xs) in
    let i = implementation_tree x in
    first_turn (broken_implementation u before i) (in_order (broken_implementation u) (before ++ i ∷ []) others) so_far one now whole o n
    (w ∙ ap (λ us. earlier_of so_far (first (in_order (broken_implementation u) before (implementation_trees us)))) (drop_turn xs k x l e))
    ∙ ap (λ b. earlier_of now (first (in_order (broken_implementation u) b others))) (sym (implementations_take xs k x l e))

pub implementations_held : (xs : List Implementation) (k : ℕ) (x : Implementation) (old new : List ℕ → Bool) → k < length xs → x ≡ get_or xs k x → new ≡ and_name x.name.items old
    → ((name : List ℕ) → old name ≡ is_implemented (implementation_trees (take k xs)) name) → (name : List ℕ) → new name ≡ is_implemented (implementation_trees (take (k + 1) xs)) name
implementations_held xs k x old new l e n h name =
    ap (λ f. f name) n ∙ ap (λ b. bytes_eq x.name.items name || b) (h name)
    ∙ sym (ap (λ us. is_implemented us name) (implementations_take xs k x l e) ∙ implementation_seen name (implementation_trees (take k xs)) (implementation_tree x))
