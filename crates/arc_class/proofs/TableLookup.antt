-- A table answers what its source declares, by the parts of the table.
use Rattle.std.proofs.Common.{◌≡◌, ℕ, zero, suc, List, [], ◌∷◌, map, slice_get, Option, Some, None, option_map, refl, sym, ap, ◌∙◌}
use Rattle.std.specs.Option.{option_and_then, option_or}
use Rattle.arc_class.specs.NameMaps.{Named}
use Rattle.std.proofs.Math.Path.{fun_ext}
use Rattle.std.proofs.lemmas.Option.{slice_get-map}
use Rattle.arc_ast.specs.declared.tree.Sign.{Sign}
use Rattle.arc_ast.specs.declared.tree.Sign.TheVariants as signs
use Rattle.arc_ast.specs.Tree.{FunctionTree, InterfaceTree, UnitTree}
use Rattle.arc_spec.specs.Classes.{ancestry, first_that_has}
use Rattle.arc_class.specs.declared.table.ClassId.{ClassId}
use Rattle.arc_class.specs.declared.table.ClassTable.{ClassTable}
use Rattle.arc_class.specs.declared.table.Entry.{Entry}
use Rattle.arc_class.specs.declared.table.MethodResult.{MethodResult}
use Rattle.arc_class.specs.declared.table.Place.{Place}
use Rattle.arc_class.specs.Classes.{superclass, own_result, result_in, result_of, built_in_result, built_in_given, counting_result, counting_given, class_of_result, nearest_result, known_result, any_result, superclasses, class_number, first_head, declared, defined}
use Rattle.arc_class.specs.private.Entries.{EntryTree, entry_tree, root_entry, class_entry}
use Rattle.arc_class.specs.KeptNames.{head_in, function_kept}
use Rattle.arc_class.specs.FunctionNames.{first_named}
use Rattle.arc_class.specs.Table.{class_number_in, result_class_in, function_class_in, own_given_in, superclass_of_entry, superclass_in, given_among, result_at, result_in_table, any_result_in}
use Rattle.arc_class.proofs.TablePartsGrow.{result_kept}
use Rattle.arc_class.proofs.ClassesOfTypes.{result_class_same}

abbrev superclass_said : Option EntryTree → Option ℕ
superclass_said None = None
superclass_said (Some e) = e.superclass

abbrev result_said : (class : ℕ) → Option EntryTree → Sign → List ℕ → Option MethodResult
result_said class None sign selector = None
result_said zero (Some e) sign selector = built_in_given sign selector
result_said (suc n) (Some e) sign selector = e.results sign selector

entry_at : (u : UnitTree) (names : Named Place) (entries : List Entry) (class : ℕ) → map (entry_tree names) entries ≡ root_entry ∷ map (class_entry u) u.interfaces
    → option_map (entry_tree names) (slice_get entries class) ≡ slice_get (root_entry ∷ map (class_entry u) u.interfaces) class
entry_at u names entries class e = sym (slice_get-map (entry_tree names) entries class) ∙ ap (λ es. slice_get es class) e

said_superclass : (u : UnitTree) (class : ℕ) → superclass_said (slice_get (root_entry ∷ map (class_entry u) u.interfaces) class) ≡ superclass u.interfaces class
said_superclass u zero = refl
said_superclass u (suc n) = ap superclass_said (slice_get-map (class_entry u) u.interfaces n) ∙ go (slice_get u.interfaces n)
  where
    go : (o : Option InterfaceTree) → superclass_said (option_map (class_entry u) o) ≡ option_and_then (λ i. class_number u.interfaces i.superclass) o
    go None = refl
    go (Some i) = refl

said_result : (u : UnitTree) (class : ℕ) (sign : Sign) (selector : List ℕ) → result_said class (slice_get (root_entry ∷ map (class_entry u) u.interfaces) class) sign selector ≡ result_in u class sign selector
said_result u zero sign selector = refl
said_result u (suc n) sign selector = ap (λ o. result_said (suc n) o sign selector) (slice_get-map (class_entry u) u.interfaces n) ∙ go (slice_get u.interfaces n)
  where
    go : (o : Option InterfaceTree) → result_said (suc n) (option_map (class_entry u) o) sign selector ≡ option_and_then (own_result u sign selector) o
    go None = refl
    go (Some i) = refl

pub superclass_is : (u : UnitTree) (table : ClassTable) (class : ℕ) → map (entry_tree table.names) table.entries.items ≡ root_entry ∷ map (class_entry u) u.interfaces → superclass_in table class ≡ superclass u.interfaces class
superclass_is u table class e = go (slice_get table.entries.items class) refl ∙ ap superclass_said (entry_at u table.names table.entries.items class e) ∙ said_superclass u class
  where
    go : (o : Option Entry) → slice_get table.entries.items class ≡ o → superclass_in table class ≡ superclass_said (option_map (entry_tree table.names) (slice_get table.entries.items class))
    go None h = rw h refl
    go (Some x) h = rw h refl

entry_superclasses : (names : Named Place) (entries : List Entry) → map superclass_of_entry entries ≡ map (λ t. t.superclass) (map (entry_tree names) entries)
entry_superclasses names [] = refl
entry_superclasses names (x ∷ xs) = ap (λ above. x.superclass ∷ above) (entry_superclasses names xs)

class_superclasses : (u : UnitTree) (is : List InterfaceTree) → map (λ t. t.superclass) (map (class_entry u) is) ≡ map (λ i. class_number u.interfaces i.superclass) is
class_superclasses u [] = refl
class_superclasses u (i ∷ is) = ap (λ above. class_number u.interfaces i.superclass ∷ above) (class_superclasses u is)

superclasses_are : (u : UnitTree) (names : Named Place) (entries : List Entry) → map (entry_tree names) entries ≡ root_entry ∷ map (class_entry u) u.interfaces
    → map superclass_of_entry entries ≡ superclasses u.interfaces
superclasses_are u names entries e = entry_superclasses names entries ∙ ap (map (λ t. t.superclass)) e ∙ ap (λ above. None ∷ above) (class_superclasses u u.interfaces)

own_is : (u : UnitTree) (table : ClassTable) (class : ℕ) (sign : Sign) (selector : List ℕ) → map (entry_tree table.names) table.entries.items ≡ root_entry ∷ map (class_entry u) u.interfaces
    → own_given_in table.names class (slice_get table.entries.items class) sign selector ≡ result_in u class sign selector
own_is u table class sign selector e =
    go class (slice_get table.entries.items class) ∙ ap (λ o. result_said class o sign selector) (entry_at u table.names table.entries.items class e) ∙ said_result u class sign selector
  where
    go : (class : ℕ) (o : Option Entry) → own_given_in table.names class o sign selector ≡ result_said class (option_map (entry_tree table.names) o) sign selector
    go zero None = refl
    go (suc n) None = refl
    go zero (Some x) = refl
    go (suc n) (Some x) = refl

among_is : (u : UnitTree) (table : ClassTable) (from : Option ℕ) (sign : Sign) (selector : List ℕ) → map (entry_tree table.names) table.entries.items ≡ root_entry ∷ map (class_entry u) u.interfaces
    → given_among table.names table.entries.items from sign selector ≡ nearest_result u from sign selector
among_is u table from sign selector e =
    ap (λ above. first_that_has (λ class. own_given_in table.names class (slice_get table.entries.items class) sign selector) (ancestry above from)) (superclasses_are u table.names table.entries.items e)
    ∙ ap (λ (own : ℕ → Option MethodResult). first_that_has own (ancestry (superclasses u.interfaces) from)) (fun_ext (λ class. own_is u table class sign selector e))

pub result_is : (u : UnitTree) (table : ClassTable) (from : Option ℕ) (sign : Sign) (selector : List ℕ) → map (entry_tree table.names) table.entries.items ≡ root_entry ∷ map (class_entry u) u.interfaces
    → result_in_table table from sign selector ≡ known_result u from sign selector
result_is u table None sign selector e = refl
result_is u table (Some class) sign selector e = ap (option_or (counting_given selector)) (among_is u table (Some class) sign selector e)

-- the class of what functions give
pub function_class_is : (u : UnitTree) (table : ClassTable) (name : List ℕ) → ((sought : List ℕ) → class_number_in table.names sought ≡ class_number u.interfaces sought)
    → function_kept table.first_functions name ≡ first_named name u.functions → function_class_in table name ≡ class_of_result u name
function_class_is u table name same e =
    ap (option_and_then (λ f. result_class_in table.names f.result)) e
    ∙ ap (λ (class : FunctionTree → Option ClassId). option_and_then class (first_named name u.functions)) (fun_ext (λ f. result_class_same table.names u.interfaces same f.result))

-- what any object gives
pub any_is : (u : UnitTree) (table : ClassTable) (selector : List ℕ) → head_in table.declared signs.Instance selector ≡ first_head signs.Instance selector (declared u.interfaces)
    → head_in table.defined signs.Instance selector ≡ first_head signs.Instance selector (defined u.implementations) → any_result_in table selector ≡ any_result u selector
any_is u table selector d e =
    let one : result_at table.declared signs.Instance selector ≡ option_map result_of (first_head signs.Instance selector (declared u.interfaces)) = sym (result_kept table.declared signs.Instance selector) ∙ ap (option_map result_of) d in
    let other : result_at table.defined signs.Instance selector ≡ option_map result_of (first_head signs.Instance selector (defined u.implementations)) = sym (result_kept table.defined signs.Instance selector) ∙ ap (option_map result_of) e in
    ap (option_or (counting_result selector))
    (ap (λ o. option_or o (option_or (result_at table.defined signs.Instance selector) (built_in_result signs.Instance selector))) one
    ∙ ap (λ o. option_or (option_map result_of (first_head signs.Instance selector (declared u.interfaces))) (option_or o (built_in_result signs.Instance selector))) other)
