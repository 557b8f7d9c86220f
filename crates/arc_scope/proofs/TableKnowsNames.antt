-- What a table knows of names is what is known of its source.
use Rattle.std.proofs.Common.{◌≡◌, ℕ, Bool, List, Option, option_map, refl, ap}
use Rattle.std.proofs.Math.Path.{fun_ext}
use Rattle.arc_ast.specs.declared.tree.Kind.{Kind}
use Rattle.arc_ast.specs.declared.tree.Sign.{Sign}
use Rattle.arc_ast.specs.Tree.{UnitTree}
use Rattle.arc_class.specs.declared.table.ClassTable.{ClassTable}
use Rattle.arc_class.specs.declared.table.Declared.{Declared}
use Rattle.arc_class.specs.declared.table.FoundField.{FoundField}
use Rattle.arc_class.specs.declared.table.MethodResult.{MethodResult}
use Rattle.arc_class.specs.declared.table.Variable.{Variable}
use Rattle.arc_class.specs.Table.{IsTableOf, number_of_class}
use Rattle.arc_scope.specs.Scopes.{Known}
use Rattle.arc_scope.specs.KnownNames.{known_of}
use Rattle.arc_scope.specs.Views.{known_in}
use Rattle.arc_spec.specs.Classes.{descends}

abbrev names : (List ℕ → Option Declared) → (List ℕ → Option Variable) → (List ℕ → List Kind) → (Sign → List ℕ → List Kind) → (List ℕ → Option ℕ) → (ℕ → Option ℕ) → (Option ℕ → ℕ → Bool) → (List ℕ → Option ℕ) → (Option ℕ → Sign → List ℕ → Option MethodResult) → (List ℕ → Option Kind) → (List ℕ → Option ℕ) → (Option ℕ → List ℕ → Option FoundField) → Known
names function global parameters passed class superclass descends given result any selector field =
    record { function = function; global = global; parameters = parameters; passed = passed; class = class; superclass = superclass; descends = descends; function_class = given; result = result; result_of_any = any; selector = selector; field = field }

names_are : (f g : List ℕ → Option Declared) (o p : List ℕ → Option Variable) (h i : List ℕ → List Kind) (j k : Sign → List ℕ → List Kind) (c d : List ℕ → Option ℕ) (s t : ℕ → Option ℕ) (x y : Option ℕ → ℕ → Bool) (z l : List ℕ → Option ℕ) (r q : Option ℕ → Sign → List ℕ → Option MethodResult) (a b : List ℕ → Option Kind) (m n : List ℕ → Option ℕ) (v w : Option ℕ → List ℕ → Option FoundField)
    → f ≡ g → o ≡ p → h ≡ i → j ≡ k → c ≡ d → s ≡ t → x ≡ y → z ≡ l → r ≡ q → a ≡ b → m ≡ n → v ≡ w → names f o h j c s x z r a m v ≡ names g p i k d t y l q b n w
names_are f g o p h i j k c d s t x y z l r q a b m n v w e1 e0 e2 e3 e4 e5 e6 e7 e8 e9 e10 e11 = rw (e1, e0, e2, e3, e4, e5, e6, e7, e8, e9, e10, e11) refl

pub known_is : (u : UnitTree) (table : ClassTable) → IsTableOf u table → known_in table ≡ known_of u
known_is u table t =
    names_are _ _ _ _ _ _ _ _ _ _ _ _ _ _ _ _ _ _ _ _ _ _ _ _ (fun_ext t.knows) (fun_ext t.globals) (fun_ext t.parameters) (fun_ext (λ sign. fun_ext (t.passed sign))) (fun_ext t.numbers) (fun_ext t.superclasses) (ap descends t.classes) (fun_ext (λ name. ap (option_map number_of_class) (t.function_classes name))) (fun_ext (λ from. fun_ext (λ sign. fun_ext (t.results from sign)))) (fun_ext t.any_results) (fun_ext t.selectors)
    (fun_ext (λ class. fun_ext (t.named class)))
