-- Names that stand in a scope, and variables whose names stand there already.
use Rattle.std.proofs.Common.{◌≡◌, ℕ, ◌+◌, ◌<◌, Bool, true, false, ◌||◌, List, [], ◌∷◌, ◌++◌, length, get_or, drop, append_assoc, Option, Some, is_some, cond, refl, sym, ap, ◌∙◌, arith}
use Rattle.std.proofs.Math.Path.{fun_ext}
use Rattle.std.specs.Map.{update}
use Rattle.std.specs.Str.{bytes_eq}
use Rattle.arc_ast.specs.declared.tree.Stmt.{Stmt}
use Rattle.arc_ast.specs.declared.tree.Variable.{Variable}
use Rattle.arc_ast.specs.Tree.{VariableTree, variable_trees, stmt_tree, stmt_trees}
use Rattle.arc_class.specs.BrokenRules.{Broken, broken_if, first, earlier_of}
use Rattle.arc_class.specs.NameMaps.{Named}
use Rattle.arc_class.specs.SiteRules.{declared_in, all_declared, repeated}
use Rattle.arc_class.specs.private.Scopes.{and_name, no_name, names_with, holds}
use Rattle.arc_class.specs.Table.{at_name}
use Rattle.arc_class.proofs.FirstBrokenRule.{first_turn}
use Rattle.arc_class.proofs.ListSuffixes.{drop_turn}

added : (b : Bool) (o : Option (Unit {0})) → is_some (cond b (Some tt) o) ≡ (b || is_some o)
added true o = refl
added false o = refl

pub holds-more : (name : List ℕ) (m n : Named (Unit {0})) → ((sought : List ℕ) → at_name n sought ≡ update bytes_eq (at_name m) name (Some tt) sought) → holds n ≡ and_name name (holds m)
holds-more name m n h = fun_ext (λ q. ap is_some (h q) ∙ added (bytes_eq name q) (at_name m q))

pub holds-none : (m : Named (Unit {0})) → m ≡ [] → holds m ≡ no_name
holds-none m e = fun_ext (λ q. rw e refl)

-- what is repeated among variables and then others
pub repeated-append : (names : List ℕ → Bool) (xs ys : List VariableTree) → repeated names (xs ++ ys) ≡ repeated names xs ++ repeated (names_with names xs) ys
repeated-append names [] ys = refl
repeated-append names (v ∷ xs) ys =
    let own = broken_if (names v.name) v.at 21 in
    let more = and_name v.name names in
    ap (λ others. own ++ others) (repeated-append more xs ys) ∙ sym (append_assoc own (repeated more xs) (repeated (names_with more xs) ys))

-- one variable more is put into a scope, of a list whose elements stand for variables
pub variable_turn : {A : Type 0} (trees : List A → List VariableTree) (v : VariableTree) (names after all : List ℕ → Bool) (xs : List A) (i : ℕ) (x : A) (name : List ℕ) (so_far one now whole : Option Broken)
    → trees (x ∷ drop (i + 1) xs) ≡ v ∷ trees (drop (i + 1) xs) → i < length xs → x ≡ get_or xs i x → name ≡ v.name → one ≡ first (broken_if (names name) v.at 21) → after ≡ and_name name names → now ≡ earlier_of so_far one
    → whole ≡ earlier_of so_far (first (repeated names (trees (drop i xs)))) → all ≡ names_with names (trees (drop i xs))
    → (whole ≡ earlier_of now (first (repeated after (trees (drop (i + 1) xs))))) × (all ≡ names_with after (trees (drop (i + 1) xs)))
variable_turn trees v names after all xs i x name so_far one now whole t l e r o a n w m =
    let rest = trees (drop (i + 1) xs) in
    let split = ap trees (drop_turn xs i x l e) ∙ t in
    let more = a ∙ ap (λ n. and_name n names) r in (
      first_turn (broken_if (names v.name) v.at 21) (repeated (and_name v.name names) rest) so_far one now whole (o ∙ ap (λ n. first (broken_if (names n) v.at 21)) r) n (w ∙ ap (λ us. earlier_of so_far (first (repeated names us))) split)
          ∙ ap (λ p. earlier_of now (first (repeated p rest))) (sym more),
      m ∙ ap (names_with names) split ∙ ap (λ p. names_with p rest) (sym more),
    )

-- what one statement more declares is put into a scope
pub statement_turn : (vs : List VariableTree) (names after : List ℕ → Bool) (xs : List Stmt) (i : ℕ) (x : Stmt) (so_far one now whole : Option Broken)
    → declared_in (stmt_tree x) ≡ vs → i < length xs → x ≡ get_or xs i x → one ≡ first (repeated names vs) → after ≡ names_with names vs → now ≡ earlier_of so_far one
    → whole ≡ earlier_of so_far (first (repeated names (all_declared (stmt_trees (drop i xs))))) → whole ≡ earlier_of now (first (repeated after (all_declared (stmt_trees (drop (i + 1) xs)))))
statement_turn vs names after xs i x so_far one now whole d l e o a n w =
    let rest = all_declared (stmt_trees (drop (i + 1) xs)) in
    first_turn (repeated names vs) (repeated (names_with names vs) rest) so_far one now whole o n
    (w ∙ ap (λ us. earlier_of so_far (first (repeated names (all_declared (stmt_trees us))))) (drop_turn xs i x l e)
    ∙ ap (λ us. earlier_of so_far (first (repeated names (us ++ rest)))) d ∙ ap (λ bs. earlier_of so_far (first bs)) (repeated-append names vs rest))
    ∙ ap (λ p. earlier_of now (first (repeated p rest))) (sym a)

-- a name is repeated only where there are two variables
pub few-repeated : (xs : List Variable) → length xs < 2 → repeated no_name (variable_trees xs) ≡ []
few-repeated [] l = refl
few-repeated (x ∷ []) l = refl
few-repeated (x ∷ y ∷ xs) l = absurd (omega (arith, l))
