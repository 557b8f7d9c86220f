-- Lists of trees, whatever they are of.
use Rattle.std.proofs.Common.{◌≡◌, List, [], ◌∷◌, ◌++◌, refl, ap, ◌∙◌}
use Rattle.arc_ast.specs.declared.tree.Expr.{Expr}
use Rattle.arc_ast.specs.declared.tree.Stmt.{Stmt}
use Rattle.arc_ast.specs.declared.tree.Variable.{Variable}
use Rattle.arc_ast.specs.declared.tree.Parameter.{Parameter}
use Rattle.arc_ast.specs.declared.tree.MethodHead.{MethodHead}
use Rattle.arc_ast.specs.declared.tree.Method.{Method}
use Rattle.arc_ast.specs.declared.tree.Field.{Field}
use Rattle.arc_ast.specs.declared.tree.Global.{Global}
use Rattle.arc_ast.specs.declared.tree.Function.{Function}
use Rattle.arc_ast.specs.declared.tree.Interface.{Interface}
use Rattle.arc_ast.specs.declared.tree.Implementation.{Implementation}
use Rattle.arc_ast.specs.Tree as tree
use Rattle.arc_form.specs.Views.{all}
use Rattle.arc_grammar.specs.Grammar as grammar

module _ {A T : Type 0} (of : A → T) (trees : List A → List T) (none : trees [] ≡ []) (more : (a : A) (l : List A) → trees (a ∷ l) ≡ of a ∷ trees l) where
  all_is : (l : List A) → trees l ≡ all of l
  all_is [] = none
  all_is (a ∷ l) = more a l ∙ ap (λ v. of a ∷ v) (all_is l)

  append_is : (l m : List A) → trees (l ++ m) ≡ trees l ++ trees m
  append_is [] m = rw none refl
  append_is (a ∷ l) m = rw (more a (l ++ m), more a l) (ap (λ v. of a ∷ v) (append_is l m))

pub exprs_all : (l : List Expr) → grammar.exprs (all tree.expr_tree l) ≡ tree.expr_trees l
exprs_all [] = refl
exprs_all (a ∷ l) = ap (tree.and_expr (tree.expr_tree a)) (exprs_all l)

pub stmts_all : (l : List Stmt) → grammar.stmts (all tree.stmt_tree l) ≡ tree.stmt_trees l
stmts_all [] = refl
stmts_all (a ∷ l) = ap (tree.and_stmt (tree.stmt_tree a)) (stmts_all l)

-- lists of trees, as those of what was made
pub alls : ((l : List Variable) → tree.variable_trees l ≡ all tree.variable_tree l) × ((l : List Parameter) → tree.parameter_trees l ≡ all tree.parameter_tree l)
    × ((l : List MethodHead) → tree.head_trees l ≡ all tree.head_tree l) × ((l : List Method) → tree.method_trees l ≡ all tree.method_tree l)
alls = (
  all_is tree.variable_tree tree.variable_trees refl (λ a l. refl),
  all_is tree.parameter_tree tree.parameter_trees refl (λ a l. refl),
  all_is tree.head_tree tree.head_trees refl (λ a l. refl),
  all_is tree.method_tree tree.method_trees refl (λ a l. refl),
)

-- and one after another
pub appends : ((l m : List Field) → tree.field_trees (l ++ m) ≡ tree.field_trees l ++ tree.field_trees m) × ((l m : List Global) → tree.global_trees (l ++ m) ≡ tree.global_trees l ++ tree.global_trees m)
    × ((l m : List Function) → tree.function_trees (l ++ m) ≡ tree.function_trees l ++ tree.function_trees m) × ((l m : List Interface) → tree.interface_trees (l ++ m) ≡ tree.interface_trees l ++ tree.interface_trees m)
    × ((l m : List Implementation) → tree.implementation_trees (l ++ m) ≡ tree.implementation_trees l ++ tree.implementation_trees m)
appends = (
  append_is tree.field_tree tree.field_trees refl (λ a l. refl),
  append_is tree.global_tree tree.global_trees refl (λ a l. refl),
  append_is tree.function_tree tree.function_trees refl (λ a l. refl),
  append_is tree.interface_tree tree.interface_trees refl (λ a l. refl),
  append_is tree.implementation_tree tree.implementation_trees refl (λ a l. refl),
)
