-- The children of a node that stand in a Vec, as a list.
use Rattle.std.proofs.Common.{◌≡◌, ℕ, suc, List, [], ◌∷◌, length, Vec, Box, Global, refl, ap, ◌∙◌}
use mathlib.Core.Former.{Count}
use Rattle.arc_ast.specs.declared.tree.Expr.{Expr, Call, Call', Send, Send', SendSuper, SendSuper', Row_of-Expr, end_of-Expr, more_of-Expr, items-the_row-Expr, items_hidden-the_row-Expr-0}
use Rattle.arc_ast.specs.declared.tree.Stmt.{Stmt, Block, Block', Row_of-Stmt, end_of-Stmt, more_of-Stmt, items-the_row-Stmt, items_hidden-the_row-Stmt-0}
use Rattle.arc_ast.specs.declared.tree.Parameter.{Parameter}
use Rattle.arc_ast.specs.declared.tree.Method.{Method}
use Rattle.arc_ast.specs.declared.tree.Field.{Field}
use Rattle.arc_ast.specs.Tree.{and_expr, expr_tree, expr_trees, row_exprs, and_stmt, stmt_tree, stmt_trees, row_stmts, parameter_trees, method_trees, field_trees}
use Rattle.arc_ast.specs.Tree as tree

abbrev arguments_of : Expr → (n : Count) × Row_of-Expr n
arguments_of (Call' at name _ row) = (_, row)
arguments_of (Send' at part q receiver selector _ row) = (_, row)
arguments_of (SendSuper' at part super_at selector _ row) = (_, row)
arguments_of _ = (_, end_of-Expr)

row_exprs_is : (n : _) (row : Row_of-Expr n) → row_exprs row ≡ expr_trees (items-the_row-Expr n row)
row_exprs_is n end_of-Expr = refl
row_exprs_is n (more_of-Expr a row) = ap (and_expr (expr_tree a)) (row_exprs_is _ row)

-- a call's arguments
pub call_tree : (at : ℕ) (name : Vec ℕ Global) (all : Vec Expr Global) → expr_tree (Call at name all) ≡ tree.Call at name.items (expr_trees all.items)
call_tree at name all =
    let row = arguments_of (Call at name all) in
    ap (tree.Call at name.items) (row_exprs_is row.0 row.1 ∙ ap expr_trees (items_hidden-the_row-Expr-0 all))

-- a message's arguments
pub send_tree : (at part : ℕ) (receiver : Box Expr Global) (selector : Vec ℕ Global) (all : Vec Expr Global)
    → expr_tree (Send at part receiver selector all) ≡ tree.Send at part (expr_tree receiver.value) selector.items (expr_trees all.items)
send_tree at part receiver selector all =
    let row = arguments_of (Send at part receiver selector all) in
    ap (tree.Send at part (expr_tree receiver.value) selector.items) (row_exprs_is row.0 row.1 ∙ ap expr_trees (items_hidden-the_row-Expr-0 all))

-- the arguments of a message to `super`
pub send_super_tree : (at part super_at : ℕ) (selector : Vec ℕ Global) (all : Vec Expr Global)
    → expr_tree (SendSuper at part super_at selector all) ≡ tree.SendSuper at part super_at selector.items (expr_trees all.items)
send_super_tree at part super_at selector all =
    let row = arguments_of (SendSuper at part super_at selector all) in
    ap (tree.SendSuper at part super_at selector.items) (row_exprs_is row.0 row.1 ∙ ap expr_trees (items_hidden-the_row-Expr-0 all))

abbrev statements_of : Stmt → (n : Count) × Row_of-Stmt n
statements_of (Block' at _ row) = (_, row)
statements_of _ = (_, end_of-Stmt)

row_stmts_is : (n : _) (row : Row_of-Stmt n) → row_stmts row ≡ stmt_trees (items-the_row-Stmt n row)
row_stmts_is n end_of-Stmt = refl
row_stmts_is n (more_of-Stmt a row) = ap (and_stmt (stmt_tree a)) (row_stmts_is _ row)

-- a block's statements
pub block_tree : (at : ℕ) (all : Vec Stmt Global) → stmt_tree (Block at all) ≡ tree.Block at (stmt_trees all.items)
block_tree at all =
    let row = statements_of (Block at all) in
    ap (tree.Block at) (row_stmts_is row.0 row.1 ∙ ap stmt_trees (items_hidden-the_row-Stmt-0 all))

-- a list of trees is as long as that of what it is of
pub length-parameter_trees : (all : List Parameter) → length (parameter_trees all) ≡ length all
length-parameter_trees [] = refl
length-parameter_trees (p ∷ all) = ap suc (length-parameter_trees all)

pub length-method_trees : (all : List Method) → length (method_trees all) ≡ length all
length-method_trees [] = refl
length-method_trees (m ∷ all) = ap suc (length-method_trees all)

pub length-field_trees : (all : List Field) → length (field_trees all) ≡ length all
length-field_trees [] = refl
length-field_trees (f ∷ all) = ap suc (length-field_trees all)
