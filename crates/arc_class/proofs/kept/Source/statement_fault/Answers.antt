use Rattle.std.proofs.Common.{List, false, [], ◌++◌, append-nil, ap, sym, ◌∙◌}
use Rattle.std.proofs.lemmas.Result.{IfOk-weaker}
use Rattle.arc_ast.specs.declared.tree.Stmt.{Stmt}
use Rattle.arc_ast.specs.Tree.{unit_tree, type_tree, variable_trees, stmt_tree, stmt_trees}
use Rattle.arc_ast.proofs.Trees.{block_tree}
use Rattle.arc_sites.specs.Sites.{Node, InSource, Statement}
use Rattle.arc_class.specs.BrokenRules.{Broken, first}
use Rattle.arc_class.specs.SiteRules.{all_declared, repeated, unknown_class, violations}
use Rattle.arc_class.proofs.FirstBrokenRule.{first_both}
use Rattle.arc_class.proofs.kept.Source.statement_fault.Goals as goal

pub returns-in-Block : goal.returns-in-Block
returns-in-Block c knows =
    let own : List Stmt → List Broken = λ us. repeated (λ name. false) (all_declared (stmt_trees us)) in
    let at : Node → List Broken = violations (unit_tree c.args.self.now.unit.now) InSource in
    IfOk-weaker c.block_fault.result _ _
    (λ fault e. e ∙ ap (λ us. first (own us)) c.deref.ensures.value ∙ ap first (sym (append-nil (own c.in-Block.all.items)))
    ∙ sym (ap (λ s. first (at (Statement s))) (ap stmt_tree c.in-Block.is ∙ block_tree c.in-Block.field-0 c.in-Block.all))) c.block_fault.ensures

pub returns-in_ok-own-in-Variables : goal.returns-in_ok-own-in-Variables
returns-in_ok-own-in-Variables c knows =
    let own = repeated (λ name. false) (variable_trees c.in-Variables.all.items) in
    let types = unknown_class (unit_tree c.args.self.now.unit.now) (type_tree c.in-Variables.written) in
    rw c.in-Variables.is (first_both own types _ _ _ (c.in_ok-own-in-Variables.ensures ∙ ap (λ us. first (repeated (λ name. false) (variable_trees us))) c.deref-in-Variables.ensures.value)
    (c.type_fault.ensures knows) c.earlier.ensures ∙ ap (λ bs. first (own ++ bs)) (sym (append-nil (types ++ []) ∙ append-nil types)))
