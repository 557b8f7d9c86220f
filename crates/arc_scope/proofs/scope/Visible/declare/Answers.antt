use Rattle.std.proofs.Common.{sym, ap, ◌∙◌, cond}
use Rattle.std.proofs.lemmas.Result.{on_ok_weaker}
use Rattle.arc_ast.specs.Tree.{type_tree}
use Rattle.arc_scope.specs.Scopes.{has_place, with_object, declare}
use Rattle.arc_scope.specs.Views.{seen}
use Rattle.arc_scope.proofs.scope.Visible.declare.Goals as goal

pub returns-in-Bool-clause-scope : goal.returns-in-Bool-clause-scope
returns-in-Bool-clause-scope c = on_ok_weaker c.declare_number.result (λ h. h c.args.table.now ∙ ap (λ t. declare c.args.name.now (type_tree t) (seen c.args.table.now c.args.self.now)) (sym c.in-Bool.is)) c.declare_number.ensures.scope

pub returns-in-Int-clause-scope : goal.returns-in-Int-clause-scope
returns-in-Int-clause-scope c = on_ok_weaker c.declare_number-in-Int.result (λ h. h c.args.table.now ∙ ap (λ t. declare c.args.name.now (type_tree t) (seen c.args.table.now c.args.self.now)) (sym c.in-Int.is)) c.declare_number-in-Int.ensures.scope

pub returns-in-Long-clause-scope : goal.returns-in-Long-clause-scope
returns-in-Long-clause-scope c = on_ok_weaker c.declare_number-in-Long.result (λ h. h c.args.table.now ∙ ap (λ t. declare c.args.name.now (type_tree t) (seen c.args.table.now c.args.self.now)) (sym c.in-Long.is)) c.declare_number-in-Long.ensures.scope

pub returns-in-Id-clause-scope : goal.returns-in-Id-clause-scope
returns-in-Id-clause-scope c = on_ok_weaker c.declare_object.result (λ h. h c.args.table.now ∙ ap (λ t. declare c.args.name.now (type_tree t) (seen c.args.table.now c.args.self.now)) (sym c.in-Id.is)) c.declare_object.ensures.scope

pub returns-in-Object-clause-scope : goal.returns-in-Object-clause-scope
returns-in-Object-clause-scope c =
    let table = c.args.table.now in
    let s = seen table c.args.self.now in
    on_ok_weaker c.declare_object-in-Object.result (λ h. h table ∙ ap (λ class. cond (has_place s) (with_object c.args.name.now class s) s) (c.objc_get_class.ensures ∙ ap s.known.class c.deref.ensures.value)
    ∙ ap (λ t. declare c.args.name.now (type_tree t) s) (sym c.in-Object.is)) c.declare_object-in-Object.ensures.scope
