use Rattle.std.proofs.Common.{◌≡◌, IfOk, Option, option_map, subst}
use Rattle.arc_ast.specs.Tree.{parameter_trees}
use Rattle.arc_class.specs.BrokenRules.{Broken}
use Rattle.arc_judge.specs.Fault.{reported}
use Rattle.arc_scope.specs.Views.{known_in, seen}
use Rattle.arc_judge.proofs.StatementViolations.{body_is}
use Rattle.arc_judge.proofs.body.body.Goals as goal

pub returns : goal.returns
returns c =
    let table = c.args.table.now in
    let P : Option Broken → Type 0 = λ b. IfOk c.inside.result (λ fault. option_map reported fault ≡ b) in
    subst P (body_is c.args.gives (known_in table) (seen table c.new-visible.result) (parameter_trees c.args.named.now) c.args.all.now c.in-Some.all c.deref.result.now c.in-Some.is c.deref.ensures.value (c.new-visible.ensures table)) c.inside.ensures
