use Rattle.std.proofs.Common.{ap, ◌∙◌}
use Rattle.std.specs.List.{filter_map}
use Rattle.arc_ast.specs.Tree.{function_trees}
use Rattle.arc_resolve.specs.SourceResolution.{resolved_function}
use Rattle.arc_scope.specs.Scopes.{outermost}
use Rattle.arc_scope.specs.Views.{known_in, seen}
use Rattle.arc_resolve.proofs.StatementResolution.{functions_turn, functions_pass, functions_end}
use Rattle.arc_resolve.proofs.program.functions.Goals as goal
use Rattle.arc_resolve.proofs.program.functions.Goals.{in-Some+in_ok-function+in_ok-keep, in_default}

pub loop-one-preserved : goal.loop-one-preserved
loop-one-preserved c =
    let known = known_in c.args.table.now in
    let xs = c.args.declared.now in
    let i = c.loop-one.one-index in
    let x = c.one-item.result in
    let whole = filter_map (resolved_function known) (function_trees xs) in
    elim c.match-one.branch [
      | in-Some+in_ok-function+in_ok-keep w ↦ functions_turn known xs i x w.named_parameters-named.result.now w.in-Some.body w.deref.result.now c.loop-one.all.items w.keep.new.all c.match-one.all w.in_ok-function.field-0 (seen c.args.table.now w.new-visible.result) whole c.loop-one-test.true c.one-item.is w.in-Some.is w.deref.ensures.value
          w.named_parameters-named.ensures (w.new-visible.ensures c.args.table.now ∙ ap (outermost known) w.kind.ensures) w.in_ok-function.ensures w.in_ok-keep.ensures.items w.all-is c.loop-one.invariant
      | in_default w ↦ functions_pass known xs i x c.loop-one.all.items c.match-one.all.items whole c.loop-one-test.true c.one-item.is w.in_default.is (ap (λ v. v.items) w.all-is) c.loop-one.invariant
    ]

pub returns : goal.returns
returns c =
    let known = known_in c.args.table.now in
    functions_end known c.args.declared.now c.loop-one.one-index c.loop-one.all.items (filter_map (resolved_function known) (function_trees c.args.declared.now)) c.loop-one-test.false c.loop-one.invariant
