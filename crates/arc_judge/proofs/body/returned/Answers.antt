use Rattle.std.proofs.Common.{ℕ, [], ◌∷◌, Some, sym, ap, ◌∙◌, option_map}
use Rattle.arc_ast.specs.Tree.{expr_tree, place}
use Rattle.arc_class.specs.BrokenRules.{Broken}
use Rattle.arc_class.proofs.FirstBrokenRule.{first_both}
use Rattle.arc_judge.specs.Fault.{reported}
use Rattle.arc_judge.specs.Rules.{broken_whole}
use Rattle.arc_scope.specs.Views.{seen}
use Rattle.arc_judge.proofs.body.returned.Goals as goal

abbrev mismatch : ℕ → Broken
mismatch at = record { at = at; number = 43 }

pub returns-then-is_void : goal.returns-then-is_void
returns-then-is_void c =
    let s = seen c.args.table.now c.args.visible.now in
    let a = expr_tree c.in-Some.expr in
    rw (c.in-Some.is, sym c.is_void.ensures ∙ c.if-is_void.true) (first_both (broken_whole s a) (mismatch (place a) ∷ []) (option_map reported c.judge_whole-judged.result.fault) (Some (mismatch c.place.result)) (option_map reported c.earlier.result) c.judge_whole-judged.ensures.fault (ap (λ at. Some (mismatch at)) c.place.ensures) c.earlier.ensures)

pub returns-else-is_void : goal.returns-else-is_void
returns-else-is_void c = rw (c.in-Some.is, sym c.is_void.ensures ∙ c.if-is_void.false) c.result_fault.ensures
