use Rattle.std.proofs.Common.{◌≡◌, is_some, option_map, refl, sym, ap, ◌∙◌}
use Rattle.arc_class.specs.Table.{number_of_class}
use Rattle.arc_judge.specs.Fault.{reported}
use Rattle.arc_scope.specs.Scopes.{own_class}
use Rattle.arc_scope.specs.Views.{seen}
use Rattle.arc_judge.proofs.ExpressionViolations.{is_some-class, itself_object, itself_refused}
use Rattle.arc_judge.proofs.judge.judge_itself.Goals as goal

pub returns-then-is_some : goal.returns-then-is_some
returns-then-is_some c = λ table.
    let s = seen table c.args.visible.now in
    let own : option_map number_of_class c.own_class-class.result ≡ own_class s = c.own_class-class.ensures table in
    itself_object s c.args.before c.args.at c.variable_read.result (ap is_some (sym own) ∙ is_some-class c.own_class-class.result ∙ sym c.is_some.ensures ∙ c.if-is_some.true) (ap (λ j. j.kind) c.variable_read.ensures) (ap (λ j. option_map number_of_class j.class) c.variable_read.ensures ∙ own)
    (ap (λ j. option_map reported j.fault) c.variable_read.ensures) (ap (λ j. j.taken) c.variable_read.ensures) (ap (λ j. j.unread) c.variable_read.ensures)

pub returns-then-is_some-2 : goal.returns-then-is_some-2
returns-then-is_some-2 c = λ table.
    let s = seen table c.args.visible.now in
    itself_refused s c.args.before c.args.at c.number.result 43 (ap is_some (sym (c.own_class-class.ensures table)) ∙ is_some-class c.own_class-class.result ∙ sym c.is_some.ensures ∙ c.if-is_some.false)
    (rw (is_some-class c.args.visible.now.class ∙ sym c.is_some-else-is_some.ensures ∙ c.if-is_some-2.true) refl) (ap (λ j. j.kind) c.number.ensures) (ap (λ j. j.class) c.number.ensures) (ap (λ j. option_map reported j.fault) c.number.ensures) (ap (λ j. j.taken) c.number.ensures) (ap (λ j. j.unread) c.number.ensures)
