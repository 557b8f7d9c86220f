use Rattle.std.proofs.Common.{◌≡◌, arith, rules, refl, ap, ◌∙◌, sym, add-one}
use Rattle.arc_steps.specs.declared.answer.Answer.TheVariants as answer
use Rattle.arc_steps.specs.Views.{Seen}
use Rattle.arc_turns.proofs.RunExtendedByStep.{turned_start}
use Rattle.arc_turns.proofs.QuietStepsCompose.{turned_silently, advanced}
use Rattle.arc_machine.proofs.machine.Machine.run.Goals as goal

pub loop-turns-init : goal.loop-turns-init
loop-turns-init g c =
    let engine = c.self.inside.engine in
    let going : engine.answer ≡ answer.Going = search rules in
    record {
      few = omega arith;
      going = ap (λ (m : Seen g.row.S.Denot). m.answer) (sym c.self.view_is) ∙ going;
      turned = turned_start g.S.Store.out g.S.Store.stock g.S.Store.refuses _ engine _ _ _ _ _ _ c.self.view_is going c.self.invariant;
      none = λ _. (c.self.view_is, refl, refl);
      room = λ some. absurd (omega arith);
    }

pub loop-turns-preserved : goal.loop-turns-preserved
loop-turns-preserved g c =
    let engine = c.loop-turns.self-inside.engine in
    let going : engine.answer ≡ answer.Going = search rules in
    let s = c.run_silently-turns.ensures in
    let h = c.loop-turns.invariant in
    let all = h.turned.all going in
    let silent_run = turned_silently g.S.Store.out g.S.Store.stock g.S.Store.refuses _ engine _ _ _ _ _ _ _ _ _ _ _ _ _ h.turned going s.silent_run s.sound in
    let e = c.advance.ensures in
    record {
      few = omega arith;
      going = h.going;
      turned = rw add-one (advanced g.S.Store.out g.S.Store.stock g.S.Store.refuses _ _ _ _ _ _ _ _ _ _ _ _ _ _ _ _ _ _ _ _ _ silent_run (s.silent_run.answer ∙ going) c.advance.result e.ok e.fine e.err e.cause);
      none = λ none. absurd (omega arith);
      room = λ some. omega arith;
    }

pub loop-turns-smaller : goal.loop-turns-smaller
loop-turns-smaller g c = omega arith

pub returns-clause-moves : goal.returns-clause-moves
returns-clause-moves g c going foreign s is sound =
    let h = c.loop-turns.invariant in
    let (made, taken, trace, few, moves) = h.turned.runs foreign s is sound in
    (made, taken, trace, omega (arith, few, h.few), moves)
