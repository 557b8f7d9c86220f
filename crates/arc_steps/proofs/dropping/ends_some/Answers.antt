use Rattle.std.proofs.Common.{◌≡◌, inl, inr, Some, refl, sym, ap, ◌∙◌, subst, arith}
use Rattle.std.specs.Prelude.{slice_get}
use Rattle.std.proofs.lemmas.Bool.{cases_eq, false≢true}
use Rattle.arc_steps.specs.Releases.{IsAlone}
use Rattle.arc_steps.proofs.WordsNameObjects.{take_get}
use Rattle.arc_steps.proofs.TemporaryDropSteps.{can_block}
use Rattle.arc_steps.proofs.dropping.ends_some.Goals as goal

pub is_alone-requires-clause-object : goal.is_alone-requires-clause-object
is_alone-requires-clause-object g c =
    can_block (g.S.Store.out c.args.objects.now.store) _ c.loop-depth.depth c.temporary.result c.requires.can (take_get c.args.objects.now.places c.args.objects.now.temporaries c.loop-depth.depth c.temporary.result (omega arith) c.temporary.ensures)

pub loop-depth-preserved : goal.loop-depth-preserved
loop-depth-preserved g c = λ d word below found alone. elim (cases_eq d c.loop-depth.depth) [
  | inl same ↦ (let both : Some word ≡ Some c.temporary.result = sym found ∙ ap (slice_get c.args.objects.now.places) same ∙ c.temporary.ensures in
      let is : word ≡ c.temporary.result = cc in
      absurd (false≢true (c.if-is_alone.ensures.1 (subst (λ w. IsAlone g.S.Store.out c.args.objects.now w) is alone))))
  | inr other ↦ c.loop-depth.invariant d word (omega arith) found alone
]

pub returns-then-is_alone : goal.returns-then-is_alone
returns-then-is_alone g c = (
  λ _. record { depth = c.loop-depth.depth; word = c.temporary.result; below = omega arith; there = c.temporary.ensures; alone = c.if-is_alone.ensures.0 refl },
  λ _. refl,
)

pub returns : goal.returns
returns g c = (λ e. absurd (false≢true e), λ e. let below = e.below in absurd (c.loop-depth.invariant e.depth e.word (omega arith) e.there e.alone))
