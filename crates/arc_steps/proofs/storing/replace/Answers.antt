use Rattle.std.proofs.Common.{◌≡◌}
use Rattle.std.proofs.lemmas.Bool.{false≢true}
use Rattle.arc_cells.specs.Representation.{IsLast}
use Rattle.arc_steps.proofs.ReplacementBlocks.{replaced_block, replaced_few}
use Rattle.arc_steps.proofs.storing.replace.Goals as goal
use Rattle.arc_steps.proofs.storing.replace.Goals.{else-before-object-via-then-before-object+else-is_last, else-before-object-via-else-before-object}

pub raise-requires-clause-object : goal.raise-requires-clause-object
raise-requires-clause-object g c = replaced_block g.S.Store.out c.args.objects.now c.args.before c.args.object c.requires.can c.lower.new.self c.lower.ensures

pub raise-requires-clause-fits : goal.raise-requires-clause-fits
raise-requires-clause-fits g c = replaced_few g.S.Store.out c.args.objects.now c.args.before c.args.object c.requires.can c.lower.new.self c.lower.ensures

pub returns : goal.returns
returns g c =
    let others_hold = elim c.else-before-object.branch as (λ _. IsLast (g.S.Store.out c.args.objects.now.store) c.args.before → c.args.before ≡ c.args.object) [
      | else-before-object-via-then-before-object+else-is_last w ↦ λ last. absurd (false≢true (w.if-is_last.ensures.1 last))
      | else-before-object-via-else-before-object w ↦ λ last. w.if-before-object.false
    ] in
    record { others_hold = others_hold; low = c.lower.new.self; lowered = c.lower.ensures; raised = c.raise.ensures }
