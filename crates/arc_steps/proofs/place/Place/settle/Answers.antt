use Rattle.std.proofs.Common.{◌+◌, ◌∙◌, length, refl, sym, ap, subst}
use Rattle.std.proofs.lemmas.Bool.{false≢true}
use Rattle.arc_code.specs.CodeSteps.{program_of}
use Rattle.arc_cells.specs.Cells.{Cell, IsCell}
use Rattle.arc_cells.specs.Representation.{Parts}
use Rattle.arc_steps.specs.Releases.{Begins}
use Rattle.arc_steps.specs.Places.{machine_view}
use Rattle.arc_steps.proofs.SettleSimulation.{settle_block, settle_count, settle_object, settle_went, settle_stopped, settle_ended}
use Rattle.arc_steps.proofs.place.Place.settle.Goals as goal

pub is_last-requires : goal.is_last-requires
is_last-requires g c = record { object = settle_block g.S.Store.out (program_of c.args.code.now) (machine_view c.args.self.now c.args.objects.now) _ c.temporary-before.ensures c.requires.ready }

pub lower-requires-clause-object : goal.lower-requires-clause-object
lower-requires-clause-object g c = settle_block g.S.Store.out (program_of c.args.code.now) (machine_view c.args.self.now c.args.objects.now) _ c.temporary-before.ensures c.requires.ready

pub lower-requires-clause-some : goal.lower-requires-clause-some
lower-requires-clause-some g c = settle_count g.S.Store.out (program_of c.args.code.now) (machine_view c.args.self.now c.args.objects.now) _ c.temporary-before.ensures c.requires.ready

pub returns-then-not-is_last-clause-went : goal.returns-then-not-is_last-clause-went
returns-then-not-is_last-clause-went g c =
    settle_went g.S.Store.out (program_of c.args.code.now) (machine_view c.args.self.now c.args.objects.now) _ c.temporary-before.ensures (λ last. false≢true (sym c.if-not-is_last.true ∙ c.is_last.ensures.1 last)) c.lower.new.self c.lower.ensures _ refl refl c.settle.ensures _ _ c.silent.ensures.answer c.silent.ensures.event

pub returns-then-not-have_level-clause-went : goal.returns-then-not-have_level-clause-went
returns-then-not-have_level-clause-went g c =
    settle_stopped g.S.Store.out (program_of c.args.code.now) (machine_view c.args.self.now c.args.objects.now) _ c.temporary-before.ensures (c.is_last.ensures.0 c.if-not-is_last.false) (sym c.have_level.ensures ∙ c.if-not-have_level.true) _ _ _ c.silent-then-not-have_level.ensures.answer refl

pub begin_end-requires-clause-object : goal.begin_end-requires-clause-object
begin_end-requires-clause-object g c =
    let found = settle_object g.S.Store.out (program_of c.args.code.now) (machine_view c.args.self.now c.args.objects.now) _ c.temporary-before.ensures (c.is_last.ensures.0 c.if-not-is_last.false) c.requires.ready in
    let same = ap (λ (x : Parts g.row.S.Denot). g.S.Store.out x.store) c.settle-2.ensures in
    (found.0, ap (λ b. b c.temporary-before.result) same ∙ found.1, found.2)

pub returns-clause-went : goal.returns-clause-went
returns-clause-went g c =
    let out = g.S.Store.out in
    let new = machine_view c.begin_end.new.self c.begin_end.new.objects in
    let w = c.temporary-before.result in
    let begins = subst (λ (x : Parts g.row.S.Denot). (cell : Cell) → IsCell (out x.store) w cell → Begins out x new.parts w (c.args.self.now.at + 1) (length (program_of c.args.code.now).classes) c.begin_end.result.event cell) c.settle-2.ensures c.begin_end.ensures.begins in
    settle_ended g.S.Store.out (program_of c.args.code.now) (machine_view c.args.self.now c.args.objects.now) w c.temporary-before.ensures (c.is_last.ensures.0 c.if-not-is_last.false) (sym c.have_level.ensures ∙ c.if-not-have_level.false) new _ _ c.begin_end.ensures.answer c.begin_end.ensures.at
    (ap (λ x. x.items) c.begin_end.ensures.stack) begins
