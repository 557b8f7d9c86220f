use Rattle.std.proofs.Common.{◌≡◌, ◌∙◌, ap, Some, slice_get}
use Rattle.arc_code.specs.CodeSteps.{program_of}
use Rattle.arc_cells.specs.declared.waiting.Waiting.TheVariants.{End, Clear}
use Rattle.arc_steps.specs.declared.place.Place.{Place}
use Rattle.arc_steps.specs.Places.{machine_view}
use Rattle.arc_steps.proofs.DeallocStepSimulation.{ready_ending, deallocs_went}
use Rattle.arc_steps.proofs.NextFieldClearable.{can_clear}
use Rattle.arc_steps.proofs.ClearStepSimulation.{clear_follows, clear_last}
use Rattle.arc_steps.proofs.place.Place.end_step_soon.Goals as goal

pub next_dealloc-requires-clause-some : goal.next_dealloc-requires-clause-some
next_dealloc-requires-clause-some g c =
    let e = c.in-Some-End in
    let frame : slice_get c.args.objects.now.frames 0 ≡ Some (End e.back e.waiter e.object e.next e.left) = cc in
    (ready_ending g.S.Store.out (program_of c.args.code.now) (machine_view c.args.self.now c.args.objects.now) e.back e.waiter e.object e.next e.left frame c.requires.ready).0

pub next_dealloc-requires-clause-object : goal.next_dealloc-requires-clause-object
next_dealloc-requires-clause-object g c =
    let e = c.in-Some-End in
    let frame : slice_get c.args.objects.now.frames 0 ≡ Some (End e.back e.waiter e.object e.next e.left) = cc in
    (ready_ending g.S.Store.out (program_of c.args.code.now) (machine_view c.args.self.now c.args.objects.now) e.back e.waiter e.object e.next e.left frame c.requires.ready).1

pub returns-in-Some-End-clause-went : goal.returns-in-Some-End-clause-went
returns-in-Some-End-clause-went g c =
    let e = c.in-Some-End in
    let frame : slice_get c.args.objects.now.frames 0 ≡ Some (End e.back e.waiter e.object e.next e.left) = cc in
    deallocs_went g.S.Store.out (program_of c.args.code.now) (machine_view c.args.self.now c.args.objects.now) e.back e.waiter e.object e.next e.left frame c.next_dealloc.result (machine_view c.next_dealloc.new.self c.next_dealloc.new.objects) c.next_dealloc.ensures.step

pub clear_soon-requires : goal.clear_soon-requires
clear_soon-requires g c =
    let e = c.in-Some-Clear in
    let frame : slice_get c.args.objects.now.frames 0 ≡ Some (Clear e.back e.waiter e.object e.left) = cc in
    record { can = can_clear g.S.Store.out (program_of c.args.code.now) (machine_view c.args.self.now c.args.objects.now) e.back e.waiter e.object e.left frame c.requires.ready }

pub returns-in-Some-Clear-clause-went : goal.returns-in-Some-Clear-clause-went
returns-in-Some-Clear-clause-went g c =
    let e = c.in-Some-Clear in
    let old = machine_view c.args.self.now c.args.objects.now in
    let new = machine_view c.clear_soon.new.self c.clear_soon.new.objects in
    let frame : slice_get c.args.objects.now.frames 0 ≡ Some (Clear e.back e.waiter e.object e.left) = cc in
    clear_follows g.S.Store.out (program_of c.args.code.now) old e.back e.waiter e.object e.left frame c.clear_soon.result new c.clear_soon.ensures.some c.clear_soon.ensures.none
    (λ none. ap (λ (x : Place). machine_view x c.clear_soon.new.objects) none.0 ∙ ap (machine_view c.args.self.now) none.1)

pub returns-in-Some-Clear-clause-last : goal.returns-in-Some-Clear-clause-last
returns-in-Some-Clear-clause-last g c =
    let e = c.in-Some-Clear in
    let old = machine_view c.args.self.now c.args.objects.now in
    let frame : slice_get c.args.objects.now.frames 0 ≡ Some (Clear e.back e.waiter e.object e.left) = cc in
    clear_last g.S.Store.out (program_of c.args.code.now) old e.back e.waiter e.object e.left frame (c.clear_soon.new.self ≡ c.args.self.now) c.clear_soon.result c.clear_soon.new.objects c.clear_soon.ensures.none
