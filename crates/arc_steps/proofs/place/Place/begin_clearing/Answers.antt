use Rattle.std.proofs.Common.{◌≡◌, ◌≢◌, ℕ, zero, suc, length, refl, ap, ◌∙◌, arith}
use Rattle.arc_steps.specs.declared.answer.Answer.{Answer}
use Rattle.arc_steps.specs.declared.answer.Answer.TheVariants.{Going}
use Rattle.arc_cells.specs.declared.waiting.Waiter.{Waiter as Words}
use Rattle.arc_heap.specs.Blocks.{Blocks}
use Rattle.arc_cells.specs.Cells.{Cell, with_phase}
use Rattle.arc_cells.specs.Representation.{Parts, Alters, memory_of, order_at}
use Rattle.arc_steps.specs.Places.{machine_view}
use Rattle.arc_steps.specs.Releases.{LastStep}
use Rattle.arc_steps.specs.GlobalFieldStores.{FieldsStep, clearing}
use Rattle.arc_steps.specs.Views.{MachineView}
use Rattle.arc_steps.proofs.place.Place.begin_clearing.Goals as goal

some_left : {S : Type 0} (out : S → Blocks) (left count back : ℕ) (waiter : Words) (word : ℕ) (c : Cell) (answer : Answer) (old new : MachineView S) → left ≡ count → left ≢ 0 → answer ≡ Going → new.at ≡ old.at → new.stack ≡ old.stack
    → (mid : Parts S) → Alters (memory_of out old.parts) (memory_of out mid) word (λ c. with_phase c 2) → new.parts ≡ clearing back waiter word left mid → FieldsStep out count back waiter word c answer old new
some_left {S} out left zero back waiter word c answer old new e some going at stack mid alters parts = absurd (some e)
some_left {S} out left (suc n) back waiter word c answer old new e some going at stack mid alters parts = (going, at, stack, mid, alters, parts ∙ ap (λ l. clearing back waiter word l mid) e)

none_left : {S : Type 0} (out : S → Blocks) (left count back : ℕ) (waiter : Words) (word : ℕ) (c : Cell) (answer : Answer) (old new : MachineView S) → left ≡ count → left ≡ 0 → LastStep out c.count back waiter word answer old new → FieldsStep out count back waiter word c answer old new
none_left {S} out left zero back waiter word c answer old new e none last = last
none_left {S} out left (suc n) back waiter word c answer old new e none last = absurd (omega (arith, e, none))

pub returns-then-left-eq0-clause-step : goal.returns-then-left-eq0-clause-step
returns-then-left-eq0-clause-step g c = λ cell is.
    let class = c.class.ensures cell is in
    let count = c.field_count-left.ensures ∙ ap (λ k. length (order_at c.args.objects.now.orders k)) class in
    let done = c.end_object in
    none_left g.S.Store.out c.field_count-left.result _ c.args.back c.args.waiter c.args.object cell done.result (machine_view c.args.self.now c.args.objects.now) (machine_view done.new.self done.new.objects) count c.if-left-eq0.true (done.ensures.step cell is)

pub returns-clause-step : goal.returns-clause-step
returns-clause-step g c = λ cell is.
    let class = c.class.ensures cell is in
    let count = c.field_count-left.ensures ∙ ap (λ k. length (order_at c.args.objects.now.orders k)) class in
    some_left g.S.Store.out c.field_count-left.result _ c.args.back c.args.waiter c.args.object cell Going (machine_view c.args.self.now c.args.objects.now) (machine_view c.args.self.now c.wait.new.self) count c.if-left-eq0.false refl refl refl c.begin_emptying.new.self c.begin_emptying.ensures c.wait.ensures
