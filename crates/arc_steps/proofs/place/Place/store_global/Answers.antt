use Rattle.std.proofs.Common.{◌≡◌, ◌∙◌, Some, refl, sym, ap, subst}
use Rattle.std.specs.Prelude.{slice_get}
use Rattle.arc_code.specs.declared.instr.Instr.TheVariants.{StoreGlobal}
use Rattle.arc_code.specs.CodeSteps.{program_of}
use Rattle.arc_cells.specs.Representation.{Parts}
use Rattle.arc_steps.specs.GlobalFieldStores.{CanReplace, LastGlobal}
use Rattle.arc_steps.specs.Views.{MachineView}
use Rattle.arc_steps.specs.Places.{machine_view, shown, CanHold, Executes}
use Rattle.arc_steps.proofs.GlobalStoreSimulation.{global_can, global_stopped, global_began, last_here, other_cell}
use Rattle.arc_steps.proofs.place.Place.store_global.Goals as goal

pub returns-then-not-have_level-clause-went : goal.returns-then-not-have_level-clause-went
returns-then-not-have_level-clause-went g c =
    let out = g.S.Store.out in
    let p = program_of c.args.code.now in
    let i = c.args.variable in
    let mid = machine_view c.store_global_soon.new.self c.store_global_soon.new.objects in
    let stayed = c.in_default.ensures.last in
    let stays : mid ≡ machine_view c.args.self.now c.args.objects.now = ap (λ x. machine_view x c.store_global_soon.new.objects) stayed.0 ∙ ap (machine_view c.args.self.now) stayed.1 in
    let found : LastGlobal out mid.parts i = subst (λ (x : Parts g.row.S.Denot). LastGlobal out x i) (sym stayed.1) stayed.2 in
    let last = last_here out mid.parts i found.word found.before found.named found.there found in
    let result = c.silent-then-not-have_level.result in
    let does : Executes out p (StoreGlobal i) result.answer (shown result.event) mid mid =
    global_stopped out p mid i found.word found.named found.before found.there last.0 last.1 mid result.answer result.event (sym c.have_level.ensures ∙ c.if-not-have_level.true) c.silent-then-not-have_level.ensures.answer refl in
    subst (λ (x : MachineView g.row.S.Denot). Executes out p (StoreGlobal i) result.answer (shown result.event) x mid) stays does

pub unreachable-requires : goal.unreachable-requires
unreachable-requires g c =
    let out = g.S.Store.out in
    let p = program_of c.args.code.now in
    let i = c.args.variable in
    let mid = machine_view c.store_global_soon.new.self c.store_global_soon.new.objects in
    let stayed = c.in_default.ensures.last in
    let stays : mid ≡ machine_view c.args.self.now c.args.objects.now = ap (λ x. machine_view x c.store_global_soon.new.objects) stayed.0 ∙ ap (machine_view c.args.self.now) stayed.1 in
    let found : LastGlobal out mid.parts i = subst (λ (x : Parts g.row.S.Denot). LastGlobal out x i) (sym stayed.1) stayed.2 in
    c.in_default-strong_global.not-Some found.before (c.strong_global.ensures ∙ found.there)

pub raise-requires-clause-object : goal.raise-requires-clause-object
raise-requires-clause-object g c =
    let out = g.S.Store.out in
    let p = program_of c.args.code.now in
    let i = c.args.variable in
    let mid = machine_view c.store_global_soon.new.self c.store_global_soon.new.objects in
    let stayed = c.in_default.ensures.last in
    let stays : mid ≡ machine_view c.args.self.now c.args.objects.now = ap (λ x. machine_view x c.store_global_soon.new.objects) stayed.0 ∙ ap (machine_view c.args.self.now) stayed.1 in
    let found : LastGlobal out mid.parts i = subst (λ (x : Parts g.row.S.Denot). LastGlobal out x i) (sym stayed.1) stayed.2 in
    let w = c.in-Some-strong_global.before in
    let v = c.reference-object.result in
    let had : slice_get mid.parts.strong_globals i ≡ Some w = sym c.strong_global.ensures ∙ c.in-Some-strong_global.is in
    let can : CanReplace out mid.parts w v = global_can out p mid i v c.reference-object.ensures w had (subst (λ (x : MachineView g.row.S.Denot). CanHold out p (StoreGlobal i) x) (sym stays) c.requires.few) in
    let last = last_here out mid.parts i v w c.reference-object.ensures had found in
    can.block

pub raise-requires-clause-fits : goal.raise-requires-clause-fits
raise-requires-clause-fits g c =
    let out = g.S.Store.out in
    let p = program_of c.args.code.now in
    let i = c.args.variable in
    let mid = machine_view c.store_global_soon.new.self c.store_global_soon.new.objects in
    let stayed = c.in_default.ensures.last in
    let stays : mid ≡ machine_view c.args.self.now c.args.objects.now = ap (λ x. machine_view x c.store_global_soon.new.objects) stayed.0 ∙ ap (machine_view c.args.self.now) stayed.1 in
    let found : LastGlobal out mid.parts i = subst (λ (x : Parts g.row.S.Denot). LastGlobal out x i) (sym stayed.1) stayed.2 in
    let w = c.in-Some-strong_global.before in
    let v = c.reference-object.result in
    let had : slice_get mid.parts.strong_globals i ≡ Some w = sym c.strong_global.ensures ∙ c.in-Some-strong_global.is in
    let can : CanReplace out mid.parts w v = global_can out p mid i v c.reference-object.ensures w had (subst (λ (x : MachineView g.row.S.Denot). CanHold out p (StoreGlobal i) x) (sym stays) c.requires.few) in
    let last = last_here out mid.parts i v w c.reference-object.ensures had found in
    λ above x is. (can.few above x is).1 last.1

pub begin_end-requires-clause-some : goal.begin_end-requires-clause-some
begin_end-requires-clause-some g c =
    let out = g.S.Store.out in
    let p = program_of c.args.code.now in
    let i = c.args.variable in
    let mid = machine_view c.store_global_soon.new.self c.store_global_soon.new.objects in
    let stayed = c.in_default.ensures.last in
    let stays : mid ≡ machine_view c.args.self.now c.args.objects.now = ap (λ x. machine_view x c.store_global_soon.new.objects) stayed.0 ∙ ap (machine_view c.args.self.now) stayed.1 in
    let found : LastGlobal out mid.parts i = subst (λ (x : Parts g.row.S.Denot). LastGlobal out x i) (sym stayed.1) stayed.2 in
    let w = c.in-Some-strong_global.before in
    let v = c.reference-object.result in
    let had : slice_get mid.parts.strong_globals i ≡ Some w = sym c.strong_global.ensures ∙ c.in-Some-strong_global.is in
    let can : CanReplace out mid.parts w v = global_can out p mid i v c.reference-object.ensures w had (subst (λ (x : MachineView g.row.S.Denot). CanHold out p (StoreGlobal i) x) (sym stays) c.requires.few) in
    let last = last_here out mid.parts i v w c.reference-object.ensures had found in
    last.0.0

pub begin_end-requires-clause-object : goal.begin_end-requires-clause-object
begin_end-requires-clause-object g c =
    let out = g.S.Store.out in
    let p = program_of c.args.code.now in
    let i = c.args.variable in
    let mid = machine_view c.store_global_soon.new.self c.store_global_soon.new.objects in
    let stayed = c.in_default.ensures.last in
    let stays : mid ≡ machine_view c.args.self.now c.args.objects.now = ap (λ x. machine_view x c.store_global_soon.new.objects) stayed.0 ∙ ap (machine_view c.args.self.now) stayed.1 in
    let found : LastGlobal out mid.parts i = subst (λ (x : Parts g.row.S.Denot). LastGlobal out x i) (sym stayed.1) stayed.2 in
    let w = c.in-Some-strong_global.before in
    let v = c.reference-object.result in
    let had : slice_get mid.parts.strong_globals i ≡ Some w = sym c.strong_global.ensures ∙ c.in-Some-strong_global.is in
    let can : CanReplace out mid.parts w v = global_can out p mid i v c.reference-object.ensures w had (subst (λ (x : MachineView g.row.S.Denot). CanHold out p (StoreGlobal i) x) (sym stays) c.requires.few) in
    let last = last_here out mid.parts i v w c.reference-object.ensures had found in
    let cell = other_cell out mid.parts c.raise.new.self v w can last.0.0 last.1 c.raise.ensures in
    let same : out c.put_strong_global.new.self.store ≡ out c.raise.new.self.store = ap (λ (x : Parts g.row.S.Denot). out x.store) c.put_strong_global.ensures in
    (cell.0, ap (λ b. b w) same ∙ cell.1, cell.2)

pub returns-clause-went : goal.returns-clause-went
returns-clause-went g c =
    let out = g.S.Store.out in
    let p = program_of c.args.code.now in
    let i = c.args.variable in
    let mid = machine_view c.store_global_soon.new.self c.store_global_soon.new.objects in
    let stayed = c.in_default.ensures.last in
    let stays : mid ≡ machine_view c.args.self.now c.args.objects.now = ap (λ x. machine_view x c.store_global_soon.new.objects) stayed.0 ∙ ap (machine_view c.args.self.now) stayed.1 in
    let found : LastGlobal out mid.parts i = subst (λ (x : Parts g.row.S.Denot). LastGlobal out x i) (sym stayed.1) stayed.2 in
    let w = c.in-Some-strong_global.before in
    let v = c.reference-object.result in
    let had : slice_get mid.parts.strong_globals i ≡ Some w = sym c.strong_global.ensures ∙ c.in-Some-strong_global.is in
    let can : CanReplace out mid.parts w v = global_can out p mid i v c.reference-object.ensures w had (subst (λ (x : MachineView g.row.S.Denot). CanHold out p (StoreGlobal i) x) (sym stays) c.requires.few) in
    let last = last_here out mid.parts i v w c.reference-object.ensures had found in
    let new = machine_view c.begin_end.new.self c.begin_end.new.objects in
    let result = c.begin_end.result in
    let does : Executes out p (StoreGlobal i) result.answer (shown result.event) mid new =
    global_began out p mid i v c.reference-object.ensures w had last.0 last.1 c.raise.new.self c.raise.ensures c.put_strong_global.new.self c.put_strong_global.ensures new result.answer result.event
    (sym c.have_level.ensures ∙ c.if-not-have_level.false) c.begin_end.ensures.answer c.begin_end.ensures.at (ap (λ x. x.items) c.begin_end.ensures.stack) c.begin_end.ensures.begins in
    subst (λ (x : MachineView g.row.S.Denot). Executes out p (StoreGlobal i) result.answer (shown result.event) x new) stays does
