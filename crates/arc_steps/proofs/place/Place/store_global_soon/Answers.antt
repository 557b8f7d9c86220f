use Rattle.std.proofs.Common.{◌+◌, ◌∙◌, [], refl, sym, subst}
use Rattle.arc_code.specs.declared.instr.Instr.TheVariants.{StoreGlobal}
use Rattle.arc_code.specs.CodeSteps.{program_of}
use Rattle.arc_steps.specs.declared.answer.Answer.TheVariants.{Going}
use Rattle.arc_steps.specs.Views.{MachineView}
use Rattle.arc_steps.specs.GlobalFieldStores.{Replaces, Recounts}
use Rattle.arc_steps.specs.Places.{machine_view, Executes}
use Rattle.arc_steps.proofs.GlobalStoreSimulation.{absent_went, global_can, global_went}
use Rattle.arc_steps.proofs.place.Place.store_global_soon.Goals as goal
use Rattle.arc_steps.proofs.place.Place.store_global_soon.Goals.{in-Some+else-not-replace, in_default}

pub replace-requires : goal.replace-requires
replace-requires g c = record {
  can = global_can g.S.Store.out (program_of c.args.code.now) (machine_view c.args.self.now c.args.objects.now) c.args.variable c.reference-object.result c.reference-object.ensures c.in-Some.before (sym c.strong_global.ensures ∙ c.in-Some.is) c.requires.few;
}

pub returns-clause-went : goal.returns-clause-went
returns-clause-went g c =
    let out = g.S.Store.out in
    let p = program_of c.args.code.now in
    let m = machine_view c.args.self.now c.args.objects.now in
    let new : MachineView g.row.S.Denot = record { at = c.args.self.now.at + 1; stack = c.args.self.now.stack.items; parts = c.match-strong_global.objects } in
    elim c.match-strong_global.branch as (λ _. Executes out p (StoreGlobal c.args.variable) Going [] m new) [
      | in-Some+else-not-replace w ↦ (let counts : Recounts out c.args.objects.now w.replace.new.objects w.in-Some.before c.reference-object.result =
          subst (λ b. Replaces out c.args.objects.now w.replace.new.objects w.in-Some.before c.reference-object.result b) w.if-not-replace.false w.replace.ensures in
          global_went out p m c.args.variable c.reference-object.result c.reference-object.ensures w.in-Some.before (sym c.strong_global.ensures ∙ w.in-Some.is) w.replace.new.objects counts new (w.objects-is ∙ w.put_strong_global.ensures) refl refl)
      | in_default w ↦ absent_went out p m c.args.variable c.reference-object.result c.reference-object.ensures new (sym c.strong_global.ensures ∙ w.in_default.is) w.objects-is refl refl
    ]
