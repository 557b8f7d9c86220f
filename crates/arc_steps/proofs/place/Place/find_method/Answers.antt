use Rattle.std.proofs.Common.{◌≡◌, ◌∙◌, ◌∷◌, pos, Bool, true, false, refl, sym, ap, rules, arith, to_z, of_z, w64}
use mir.Val.{bool_byte}
use Rattle.arc_ast.specs.declared.tree.Sign.TheVariants as signs
use Rattle.arc_spec.specs.declared.class.Gives.TheVariants as gives
use Rattle.arc_spec.specs.Classes.{classes_of, class_at, lookup}
use Rattle.arc_code.specs.declared.instr.Op.TheVariants.{Finds}
use Rattle.arc_code.specs.declared.instr.Instr.TheVariants.{Plain}
use Rattle.arc_code.specs.Instructions.{one_if}
use Rattle.arc_code.specs.CodeSteps.{program_of}
use Rattle.arc_steps.specs.Places.{machine_view}
use Rattle.arc_steps.proofs.MethodTestSimulation.{finds_went}
use Rattle.arc_steps.proofs.StackPreconditions.{Needs, ready_needs}
use Rattle.arc_steps.proofs.place.Place.find_method.Goals as goal

byte_is : (b : Bool) → pos (bool_byte b) ≡ one_if b
byte_is true = refl
byte_is false = refl

pub top-requires : goal.top-requires
top-requires g c =
    let needs : Needs (Plain (Finds c.args.selector)) (program_of c.args.code.now) c.args.self.now.stack.items = ready_needs g.S.Store.out (program_of c.args.code.now) (Plain (Finds c.args.selector)) (machine_view c.args.self.now c.args._objects.now) c.requires.ready in
    omega (arith, needs)

pub push-requires : goal.push-requires
push-requires g c =
    let needs : Needs (Plain (Finds c.args.selector)) (program_of c.args.code.now) c.args.self.now.stack.items = ready_needs g.S.Store.out (program_of c.args.code.now) (Plain (Finds c.args.selector)) (machine_view c.args.self.now c.args._objects.now) c.requires.ready in
    omega (arith, needs, c.requires.room)

pub returns-clause-went : goal.returns-clause-went
returns-clause-went g c =
    let same : c.top.result ≡ to_z w64 (of_z w64 c.top.result) = search rules in
    let number : c.from.result ≡ to_z w64 (of_z w64 c.from.result) = search rules in
    let found : c.look_up-found.result ≡ lookup (classes_of c.args.code.now.classes.items) (class_at c.top.result) signs.Class c.args.selector 0 0 gives.Object =
    c.look_up-found.ensures ∙ ap (λ cs. lookup (classes_of cs) c.class_of-class.result signs.Class c.args.selector 0 0 gives.Object) c.deref.ensures.value
    ∙ ap (λ k. lookup (classes_of c.args.code.now.classes.items) k signs.Class c.args.selector 0 0 gives.Object) (c.class_of-class.ensures ∙ ap class_at (sym same)) in
    finds_went g.S.Store.out (program_of c.args.code.now) (machine_view c.args.self.now c.args._objects.now) c.args.selector c.top.result c.top.ensures.0 c.look_up-found.result c.from.result _ c.top.ensures.1 found
    (c.from.ensures ∙ byte_is c.is_some.result ∙ ap one_if c.is_some.ensures) refl (ap (λ x. x.items) c.push.ensures.value ∙ ap (λ n. n ∷ c.args.self.now.stack.items) (sym number)) refl
