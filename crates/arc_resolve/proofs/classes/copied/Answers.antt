use Rattle.std.proofs.Common.{List, ap, ◌∙◌}
use Rattle.arc_spec.specs.Classes.{Class}
use Rattle.arc_spec.specs.declared.class.Method.{Method}
use Rattle.arc_resolve.proofs.MethodResolution.{class_turn, class_end}
use Rattle.arc_resolve.proofs.classes.copied.Goals as goal

pub loop-class-preserved : goal.loop-class-preserved
loop-class-preserved c =
    let x = c.class-item.result in
    let with : List Method → Class = λ methods. record { superclass = x.superclass; methods = methods; dealloc = x.dealloc; fields = x.fields } in
    class_turn c.args.given.now c.loop-class.class-index x (record { superclass = x.superclass; methods = c.in_ok-from_slice.field-0; dealloc = x.dealloc; fields = x.fields }) c.loop-class.all.items c.push.new.self.items _ c.loop-class-test.true c.class-item.is
    (ap with (c.in_ok-from_slice.ensures.items ∙ c.deref.ensures.value)) c.in_ok-push.ensures.items c.loop-class.invariant

pub returns : goal.returns
returns c = class_end c.args.given.now c.loop-class.class-index c.loop-class.all.items _ c.loop-class-test.false c.loop-class.invariant
