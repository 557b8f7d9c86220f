use Rattle.std.proofs.Common.{◌≡◌, rules}
use Rattle.arc_tool.proofs.ClassNameList.{names_turn}
use Rattle.arc_tool.proofs.compile.class_names.Goals as goal

pub loop-interface-preserved : goal.loop-interface-preserved
loop-interface-preserved c =
    let copied : c.in_ok-from_slice-2.field-0.items ≡ c.interface-item.result.name.items = search rules in
    names_turn c.deref-interface-items.result.now c.loop-interface.interface-index c.interface-item.result c.loop-interface.names.items c.push-in-loop-interface.new.self.items c.in_ok-from_slice-2.field-0 _
    c.loop-interface-test.true c.interface-item.is copied c.in_ok-push-2.ensures.items c.loop-interface.invariant
