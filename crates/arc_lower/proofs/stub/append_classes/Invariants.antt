use Rattle.std.proofs.Common.{◌≡◌, ◌++◌, length, drop}
use Rattle.arc_spec.specs.Classes.{classes_of}
use Rattle.arc_checked.specs.Checked.{program_of}
use Rattle.arc_lower.specs.PlainActions.{plain_actions}
use Rattle.arc_lower.specs.Lowered.{classes_actions, linked_classes}
use Rattle.arc_lower.specs.Heights.{raised, classes_heights}
use Rattle.arc_lower.proofs.stub.append_classes.Given as goal

-- with the classes that are left still to come, all comes out as from the start
abbrev pub invariant-loop-class : goal.invariant-loop-class
invariant-loop-class l = record {
  actions : plain_actions l.actions.items ++ classes_actions (program_of l.program) l.entries (classes_of (drop l.class-index l.class-items)) ≡ plain_actions l.initial.actions.items ++ classes_actions (program_of l.program) l.entries (classes_of l.class-items);
  classes : classes_of l.linked.items ++ linked_classes (program_of l.program) l.entries (length (plain_actions l.actions.items)) (classes_of (drop l.class-index l.class-items)) ≡ linked_classes (program_of l.program) l.entries (length (plain_actions l.initial.actions.items)) (classes_of l.class-items);
  most : raised (classes_heights (program_of l.program) l.entries (classes_of (drop l.class-index l.class-items))) l.most ≡ raised (classes_heights (program_of l.program) l.entries (classes_of l.class-items)) l.initial.most;
}
