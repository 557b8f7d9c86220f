use Rattle.std.proofs.Common.{◌≡◌, ◌++◌, length, drop}
use Rattle.arc_checked.specs.Checked.{program_of}
use Rattle.arc_lower.specs.PlainActions.{plain_actions}
use Rattle.arc_lower.specs.Lowered.{methods_actions, linked_methods}
use Rattle.arc_lower.specs.Heights.{raised, methods_heights}
use Rattle.arc_lower.proofs.stub.append_methods.Given as goal

-- with the methods that are left still to come, all comes out as from the start
abbrev pub invariant-loop-method : goal.invariant-loop-method
invariant-loop-method l = record {
  actions : plain_actions l.actions.items ++ methods_actions (program_of l.program) l.entries (drop l.method-index l.methods) ≡ plain_actions l.initial.actions.items ++ methods_actions (program_of l.program) l.entries l.methods;
  methods : l.linked.items ++ linked_methods (program_of l.program) l.entries (length (plain_actions l.actions.items)) (drop l.method-index l.methods) ≡ linked_methods (program_of l.program) l.entries (length (plain_actions l.initial.actions.items)) l.methods;
  most : raised (methods_heights (program_of l.program) l.entries (drop l.method-index l.methods)) l.most ≡ raised (methods_heights (program_of l.program) l.entries l.methods) l.initial.most;
}
