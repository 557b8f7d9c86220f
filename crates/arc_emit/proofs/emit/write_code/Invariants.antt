use Rattle.std.proofs.Common.{◌≡◌, ◌*◌, ◌≤◌, ◌++◌, length, drop}
use Rattle.arc_code.specs.declared.code.TheConstants.{MOST_TEXT}
use Rattle.arc_ir.specs.ActionSteps.{program_of}
use Rattle.arc_emit.specs.EmittedCode.{instrs_of, texts_of}
use Rattle.arc_emit.proofs.emit.write_code.Given as goal

abbrev pub invariant-loop-action : goal.invariant-loop-action
invariant-loop-action l = record {
  instrs :
      l.instrs.items ++ instrs_of (program_of l.ir) (length l.instrs.items) (length l.texts.items) (drop l.action-index l.ir.actions.items)
      ≡ instrs_of (program_of l.ir) 0 0 l.ir.actions.items;
  texts : l.texts.items ++ texts_of (drop l.action-index l.ir.actions.items) ≡ texts_of l.ir.actions.items;
  number : length l.instrs.items ≡ l.action-index;
  few : length l.texts.items ≤ MOST_TEXT * l.action-index;
}
