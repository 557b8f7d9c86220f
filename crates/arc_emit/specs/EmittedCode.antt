-- The code of actions: one instruction for each action, with the same number, and the texts. All of it is this project's own choice.
use Rattle.std.specs.Prelude.{ℕ, ◌+◌, ◌<◌, List, [], ◌∷◌, ◌++◌, length}
use Rattle.arc_code.specs.declared.instr.Instr.TheVariants.{PrintText}
use Rattle.arc_code.specs.declared.code.Piece.{Piece}
use Rattle.arc_code.specs.InstructionRenaming.{renamed}
use Rattle.arc_code.specs.CodeSteps as running
use Rattle.arc_code.specs.CodeSteps.{Instruction}
use Rattle.arc_emit.specs.declared.emit.TheConstants.{MOST_INSTRS}
use Rattle.arc_ir.specs.declared.action.TextPart.{TextPart}
use Rattle.arc_ir.specs.ActionSteps as acting
use Rattle.arc_ir.specs.ActionSteps.{Action, lands, entry}

-- the text that an action prints
abbrev pub text_of : Action → List ℕ
text_of (PrintText part) = part.bytes.items
text_of _ = []

-- the texts of all actions, one after another
abbrev pub texts_of : List Action → List ℕ
texts_of [] = []
texts_of (a ∷ rest) = text_of a ++ texts_of rest

-- a text that stands at `from`
abbrev pub piece : (from : ℕ) → TextPart → Piece
piece from part = record { from = from; len = length part.bytes.items }

-- the instruction that the action with a number is, whose text stands at `from`
abbrev pub instr_of : acting.Program → (at from : ℕ) → Action → Instruction
instr_of p at from = renamed (lands at) (entry p) (piece from)

-- the instructions of actions from one with a number on, whose texts stand at `from`, one after another
abbrev pub instrs_of : acting.Program → (at from : ℕ) → List Action → List Instruction
instrs_of p at from [] = []
instrs_of p at from (a ∷ rest) = instr_of p at from a ∷ instrs_of p (at + 1) (from + length (text_of a)) rest

-- the code of a program
abbrev pub code_of : acting.Program → running.Program
code_of p = record {
  instrs = instrs_of p 0 0 p.actions;
  texts = texts_of p.actions;
  end_step = p.end_step;
  room = p.room;
  names = p.names;
  places = p.places;
  globals = p.globals;
  strong_globals = p.strong_globals;
  classes = p.classes;
}

-- there are more actions than code may have instructions
abbrev pub IsLarge : acting.Program → Type 0
IsLarge p = MOST_INSTRS < length p.actions
