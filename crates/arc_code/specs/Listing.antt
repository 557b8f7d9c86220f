-- How code is listed, which is this project's own choice: a line for each instruction, with its name and its operands by the table of instructions.
use Rattle.std.specs.Prelude.{ℕ, suc, List, [], ◌∷◌, ◌++◌, codes, decimal}
use Rattle.std.specs.Fmt.{signed_decimal}
use Rattle.arc_code.specs.declared.instr.Operands.{Operands}
use Rattle.arc_code.specs.declared.instr.Operands.TheVariants.{Nothing, Signed, One, Two, Four, Five}
use Rattle.arc_code.specs.CodeSteps.{Instruction}
use Rattle.arc_code.specs.InstructionTable.{operand, parts}

-- the instruction with this number
abbrev pub line : ℕ → Instruction → List ℕ
line number instr = decimal number ++ (codes " " ++ (parts instr).0) ++ (parts instr).1 ++ codes "\n"

abbrev pub lines_from : ℕ → List Instruction → List ℕ
lines_from number [] = []
lines_from number (instr ∷ others) = line number instr ++ lines_from (suc number) others

abbrev pub listing : List Instruction → List ℕ
listing instrs = lines_from 0 instrs

-- ---- what the functions that write a listing speak of

-- operands, each after a space
abbrev pub operands_text : Operands → List ℕ
operands_text Nothing = []
operands_text (Signed n) = codes " " ++ signed_decimal n
operands_text (One first) = operand first
operands_text (Two first second) = operand first ++ operand second
operands_text (Four first second third fourth) = operand first ++ (operand second ++ (operand third ++ operand fourth))
operands_text (Five first second third fourth fifth) = operand first ++ (operand second ++ (operand third ++ (operand fourth ++ operand fifth)))
