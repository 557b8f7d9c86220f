-- The table of instructions: each one's name and operands, as it is listed, and how many numbers, references and strong places it takes and gives.
-- How code is listed is this project's own choice. An operator, a kind and what is given go by their number in the order of their type's variants, counted
-- from 0 (`tag_of`).
use Rattle.std.specs.Prelude.{ℕ, suc, List, [], ◌++◌, codes, decimal}
use Rattle.std.specs.Fmt.{signed_decimal}
use denote.Enum.Declared.{tag_of}
use Rattle.arc_ast.specs.contracts.tree.Kind as kinds
use Rattle.arc_ast.specs.contracts.tree.UnaryOperator as unary
use Rattle.arc_ast.specs.contracts.tree.BinaryOperator as binary
use Rattle.arc_ast.specs.declared.tree.Sign.{Sign}
use Rattle.arc_ast.specs.declared.tree.Sign.TheVariants as signs
use Rattle.arc_spec.specs.declared.class.Gives.{Gives}
use Rattle.arc_spec.specs.declared.class.Gives.TheVariants as gives
use Rattle.arc_spec.specs.contracts.class.Gives as results
use Rattle.arc_code.specs.declared.effect.Effect.{Effect}
use Rattle.arc_code.specs.declared.instr.Op.{Op}
use Rattle.arc_code.specs.declared.instr.Op.TheVariants.{Num, Bin, Un, Narrow, Pop, Get, Set, GetGlobal, SetGlobal, PrintNum, PrintByte, GetChar, Declare, Nil, ReadSelf, ReadRef, ReadGlobal, ReadField, Hold, Again, Forget, Alloc, Finds, GetField, SetField, NotSame, IsObject}
use Rattle.arc_code.specs.declared.instr.Instr.{Instr}
use Rattle.arc_code.specs.declared.instr.Instr.TheVariants.{Plain, PrintText, Jump, JumpZero, Call, Send, SendSuper, SendTo, SendToSuper, StoreStrong, StoreGlobal, StoreField, Empty, DropAll, Settle, Give, Return, EndStep}
use Rattle.arc_code.specs.CodeSteps.{Instruction}

-- a space, and a number
abbrev pub operand : ℕ → List ℕ
operand n = codes " " ++ decimal n

-- what takes references and gives numbers
abbrev pub of_names : (taken given names : ℕ) → Effect
of_names taken given names = record { numbers_taken = taken; numbers_given = given; names_taken = names; names_given = 0; temporaries = 0; variables = 0 }

-- what leaves the references and places as they are
abbrev pub on_numbers : (taken given : ℕ) → Effect
on_numbers taken given = of_names taken given 0

-- what takes references, gives references, and has temporaries take objects
abbrev pub on_names : (taken given temporaries : ℕ) → Effect
on_names taken given temporaries = record { numbers_taken = 0; numbers_given = 0; names_taken = taken; names_given = given; temporaries = temporaries; variables = 0 }

-- how many numbers a result is, and how many objects
abbrev pub as_number : Gives → ℕ
as_number gives.Number = 1
as_number gives.Object = 0

abbrev pub as_object : Gives → ℕ
as_object gives.Number = 0
as_object gives.Object = 1

-- what takes numbers and references, and gives a number, or an object, which a temporary takes
abbrev pub giving : Gives → (taken names : ℕ) → Effect
giving given taken names = record {
  numbers_taken = taken;
  numbers_given = as_number given;
  names_taken = names;
  names_given = as_object given;
  temporaries = as_object given;
  variables = 0;
}

-- ---- operations

-- an operation's name, and its operands
abbrev pub op_parts : Op → List ℕ × List ℕ
op_parts (Num n) = (codes "Num", codes " " ++ signed_decimal n)
op_parts (Bin operator kind) = (codes "Bin", operand (tag_of binary.the_type operator) ++ operand (tag_of kinds.the_type kind))
op_parts (Un operator kind) = (codes "Un", operand (tag_of unary.the_type operator) ++ operand (tag_of kinds.the_type kind))
op_parts (Narrow kind) = (codes "Narrow", operand (tag_of kinds.the_type kind))
op_parts Pop = (codes "Pop", [])
op_parts (Get depth) = (codes "Get", operand depth)
op_parts (Set depth) = (codes "Set", operand depth)
op_parts (GetGlobal i) = (codes "GetGlobal", operand i)
op_parts (SetGlobal i) = (codes "SetGlobal", operand i)
op_parts PrintNum = (codes "PrintNum", [])
op_parts PrintByte = (codes "PrintByte", [])
op_parts GetChar = (codes "GetChar", [])
op_parts Declare = (codes "Declare", [])
op_parts Nil = (codes "Nil", [])
op_parts ReadSelf = (codes "ReadSelf", [])
op_parts (ReadRef i) = (codes "ReadRef", operand i)
op_parts (ReadGlobal i) = (codes "ReadGlobal", operand i)
op_parts (ReadField class index) = (codes "ReadField", operand class ++ operand index)
op_parts Hold = (codes "Hold", [])
op_parts Again = (codes "Again", [])
op_parts Forget = (codes "Forget", [])
op_parts Alloc = (codes "Alloc", [])
op_parts (Finds selector) = (codes "Finds", operand selector)
op_parts (GetField class index) = (codes "GetField", operand class ++ operand index)
op_parts (SetField class index) = (codes "SetField", operand class ++ operand index)
op_parts NotSame = (codes "NotSame", [])
op_parts IsObject = (codes "IsObject", [])

-- what an operation takes and gives
abbrev pub operation_effect : Op → Effect
operation_effect (Num n) = on_numbers 0 1
operation_effect (Bin operator kind) = on_numbers 2 1
operation_effect (Un operator kind) = on_numbers 1 1
operation_effect (Narrow kind) = on_numbers 1 1
operation_effect Pop = on_numbers 1 0
operation_effect (Get depth) = on_numbers 0 1
operation_effect (Set depth) = on_numbers 1 0
operation_effect (GetGlobal i) = on_numbers 0 1
operation_effect (SetGlobal i) = on_numbers 1 0
operation_effect PrintNum = on_numbers 2 1
operation_effect PrintByte = on_numbers 2 1
operation_effect GetChar = on_numbers 0 1
operation_effect Declare = record (on_numbers 0 0) { variables = 1 }
operation_effect Nil = on_names 0 1 0
operation_effect ReadSelf = on_names 0 1 1
operation_effect (ReadRef i) = on_names 0 1 1
operation_effect (ReadGlobal i) = on_names 0 1 1
operation_effect (ReadField class index) = on_names 1 1 1
operation_effect Hold = on_names 1 1 1
operation_effect Again = on_names 1 2 0
operation_effect Forget = on_names 1 0 0
operation_effect Alloc = record (on_names 0 1 1) { numbers_taken = 1 }
operation_effect (Finds selector) = on_numbers 1 2
operation_effect (GetField class index) = of_names 0 1 1
operation_effect (SetField class index) = of_names 1 1 1
operation_effect NotSame = of_names 0 1 2
operation_effect IsObject = of_names 0 1 1

-- ---- instructions

abbrev pub message_operands : (selector takes objects : ℕ) → Gives → List ℕ
message_operands selector takes objects gives = operand selector ++ (operand takes ++ (operand objects ++ operand (tag_of results.the_type gives)))

-- an instruction's name, and its operands
abbrev pub parts : Instruction → List ℕ × List ℕ
parts (Plain op) = op_parts op
parts (PrintText piece) = (codes "PrintText", operand piece.from ++ operand piece.len)
parts (Jump to) = (codes "Jump", operand to)
parts (JumpZero to) = (codes "JumpZero", operand to)
parts (Call to gives) = (codes "Call", operand to ++ operand (tag_of results.the_type gives))
parts (Send selector takes objects gives) = (codes "Send", message_operands selector takes objects gives)
parts (SendSuper from selector takes objects gives) = (codes "SendSuper", operand from ++ message_operands selector takes objects gives)
parts (SendTo selector takes objects gives) = (codes "SendTo", message_operands selector takes objects gives)
parts (SendToSuper from selector takes objects gives) = (codes "SendToSuper", operand from ++ message_operands selector takes objects gives)
parts (StoreStrong i) = (codes "StoreStrong", operand i)
parts (StoreGlobal i) = (codes "StoreGlobal", operand i)
parts (StoreField class index) = (codes "StoreField", operand class ++ operand index)
parts (Empty i) = (codes "Empty", operand i)
parts DropAll = (codes "DropAll", [])
parts Settle = (codes "Settle", [])
parts Give = (codes "Give", [])
parts Return = (codes "Return", [])
parts EndStep = (codes "EndStep", [])

-- how many numbers a message with so many arguments passes: one to a class passes the class, too
abbrev pub passes : Sign → (takes : ℕ) → ℕ
passes signs.Class takes = suc takes
passes signs.Instance takes = takes

-- A call or a message takes what it passes, and gives a number or an object, when it comes back. What a function is passed are its variables that hold numbers, and references
-- for its parameters that name objects, whose numbers the call doesn't say: a table says them of where the function begins.
abbrev pub effect : {J F T : Type 0} → Instr J F T → Effect
effect (Plain o) = operation_effect o
effect (PrintText t) = on_numbers 1 1
effect (Jump j) = on_numbers 0 0
effect (JumpZero j) = on_numbers 1 0
effect (Call f gives) = giving gives 0 0
effect (Send selector takes objects gives) = giving gives (passes signs.Class takes) objects
effect (SendSuper from selector takes objects gives) = giving gives (passes signs.Class takes) objects
effect (SendTo selector takes objects gives) = giving gives (passes signs.Instance takes) (suc objects)
effect (SendToSuper from selector takes objects gives) = giving gives (passes signs.Instance takes) (suc objects)
effect (StoreStrong i) = on_names 1 1 0
effect (StoreGlobal i) = on_names 1 1 0
effect (StoreField class index) = on_names 2 1 0
effect (Empty i) = on_names 0 0 0
effect DropAll = on_numbers 0 0
effect Settle = on_numbers 0 0
effect Give = on_numbers 1 0
effect Return = on_numbers 1 0
effect EndStep = on_numbers 0 0
