-- Instructions with other names for where jumps go, for functions and for texts.
use Rattle.std.specs.Prelude.{ℕ, List, Option}
use Rattle.arc_code.specs.declared.instr.Instr.{Instr}
use Rattle.arc_code.specs.declared.instr.Instr.TheVariants.{Plain, PrintText, Jump, JumpZero, Call, Send, SendSuper, SendTo, SendToSuper, StoreStrong, StoreGlobal, StoreField, Empty, DropAll, Settle, Give, Return, EndStep}
use Rattle.arc_code.specs.Instructions.{Program}

module _ {J F T K G U : Type 0} (jump : J → K) (call : F → G) (text : T → U) where
  abbrev pub renamed : Instr J F T → Instr K G U
  renamed (Plain o) = Plain o
  renamed (PrintText t) = PrintText (text t)
  renamed (Jump j) = Jump (jump j)
  renamed (JumpZero j) = JumpZero (jump j)
  renamed (Call f gives) = Call (call f) gives
  renamed (Send selector takes objects gives) = Send selector takes objects gives
  renamed (SendSuper from selector takes objects gives) = SendSuper from selector takes objects gives
  renamed (SendTo selector takes objects gives) = SendTo selector takes objects gives
  renamed (SendToSuper from selector takes objects gives) = SendToSuper from selector takes objects gives
  renamed (StoreStrong i) = StoreStrong i
  renamed (StoreGlobal i) = StoreGlobal i
  renamed (StoreField class index) = StoreField class index
  renamed (Empty i) = Empty i
  renamed DropAll = DropAll
  renamed Settle = Settle
  renamed Give = Give
  renamed Return = Return
  renamed EndStep = EndStep

-- a program whose instructions name what these say
abbrev pub relinked : {J F T K G U : Type 0} → Program J F T → List (Instr K G U) → (lands : ℕ → K → ℕ) → (entry : G → Option ℕ) → (text : U → Option (List ℕ)) → Program K G U
relinked p instrs lands entry text = record {
  instrs = instrs;
  lands = lands;
  entry = entry;
  text = text;
  end_step = p.end_step;
  room = p.room;
  names = p.names;
  places = p.places;
  globals = p.globals;
  strong_globals = p.strong_globals;
  classes = p.classes;
}
