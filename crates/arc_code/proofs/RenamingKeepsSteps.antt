-- An instruction with other names does what it did, where the names stand for the same.
use Rattle.std.proofs.Common.{◌≡◌, ℕ, List, Option, Some, arith}
use Rattle.arc_spec.specs.declared.class.Gives.{Gives}
use Rattle.arc_code.specs.declared.instr.Instr.{Instr}
use Rattle.arc_code.specs.declared.instr.Instr.TheVariants.{PrintText, Call}
use Rattle.arc_code.specs.Instructions.{Program, State, executes}
use Rattle.arc_code.specs.InstructionRenaming.{renamed, relinked}

module _ {J F T K G U : Type 0} (p : Program J F T) (instrs : List (Instr K G U)) (lands : ℕ → K → ℕ) (entry : G → Option ℕ) (text_of : U → Option (List ℕ)) (jump : J → K) (call : F → G) (text : T → U) (s : State) where
  pub renamed_same : (x : Instr J F T) → ((j : J) → lands s.at (jump j) ≡ p.lands s.at j) → ((f : F) → (wanted : Gives) × (x ≡ Call f wanted) → entry (call f) ≡ p.entry f) → ((t : T) → x ≡ PrintText t → text_of (text t) ≡ p.text t) → executes (relinked p instrs lands entry text_of) (Some (renamed jump call text x)) s ≡ executes p (Some x) s
  renamed_same x jumps calls texts = search (arith, jumps, calls, texts)
