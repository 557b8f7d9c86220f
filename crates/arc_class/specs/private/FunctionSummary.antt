-- What one pass over the functions of a source keeps.
use Rattle.std.specs.Prelude.{◌≡◌, ℕ, suc, Bool, ◌&&◌, ◌||◌, if◌then◌else◌, List, [], Option, Some, None, option_map}
use Rattle.std.specs.Map.{update}
use Rattle.std.specs.Str.{bytes_eq}
use Rattle.arc_ast.specs.Tree.{FunctionTree}
use Rattle.arc_fault.specs.declared.class.ClassFault.{ClassFault}
use Rattle.arc_class.specs.declared.look.Seen.{Seen}
use Rattle.arc_class.specs.declared.table.Declared.{Declared}
use Rattle.arc_class.specs.BrokenRules.{Broken, first, earlier_of}
use Rattle.arc_class.specs.Classes.{bodies}
use Rattle.arc_class.specs.Fault.{reported}
use Rattle.arc_class.specs.FunctionRules.{is_library, clashes, duplicate}
use Rattle.arc_class.specs.BrokenRules.{in_order}
use Rattle.arc_class.specs.FunctionNames.{has_body, signature, known, number_of, is_main}
use Rattle.arc_class.specs.Lookups.{at_name}

-- what is known is so of these functions
pub record Sums (functions : List FunctionTree) (seen : Seen) : Type 0 where
  pub knows : (name : List ℕ) → at_name seen.known name ≡ known functions name
  pub counts : seen.bodies ≡ bodies functions
  pub main : seen.main ≡ number_of is_main functions
  pub fault : option_map reported seen.fault ≡ first (in_order duplicate [] functions)

-- a number that was found, or else that of a function which passes
abbrev pub or_number : Option ℕ → Bool → ℕ → Option ℕ
or_number (Some found) passes number = Some found
or_number None passes number = if passes then Some number else None

-- what is known of a name, once one more function of the name is seen
abbrev pub joined : Option Declared → ℕ → FunctionTree → Declared
joined None number f = record { signature = signature f; body = or_number None (has_body f) number }
joined (Some d) number f = record { signature = d.signature; body = or_number d.body (has_body f) number }

-- the fault that is reported, once a function is seen too
abbrev pub fault_with : Option ClassFault → Option Declared → FunctionTree → Option Broken
fault_with fault earlier f =
    if is_library f.name || clashes earlier f then earlier_of (option_map reported fault) (Some (record { at = f.at; number = 21 })) else option_map reported fault

-- which function a program begins with, once a function is seen too
abbrev pub main_with : Option ℕ → ℕ → FunctionTree → Option ℕ
main_with main number f = or_number main (is_main f && has_body f) number

-- what is known, once a function is seen too
pub record IsMore (old : Seen) (f : FunctionTree) (new : Seen) : Type 0 where
  pub knows : (name : List ℕ) → at_name new.known name ≡ update bytes_eq (at_name old.known) f.name (Some (joined (at_name old.known f.name) old.bodies f)) name
  pub bodies : new.bodies ≡ (if has_body f then suc old.bodies else old.bodies)
  pub main : new.main ≡ main_with old.main old.bodies f
  pub fault : option_map reported new.fault ≡ fault_with old.fault (at_name old.known f.name) f
