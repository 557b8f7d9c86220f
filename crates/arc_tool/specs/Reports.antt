-- How a refusal is reported, which is this project's own choice.
use Rattle.std.specs.Prelude.{◌≡◌, ◌⊎◌, ℕ, List, codes}
use Rattle.arc_fault.specs.Report.{Report}
use Rattle.arc_tool.specs.declared.refusal.Refusal.{Refusal}

-- the refusal has this name
abbrev pub Names : List ℕ → Refusal → Type 0
Names name r = r.name.now ≡ name

-- the refusal has this number, this name and this place
pub record Reports (report : Report) (r : Refusal) : Type 0 where
  pub number_is : r.number ≡ report.number
  pub name_is : Names report.name r
  pub at_is : r.at ≡ report.at

-- what a refusal becomes: a want of memory is reported as one
abbrev pub Becomes : {E : Type 0} → (memory : E) → (refused : Refusal → E) → Refusal → E → Type 0
Becomes memory refused r e = (Names (codes "Memory") r × (e ≡ memory)) ⊎ ((Names (codes "Memory") r → ⊥) × (e ≡ refused r))
