-- What loops read that join it to what there is.
use Rattle.arc_form.specs.Kinds.{Kinds}
use Rattle.arc_form.specs.Operators.{fold}
use Rattle.arc_form.specs.Reader.{Reader, ◌>>=◌, ret, loop}

-- what a loop reads, joined from the left to what there is
abbrev pub joining : {A B : Type 0} → Kinds → Reader A → (B → A → B) → B → Reader B
joining T f join b = loop T f >>= (λ all. ret (fold join b all))
