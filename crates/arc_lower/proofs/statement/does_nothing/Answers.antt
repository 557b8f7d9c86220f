use Rattle.std.proofs.Common.{◌≡◌, ℕ, zero, suc, length, Bool, true, false, List, [], ◌∷◌, refl, sym, ap, ◌∙◌, arith}
use Rattle.std.proofs.lemmas.Bool.{eqb-true}
use Rattle.std.specs.Bool.{◌==◌}
use Rattle.arc_spec.specs.Resolved.{Sequence}
use Rattle.arc_checked.specs.declared.program.Command.{Command}
use Rattle.arc_checked.specs.Checked.{command, commands}
use Rattle.arc_lower.specs.Size.{does_nothing}
use Rattle.arc_checked.proofs.NodeParts.{sequence_command}
use Rattle.arc_lower.proofs.statement.does_nothing.Goals as goal

no_zero : (n : ℕ) (b : Bool) → (suc n == 0) ≡ b → b ≡ false
no_zero n true e = let same = eqb-true (suc n) 0 e in absurd (omega (arith, same))
no_zero n false e = refl

none_left : (first : ℕ) (all : List Command) → (length all == 0) ≡ does_nothing (Sequence first zero (commands all))
none_left first [] = refl
none_left first (a ∷ others) = no_zero (length others) _ refl

pub returns-then-count-eq0 : goal.returns-then-count-eq0
returns-then-count-eq0 c =
    let s = c.in-Sequence in
    c.is_empty.ensures ∙ ap (λ n. n == 0) s.all.ok.0 ∙ none_left s.field-0 s.all.items
    ∙ ap (λ n. does_nothing (Sequence s.field-0 n (commands s.all.items))) (sym c.if-count-eq0.true)
    ∙ ap does_nothing (sym (sequence_command s.field-0 s.count s.all)) ∙ ap (λ x. does_nothing (command x)) (sym s.is)
