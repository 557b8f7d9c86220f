use Rattle.std.proofs.Common.{◌≡◌, ℕ, zero, suc, ◌∷◌, replicate, refl, ap, ◌∙◌, rules}
use Rattle.arc_spec.specs.Classes.{classes_of}
use Rattle.arc_spec.specs.Objects.{nils}
use Rattle.arc_cells.specs.Representation.{orders_of}
use Rattle.arc_cells.proofs.objects.variables_for.Goals as goal

all_nil : (n : ℕ) → replicate n 0 ≡ nils n
all_nil zero = refl
all_nil (suc n) = ap (λ l. 0 ∷ l) (all_nil n)

pub returns : goal.returns
returns c =
    let strong = c.in_ok-strong_globals.ensures.items_if_clones_equal (λ y e. e) ∙ all_nil c.args.code.now.strong_globals in
    let orders = c.in_ok-orders.ensures ∙ ap (λ cs. orders_of (classes_of cs)) c.deref-2.ensures.value in
    (search rules, strong, orders)
