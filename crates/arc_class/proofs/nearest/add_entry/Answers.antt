use Rattle.std.proofs.Common.{◌≡◌, ◌-◌, ◌∙◌, ◌++◌, ◌∷◌, [], suc, length, Bool, List, ℕ, is_some, sym, ap, arith}
use Rattle.std.proofs.Math.Path.{fun_ext}
use Rattle.arc_class.specs.Lookups.{at_name, head_at}
use Rattle.arc_class.specs.Owners.{views, view_at, with_own, entry_view}
use Rattle.arc_class.proofs.nearest.add_entry.Goals as goal

pub returns-then-class-eq0-clause-added : goal.returns-then-class-eq0-clause-added
returns-then-class-eq0-clause-added c =
    let all = views c.args.owners.now in
    c.in_ok-add_root.ensures.added ∙ ap (λ n. all ++ entry_view n c.args.entry.now c.args.sign all ∷ []) (sym c.if-class-eq0.true)

pub returns-clause-added : goal.returns-clause-added
returns-clause-added c =
    let all = views c.args.owners.now in
    let e = c.args.entry.now in
    let sign = c.args.sign in
    let above = view_at all e.superclass in
    let n = c.args.class - 1 in
    let number : c.args.class ≡ suc n = omega arith in
    let same : (λ (name : List ℕ). is_some (at_name c.of.result.now name)) ≡ (λ name. is_some (head_at e.methods sign name)) = fun_ext (λ name. ap is_some (c.of.ensures name)) in
    c.in_ok-add_class.ensures.added
    ∙ ap (λ (passes : List ℕ → Bool). all ++ with_own passes (length all) above ∷ []) same
    ∙ ap (λ m. all ++ with_own (λ name. is_some (head_at e.methods sign name)) m above ∷ []) (sym c.requires.next ∙ number)
    ∙ ap (λ m. all ++ entry_view m e sign all ∷ []) (sym number)
