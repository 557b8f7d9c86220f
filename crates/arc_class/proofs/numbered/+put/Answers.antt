use Rattle.std.proofs.Common.{◌≡◌, ◌-◌, ◌/◌, ◌∙◌, ◌++◌, ◌∷◌, [], length, suc, ap, sym, subst, ℕ, Option, List, arith}
use Rattle.arc_class.specs.declared.numbered.Node.{Node}
use Rattle.arc_class.specs.NumberMaps.{side, node_at, with_side, IsWithin, Puts}
use Rattle.arc_class.proofs.NumberMapUpdates.{half_fits, side_within, put_last, put_turn}
use Rattle.arc_class.proofs.numbered.+put.Goals as goal

pub returns-then-levels-eq0-clause-put : goal.returns-then-levels-eq0-clause-put
returns-then-levels-eq0-clause-put t c =
    put_last c.args.nodes.now.items c.args.levels c.args.first c.args.number c.args.value c.if-levels-eq0.true c.requires.fits

pub put-requires : goal.put-requires
put-requires t c =
    let levels = c.args.levels in
    let nodes = c.args.nodes.now.items in
    let e : levels ≡ suc (levels - 1) = omega arith in
    let on_side : side (node_at nodes c.args.first) c.args.number ≡ c.side.result =
    ap (λ ns. side (node_at ns c.args.first) c.args.number) (sym c.deref.ensures.value) ∙ ap (λ node. side node c.args.number) (sym c.node_at-node.ensures) ∙ sym c.side.ensures in
    let Within : Option ℕ → Type 0 = λ at. IsWithin (levels - 1) nodes at in (
      omega (arith, c.decreases),
      (subst Within on_side (side_within levels (levels - 1) nodes c.args.first c.args.number e c.requires.within), half_fits levels (levels - 1) c.args.number e c.requires.fits),
    )

pub returns-clause-put : goal.returns-clause-put
returns-clause-put t c =
    let levels = c.args.levels in
    let first = c.args.first in
    let number = c.args.number in
    let value = c.args.value in
    let old = c.args.nodes.now.items in
    let mid = c.put.new.nodes.items in
    let below = c.in_ok-below.below in
    let e : levels ≡ suc (levels - 1) = omega arith in
    let node : c.node_at-node.result ≡ node_at old first = c.node_at-node.ensures ∙ ap (λ ns. node_at ns first) c.deref.ensures.value in
    let on_side : c.side.result ≡ side (node_at old first) number = c.side.ensures ∙ ap (λ n. side n number) node in
    let Below : Option ℕ → Type 0 = λ at. Puts (levels - 1) old mid at (number / 2) value below in
    let done = put_turn levels (levels - 1) old mid first number value below e c.requires.within (subst Below on_side c.in_ok-below.ensures.put) in
    let is_added : with_side (node_at old first) number below ≡ c.with_side.result = ap (λ n. with_side n number below) (sym node) ∙ sym c.with_side.ensures in
    let all : mid ++ with_side (node_at old first) number below ∷ [] ≡ c.push.new.self.items = ap (λ n. mid ++ n ∷ []) is_added ∙ sym c.in_ok-push.ensures.items in
    let at : length mid ≡ c.in-Ok.at = sym (c.in-Ok.ensures.1 ∙ ap length c.deref-parts.ensures.value) in
    let New : List Node → Type 0 = λ ns. Puts levels old ns first number value (length mid) in
    let At : ℕ → Type 0 = λ n. Puts levels old c.push.new.self.items first number value n in
    subst At at (subst New all done)
