use Rattle.std.proofs.Common.{◌≡◌, ℕ, ◌+◌, ◌<◌, Bool, true, false, List, ◌∷◌, length, get_or, drop, drop-cons, add-one, Option, Some, None, option_map, is_some, if◌then◌else◌, refl, sym, ap, ◌∙◌, true≢false}
use Rattle.std.proofs.lemmas.List.{drop_all}
use Rattle.std.proofs.lemmas.Option.{none-some}
use Rattle.arc_ast.specs.declared.tree.Parameter.{Parameter}
use Rattle.arc_ast.specs.Tree.{type_tree, parameter_trees}
use Rattle.arc_ast.specs.Types.{type_kind}
use Rattle.arc_fault.specs.declared.own.OwnFault.{OwnFault}
use Rattle.arc_sites.specs.Violations.{first, at_if, violates}
use Rattle.arc_family.specs.Fault.{reported}
use Rattle.arc_family.specs.Rules as rules
use Rattle.arc_family.proofs.rules.misqualified_among.Goals as goal

-- whether a parameter has qualifiers that can't stand
abbrev wrong : Parameter → Bool
wrong p = rules.is_misqualified p.qualifiers (type_kind (type_tree p.type_name))

-- a parameter and those after it
from_here : (all : List Parameter) (i : ℕ) (p : Parameter) → i < length all → p ≡ get_or all i p
    → rules.misqualified_among (parameter_trees (drop i all)) ≡ (if wrong p then Some p.at else rules.misqualified_among (parameter_trees (drop (i + 1) all)))
from_here all i p l e =
    let turn : drop i all ≡ p ∷ drop (i + 1) all = drop-cons all i p l ∙ rw (sym e, add-one) refl in
    ap (λ us. rules.misqualified_among (parameter_trees us)) turn

-- a fault is found of this one
here : (fault : Option OwnFault) (broken : Bool) (at : ℕ) (rest : Option ℕ) → option_map reported fault ≡ first (violates 67 (at_if broken at)) → is_some fault ≡ true
    → option_map reported fault ≡ first (violates 67 (if broken then Some at else rest))
here fault true at rest e s = e
here None false at rest e s = absurd (true≢false (sym s))
here (Some f) false at rest e s = absurd (none-some (reported f) (sym e))

-- none is found
not_here : (fault : Option OwnFault) (broken : Bool) (at : ℕ) (rest : Option ℕ) → option_map reported fault ≡ first (violates 67 (at_if broken at)) → is_some fault ≡ false
    → (if broken then Some at else rest) ≡ rest
not_here None true at rest e s = absurd (none-some _ e)
not_here fault false at rest e s = refl
not_here (Some f) true at rest e s = absurd (true≢false s)

pub returns-then-is_some : goal.returns-then-is_some
returns-then-is_some c =
    let all = c.args.all.now in
    let i = c.loop-parameter.parameter-index in
    let p = c.parameter-item.result in
    here c.misqualified-fault.result (wrong p) p.at _ c.misqualified-fault.ensures (sym c.is_some.ensures ∙ c.if-is_some.true)
    ∙ ap (λ o. first (violates 67 o)) (sym (c.loop-parameter.invariant ∙ from_here all i p c.loop-parameter-test.true c.parameter-item.is))

pub loop-parameter-preserved : goal.loop-parameter-preserved
loop-parameter-preserved c =
    let all = c.args.all.now in
    let i = c.loop-parameter.parameter-index in
    let p = c.parameter-item.result in
    c.loop-parameter.invariant ∙ from_here all i p c.loop-parameter-test.true c.parameter-item.is
    ∙ not_here c.misqualified-fault.result (wrong p) p.at _ c.misqualified-fault.ensures (sym c.is_some.ensures ∙ c.if-is_some.false)

pub returns : goal.returns
returns c =
    let all = c.args.all.now in
    let ended = drop_all c.loop-parameter.parameter-index all c.loop-parameter-test.false in
    ap (λ o. first (violates 67 o)) (sym (c.loop-parameter.invariant ∙ ap (λ us. rules.misqualified_among (parameter_trees us)) ended))
