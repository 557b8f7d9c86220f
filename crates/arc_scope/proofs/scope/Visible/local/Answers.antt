use Rattle.std.proofs.Common.{◌≡◌, ◌≤◌, ◌-◌, ℕ, suc, true, false, List, [], ◌∷◌, ◌++◌, length, get_or, take, Some, if◌then◌else◌, sym, ap, ◌∙◌, arith}
use Rattle.std.proofs.Math.Seq.{take-suc}
use Rattle.std.proofs.lemmas.List.{take_all}
use Rattle.std.specs.Str.{bytes_eq}
use Rattle.arc_scope.specs.declared.scope.Bound.{Bound}
use Rattle.arc_scope.specs.Scopes.{bound}
use Rattle.arc_scope.specs.Views.{local_of, local_in}
use Rattle.arc_scope.proofs.VisibleVariables.{local_in-push}
use Rattle.arc_scope.proofs.scope.Visible.local.Goals as goal

-- the last of some variables is one that has the name, or else the last of those before it
last_of : (all : List Bound) (left count : ℕ) (one : Bound) (name : List ℕ) → left ≡ suc count → left ≤ length all → one ≡ get_or all count one
    → local_in (take left all) name ≡ bound one.name.now (local_of one.local) (local_in (take count all)) name
last_of all left count one name e within is =
    ap (λ n. local_in (take n all) name) e
    ∙ ap (λ some. local_in some name) (take-suc all count one (omega arith) ∙ ap (λ b. take count all ++ b ∷ []) (sym is))
    ∙ local_in-push (take count all) one name

pub loop-left-init : goal.loop-left-init
loop-left-init c =
    let all = c.args.self.now.bound.items in
    let count : c.len-left.result ≡ length all = c.len-left.ensures ∙ c.args.self.now.bound.ok.0 in
    (omega arith, ap (λ some. local_in some c.args.name.now) (take_all c.len-left.result all (omega arith)))

pub loop-left-preserved : goal.loop-left-preserved
loop-left-preserved c =
    let all = c.args.self.now.bound.items in
    let name = c.args.name.now in
    let left = c.loop-left.left in
    let one = c.index.result.now in
    let turn = last_of all left (left - 1) one name (omega arith) c.loop-left.invariant.0 c.index.ensures in
    let other : bytes_eq one.name.now name ≡ false = sym c.eq.ensures ∙ c.if-eq.false in
    (omega arith, sym (turn ∙ ap (λ b. if b then Some (local_of one.local) else local_in (take (left - 1) all) name) other) ∙ c.loop-left.invariant.1)

pub returns-then-eq : goal.returns-then-eq
returns-then-eq c =
    let all = c.args.self.now.bound.items in
    let name = c.args.name.now in
    let left = c.loop-left.left in
    let one = c.index.result.now in
    let turn = last_of all left (left - 1) one name (omega arith) c.loop-left.invariant.0 c.index.ensures in
    let same : bytes_eq one.name.now name ≡ true = sym c.eq.ensures ∙ c.if-eq.true in
    sym (turn ∙ ap (λ b. if b then Some (local_of one.local) else local_in (take (left - 1) all) name) same) ∙ c.loop-left.invariant.1

pub returns : goal.returns
returns c =
    let none : c.loop-left.left ≡ 0 = omega arith in
    sym (ap (λ left. local_in (take left c.args.self.now.bound.items) c.args.name.now) none) ∙ c.loop-left.invariant.1
