use Rattle.std.proofs.Common.{◌≡◌, ◌+◌, suc, arith, refl, sym, ap, ◌∙◌}
use Rattle.arc_spec.specs.declared.location.Location.TheVariants as location
use Rattle.arc_scope.specs.declared.scope.Local.TheVariants as l
use Rattle.arc_scope.specs.Scopes.{Number}
use Rattle.arc_scope.proofs.VisibleVariables.{number_is}
use Rattle.arc_scope.proofs.scope.Visible.declare_number.Goals as goal

pub overflow_add-self : goal.overflow_add-self
overflow_add-self c = omega (arith, c.has_place.ensures.small c.if-has_place.true)

pub returns-in_ok-push-clause-scope : goal.returns-in_ok-push-clause-scope
returns-in_ok-push-clause-scope c = λ table.
    let old = c.args.self.now in
    let more : old.next + 1 ≡ suc old.next = omega arith in
    number_is table old (record { class = old.class; sign = old.sign; result = old.result; owns = old.owns; hidden = old.hidden; bound = c.push.new.self; next = old.next + 1; names = old.names }) (record { name = c.args.name; local = l.Number c.args.kind (location.Local c.from.result) }) c.args.kind (sym (c.has_place.ensures.scope table) ∙ c.if-has_place.true) refl refl refl refl refl
    c.in_ok-push.ensures.items (ap (λ n. Number c.args.kind (location.Local n)) c.from.ensures) more refl

pub returns-else-has_place-clause-scope : goal.returns-else-has_place-clause-scope
returns-else-has_place-clause-scope c = λ table. rw (sym (c.has_place.ensures.scope table) ∙ c.if-has_place.false) refl
