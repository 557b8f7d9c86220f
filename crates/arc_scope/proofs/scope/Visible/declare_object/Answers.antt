use Rattle.std.proofs.Common.{◌≡◌, ◌+◌, suc, arith, refl, sym, ap, ◌∙◌, option_map}
use Rattle.arc_class.specs.Table.{number_of_class}
use Rattle.arc_spec.specs.declared.location.Location.TheVariants as location
use Rattle.arc_scope.specs.declared.scope.Local.TheVariants as l
use Rattle.arc_scope.specs.Scopes.{Object}
use Rattle.arc_scope.proofs.VisibleVariables.{object_is}
use Rattle.arc_scope.proofs.scope.Visible.declare_object.Goals as goal

pub overflow_add-self : goal.overflow_add-self
overflow_add-self c = omega (arith, c.has_place.ensures.small c.if-has_place.true)

pub returns-in_ok-push-clause-scope : goal.returns-in_ok-push-clause-scope
returns-in_ok-push-clause-scope c = λ table.
    let old = c.args.self.now in
    let class = option_map number_of_class c.args.class in
    let more : old.names + 1 ≡ suc old.names = omega arith in
    object_is table old (record { class = old.class; sign = old.sign; result = old.result; owns = old.owns; hidden = old.hidden; bound = c.push.new.self; next = old.next; names = old.names + 1 }) (record { name = c.args.name; local = l.Object (location.Local c.from.result) c.args.class }) class
    (sym (c.has_place.ensures.scope table) ∙ c.if-has_place.true) refl refl refl refl refl c.in_ok-push.ensures.items (ap (λ n. Object (location.Local n) class) c.from.ensures) refl more

pub returns-else-has_place-clause-scope : goal.returns-else-has_place-clause-scope
returns-else-has_place-clause-scope c = λ table. rw (sym (c.has_place.ensures.scope table) ∙ c.if-has_place.false) refl
