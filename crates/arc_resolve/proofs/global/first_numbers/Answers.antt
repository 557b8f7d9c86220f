use Rattle.std.proofs.Common.{◌≡◌, [], ◌∷◌, ◌++◌, sym, ap, ◌∙◌, rules, to_z, of_z, w64}
use Rattle.arc_resolve.proofs.InitialGlobals.{number_turn, number_pass, number_end}
use Rattle.arc_resolve.proofs.global.first_numbers.Goals as goal
use Rattle.arc_resolve.proofs.global.first_numbers.Goals.{then-not-names_objects+in_ok-push, else-not-names_objects}

pub loop-global-preserved : goal.loop-global-preserved
loop-global-preserved c =
    let xs = c.args.globals.now in
    let i = c.loop-global.global-index in
    let x = c.global-item.result in
    let old = c.loop-global.all.items in
    let all = c.if-not-names_objects.all.items in
    let named = c.names_objects.result in
    elim c.if-not-names_objects.branch [
      | then-not-names_objects+in_ok-push w ↦
          let first = w.first_number.result in
          let same : first ≡ to_z w64 (of_z w64 first) = search rules in
          number_turn xs i x named first old all _ c.loop-global-test.true c.global-item.is c.names_objects.ensures w.if-not-names_objects.true w.first_number.ensures
          (ap (λ v. v.items) w.all-is ∙ w.in_ok-push.ensures.items ∙ ap (λ n. old ++ n ∷ []) (sym same)) c.loop-global.invariant
      | else-not-names_objects w ↦ number_pass xs i x named old all _ c.loop-global-test.true c.global-item.is c.names_objects.ensures w.if-not-names_objects.false (ap (λ v. v.items) w.all-is) c.loop-global.invariant
    ]

pub returns : goal.returns
returns c = number_end c.args.globals.now c.loop-global.global-index c.loop-global.all.items _ c.loop-global-test.false c.loop-global.invariant
