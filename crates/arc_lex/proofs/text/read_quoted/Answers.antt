use Rattle.std.proofs.Common.{◌≡◌, ◌∷◌, ◌+◌, Bool, true, false, get_or, drop, ap, sym, ◌∙◌, subst, arith}
use Rattle.std.proofs.lemmas.Grind.{common_steps}
use Rattle.std.proofs.lemmas.List.{drop_more}
use Rattle.arc_lex.proofs.ReadTexts.{ReadSoFar, same, right_plain, wrong_plain, right_escape, wrong_escape, backslash}
use Rattle.arc_lex.proofs.text.read_quoted.Goals as goal
use Rattle.arc_lex.proofs.text.read_quoted.Goals.{then-escaped+in-Some+in_ok-push-in-Some, then-escaped+in-None, else-escaped+else-b-quote+then-b-eq92, else-escaped+else-b-quote+else-b-eq92+then-is_plain+in_ok-push, else-escaped+else-b-quote+else-b-eq92+else-is_plain}

pub loop-len-preserved : goal.loop-len-preserved
loop-len-preserved c =
    let bytes = c.args.bytes.now in
    let quote = c.args.quote in
    let i = c.loop-len.len in
    let b = get_or bytes i 0 in
    let rest = drop (i + 1) bytes in
    let items = c.loop-len.value.items in
    let here : ReadSoFar quote c.loop-len.right c.loop-len.escaped items i (b ∷ rest) bytes =
    subst (λ us. ReadSoFar quote c.loop-len.right c.loop-len.escaped items i us bytes) (drop_more bytes i 0 (omega arith)) c.loop-len.invariant in
    let known : (e : Bool) → c.loop-len.escaped ≡ e → ReadSoFar quote c.loop-len.right e items i (b ∷ rest) bytes = λ e q. subst (λ u. ReadSoFar quote c.loop-len.right u items i (b ∷ rest) bytes) q here in
    elim c.if-escaped.branch [
      | then-escaped+in-Some+in_ok-push-in-Some w ↦ same quote _ _ _ _ _ _ (i + 1) rest bytes w.right-is w.escaped-is (ap (λ v. v.items) w.value-is ∙ w.in_ok-push-in-Some.ensures.items) (right_escape quote c.loop-len.right items i b rest bytes w.in-Some.byte c.if-b-eq10.false (sym w.escape_value.ensures ∙ w.in-Some.is) (known true w.if-escaped.true))
      | then-escaped+in-None w ↦ same quote _ _ _ _ _ _ (i + 1) rest bytes w.right-is w.escaped-is (ap (λ v. v.items) w.value-is) (wrong_escape quote c.loop-len.right items i b rest bytes c.if-b-eq10.false (sym w.escape_value.ensures ∙ w.in-None.is) (known true w.if-escaped.true))
      | else-escaped+else-b-quote+then-b-eq92 w ↦ same quote _ _ _ _ _ _ (i + 1) rest bytes w.right-is w.escaped-is (ap (λ v. v.items) w.value-is) (backslash quote c.loop-len.right items i b rest bytes w.if-b-quote.false w.if-b-eq92.true (known false w.if-escaped.false))
      | else-escaped+else-b-quote+else-b-eq92+then-is_plain+in_ok-push w ↦ same quote _ _ _ _ _ _ (i + 1) rest bytes w.right-is (w.escaped-is ∙ w.if-escaped.false) (ap (λ v. v.items) w.value-is ∙ w.in_ok-push.ensures.items) (right_plain quote c.loop-len.right items i b rest bytes c.if-b-eq10.false w.if-b-quote.false w.if-b-eq92.false (sym w.is_plain.ensures ∙ w.if-is_plain.true) (known false w.if-escaped.false))
      | else-escaped+else-b-quote+else-b-eq92+else-is_plain w ↦ same quote _ _ _ _ _ _ (i + 1) rest bytes w.right-is (w.escaped-is ∙ w.if-escaped.false) (ap (λ v. v.items) w.value-is) (wrong_plain quote c.loop-len.right items i b rest bytes c.if-b-eq10.false w.if-b-quote.false w.if-b-eq92.false (sym w.is_plain.ensures ∙ w.if-is_plain.false) (known false w.if-escaped.false))
    ]

pub returns-then-b-eq10-clause-value : goal.returns-then-b-eq10-clause-value
returns-then-b-eq10-clause-value c = grind (arith, common_steps)

pub returns-then-b-quote-clause-value : goal.returns-then-b-quote-clause-value
returns-then-b-quote-clause-value c = grind (arith, common_steps)

pub returns-clause-value : goal.returns-clause-value
returns-clause-value c = grind (arith, common_steps)
