use Rattle.std.proofs.Common.{◌≡◌, ℕ, ◌<◌, ◌≤◌, ◌+◌, ◌-◌, ◌*◌, ◌⊎◌, length, get_or, drop, sym, subst, ap, ◌∙◌, arith}
use Rattle.arc_heap.specs.declared.mark.Mark.TheVariants.{Out, Free}
use Rattle.arc_heap.specs.BlockLayout.{mark_at, extent, class_at}
use Rattle.arc_heap.proofs.WordSegments.{take_first}
use Rattle.arc_heap.proofs.BlockRowUpdate.{remarked, free_is_none, taken_again}
use Rattle.arc_heap.proofs.plain.PlainStore.reuse.Goals as goal

pub invariant_of-self : goal.invariant_of-self
invariant_of-self c =
    let marks = c.self.inside.marks.items in let words = c.self.inside.words.items in let place = get_or c.self.inside.free c.args.class 0 in
    let above : 0 < place = omega (arith, c.if-at-eq0.false) in
    let free = subst (λ m. (place - 1 < length m) × (mark_at m (place - 1) ≡ Free c.args.class)) c.deref.ensures.value (c.is_free.ensures (cc c.if-not-is_free.false)) in
    let same_length : length c.clear.new.words ≡ length words = c.clear.ensures.size ∙ ap length c.deref_mut.ensures.value in
    let all = take_first c.clear.new.words (drop (length c.clear.new.words) words) c.self.inside.words.len (c.self.inside.words.ok.0 ∙ sym same_length) in
    rw (all, same_length) (remarked marks (length words) (place - 1) (Out c.args.class) c.self.invariant free.0 (sym (ap extent free.1)) (sym (ap class_at free.1)))

pub returns-clause-fresh : goal.returns-clause-fresh
returns-clause-fresh c =
    let marks = c.self.inside.marks.items in let words = c.self.inside.words.items in let place = get_or c.self.inside.free c.args.class 0 in
    let above : 0 < place = omega (arith, c.if-at-eq0.false) in
    let free = subst (λ m. (place - 1 < length m) × (mark_at m (place - 1) ≡ Free c.args.class)) c.deref.ensures.value (c.is_free.ensures (cc c.if-not-is_free.false)) in
    rw (← c.self.view_is) (free_is_none marks words place c.args.class above free.1)

pub returns-clause-taken : goal.returns-clause-taken
returns-clause-taken c =
    let marks = c.self.inside.marks.items in let words = c.self.inside.words.items in let place = get_or c.self.inside.free c.args.class 0 in
    let above : 0 < place = omega (arith, c.if-at-eq0.false) in
    let free = subst (λ m. (place - 1 < length m) × (mark_at m (place - 1) ≡ Free c.args.class)) c.deref.ensures.value (c.is_free.ensures (cc c.if-not-is_free.false)) in
    let same_length : length c.clear.new.words ≡ length words = c.clear.ensures.size ∙ ap length c.deref_mut.ensures.value in
    let all = take_first c.clear.new.words (drop (length c.clear.new.words) words) c.self.inside.words.len (c.self.inside.words.ok.0 ∙ sym same_length) in
    let size = c.words_in.ensures.size in
    let zeros = subst (λ n. (i : ℕ) → 4 * (place - 1) ≤ i → i < 4 * (place - 1) + n → get_or c.clear.new.words i 0 ≡ 0) size c.clear.ensures.zeros in
    let others = subst (λ n. (i : ℕ) → (i < 4 * (place - 1)) ⊎ (4 * (place - 1) + n ≤ i) → get_or c.clear.new.words i 0 ≡ get_or words i 0) size (subst (λ old. (i : ℕ) → (i < 4 * (place - 1)) ⊎ (4 * (place - 1) + c.words_in.result ≤ i) → get_or c.clear.new.words i 0 ≡ get_or old i 0) c.deref_mut.ensures.value c.clear.ensures.others) in
    rw (all, ← c.self.view_is) (taken_again marks words c.clear.new.words place c.args.class c.self.invariant above free.0 free.1 same_length zeros others)
