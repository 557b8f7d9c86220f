use Rattle.std.proofs.Common.{◌≡◌, ◌+◌, ◌/◌, length, refl, sym, ap, ◌∙◌, arith}
use Rattle.arc_heap.specs.declared.mark.Mark.TheVariants.{Inside}
use Rattle.arc_heap.proofs.BlockRowUpdate.{IsLonger, same_marks, cut_arranged, cut_is, last_is_none}
use Rattle.arc_heap.proofs.plain.PlainStore.cut.Goals as goal

pub invariant_of-self-2 : goal.invariant_of-self-2
invariant_of-self-2 c =
    let marks = c.self.inside.marks.items in let words = c.self.inside.words.items in
    let longer = c.resize-2.new.self.items in let new = c.resize.new.self.items in
    let row : c.len-row.result ≡ length marks = c.len-row.ensures ∙ c.self.inside.marks.ok.0 in
    let first : c.len-first.result ≡ length words = c.len-first.ensures ∙ c.self.inside.words.ok.0 in
    let size = c.words_in-size.ensures.size in
    let more : IsLonger marks longer words new c.args.class = record {
      above = c.requires.0;
      known = c.requires.1;
      rows = sym c.resize-2.new.self.ok.0 ∙ c.in-Ok-resize.ensures.len ∙ ap (λ n. n + c.words_in-size.result / 4) row ∙ ap (λ n. length marks + n / 4) size;
      marks_kept = same_marks marks longer (omega (arith, c.resize-2.new.self.ok, c.in-Ok-resize.ensures.len, row))
          (λ r below. c.in-Ok-resize.ensures.by_index.0 r Inside (omega (arith, below, row)) (omega (arith, below, c.self.inside.marks.ok)))
          (λ r past below. c.in-Ok-resize.ensures.by_index.1 r Inside refl (omega (arith, past, c.self.inside.marks.ok)) (omega (arith, below, c.resize-2.new.self.ok, c.in-Ok-resize.ensures.len)));
      size = omega (arith, c.resize.new.self.ok, c.in-Ok.ensures.len, first, size);
      words_kept = λ i below. c.in-Ok.ensures.by_index.0 i 0 (omega (arith, below, first)) (omega (arith, below, c.self.inside.words.ok));
      zeros = λ i past below. c.in-Ok.ensures.by_index.1 i 0 refl (omega (arith, past, c.self.inside.words.ok)) (omega (arith, below, first, size));
    } in
    cut_arranged marks longer words new c.args.class c.len-row.result row c.self.invariant more

pub returns-clause-fresh : goal.returns-clause-fresh
returns-clause-fresh c =
    let marks = c.self.inside.marks.items in let words = c.self.inside.words.items in
    let row : c.len-row.result ≡ length marks = c.len-row.ensures ∙ c.self.inside.marks.ok.0 in
    rw (← c.self.view_is) (last_is_none marks words c.len-row.result row)

pub returns-clause-taken : goal.returns-clause-taken
returns-clause-taken c =
    let marks = c.self.inside.marks.items in let words = c.self.inside.words.items in
    let longer = c.resize-2.new.self.items in let new = c.resize.new.self.items in
    let row : c.len-row.result ≡ length marks = c.len-row.ensures ∙ c.self.inside.marks.ok.0 in
    let first : c.len-first.result ≡ length words = c.len-first.ensures ∙ c.self.inside.words.ok.0 in
    let size = c.words_in-size.ensures.size in
    let more : IsLonger marks longer words new c.args.class = record {
      above = c.requires.0;
      known = c.requires.1;
      rows = sym c.resize-2.new.self.ok.0 ∙ c.in-Ok-resize.ensures.len ∙ ap (λ n. n + c.words_in-size.result / 4) row ∙ ap (λ n. length marks + n / 4) size;
      marks_kept = same_marks marks longer (omega (arith, c.resize-2.new.self.ok, c.in-Ok-resize.ensures.len, row))
          (λ r below. c.in-Ok-resize.ensures.by_index.0 r Inside (omega (arith, below, row)) (omega (arith, below, c.self.inside.marks.ok)))
          (λ r past below. c.in-Ok-resize.ensures.by_index.1 r Inside refl (omega (arith, past, c.self.inside.marks.ok)) (omega (arith, below, c.resize-2.new.self.ok, c.in-Ok-resize.ensures.len)));
      size = omega (arith, c.resize.new.self.ok, c.in-Ok.ensures.len, first, size);
      words_kept = λ i below. c.in-Ok.ensures.by_index.0 i 0 (omega (arith, below, first)) (omega (arith, below, c.self.inside.words.ok));
      zeros = λ i past below. c.in-Ok.ensures.by_index.1 i 0 refl (omega (arith, past, c.self.inside.words.ok)) (omega (arith, below, first, size));
    } in
    rw (← c.self.view_is) (cut_is marks longer words new c.args.class c.len-row.result row c.self.invariant more)
