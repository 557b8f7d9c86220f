use Rattle.std.proofs.Common.{◌≡◌, ◌-◌, ◌*◌, length, get_or, sym, ap, ◌∙◌, arith}
use Rattle.std.proofs.lemmas.List.{get_or_read_under, length-set}
use Rattle.arc_heap.specs.declared.mark.Mark.TheVariants.{Inside, Out, Free}
use Rattle.arc_heap.specs.BlockLayout.{mark_at, extent, class_at}
use Rattle.arc_heap.proofs.BlockRowUpdate.{block_out, some_words, remarked, given}
use Rattle.arc_heap.proofs.plain.PlainStoreStore.give.Goals as goal

pub index-requires : goal.index-requires
index-requires c =
    let marks = c.self.inside.marks.items in let words = c.self.inside.words.items in let place = c.args.block.at in
    let at = block_out marks words _ place c.self.view_is c.self.invariant c.args.block.above_zero c.requires in
    omega (arith, at.row, c.self.inside.marks.ok)

pub index_mut-requires : goal.index_mut-requires
index_mut-requires c =
    let marks = c.self.inside.marks.items in let words = c.self.inside.words.items in let place = c.args.block.at in
    let at = block_out marks words _ place c.self.view_is c.self.invariant c.args.block.above_zero c.requires in
    omega (arith, at.row, c.self.inside.marks.ok)

pub bounds-self-inside-class : goal.bounds-self-inside-class
bounds-self-inside-class c =
    let marks = c.self.inside.marks.items in let words = c.self.inside.words.items in let place = c.args.block.at in
    let at = block_out marks words _ place c.self.view_is c.self.invariant c.args.block.above_zero c.requires in
    let read = get_or_read_under marks (place - 1) _ c.index.result.now Inside c.index.ensures (omega (arith, at.row, c.self.inside.marks.ok)) c.self.inside.marks.ok.0 in
    let marked : mark_at marks (place - 1) ≡ Out c.in-Out.class = sym read ∙ c.in-Out.is in
    let class_is : at.class ≡ c.in-Out.class = ap class_at (sym at.marked ∙ marked) in
    omega (arith, class_is, at.known)

pub overflow_mul-row : goal.overflow_mul-row
overflow_mul-row c =
    let marks = c.self.inside.marks.items in let words = c.self.inside.words.items in let place = c.args.block.at in
    let at = block_out marks words _ place c.self.view_is c.self.invariant c.args.block.above_zero c.requires in
    record { fits = omega (arith, at.inside, c.self.inside.words.ok, c.self.inside.words.small) }

pub index_mut-requires-in-Out : goal.index_mut-requires-in-Out
index_mut-requires-in-Out c =
    let marks = c.self.inside.marks.items in let words = c.self.inside.words.items in let place = c.args.block.at in
    let at = block_out marks words _ place c.self.view_is c.self.invariant c.args.block.above_zero c.requires in
    omega (arith, at.inside, some_words at.class, c.self.inside.words.ok)

pub bounds-self-inside-class-in-Out : goal.bounds-self-inside-class-in-Out
bounds-self-inside-class-in-Out c =
    let marks = c.self.inside.marks.items in let words = c.self.inside.words.items in let place = c.args.block.at in
    let at = block_out marks words _ place c.self.view_is c.self.invariant c.args.block.above_zero c.requires in
    let read = get_or_read_under marks (place - 1) _ c.index.result.now Inside c.index.ensures (omega (arith, at.row, c.self.inside.marks.ok)) c.self.inside.marks.ok.0 in
    let marked : mark_at marks (place - 1) ≡ Out c.in-Out.class = sym read ∙ c.in-Out.is in
    let class_is : at.class ≡ c.in-Out.class = ap class_at (sym at.marked ∙ marked) in
    omega (arith, class_is, at.known)

pub invariant_of-self : goal.invariant_of-self
invariant_of-self c =
    let marks = c.self.inside.marks.items in let words = c.self.inside.words.items in let place = c.args.block.at in
    let at = block_out marks words _ place c.self.view_is c.self.invariant c.args.block.above_zero c.requires in
    let read = get_or_read_under marks (place - 1) _ c.index.result.now Inside c.index.ensures (omega (arith, at.row, c.self.inside.marks.ok)) c.self.inside.marks.ok.0 in
    let marked : mark_at marks (place - 1) ≡ Out c.in-Out.class = sym read ∙ c.in-Out.is in
    rw (length-set words (4 * (place - 1)) (get_or c.self.inside.free c.in-Out.class 0)) (remarked marks (length words) (place - 1) (Free c.in-Out.class) c.self.invariant at.row (sym (ap extent marked)) (sym (ap class_at marked)))

pub returns-in-Out-clause-given : goal.returns-in-Out-clause-given
returns-in-Out-clause-given c =
    let marks = c.self.inside.marks.items in let words = c.self.inside.words.items in let place = c.args.block.at in
    let at = block_out marks words _ place c.self.view_is c.self.invariant c.args.block.above_zero c.requires in
    let read = get_or_read_under marks (place - 1) _ c.index.result.now Inside c.index.ensures (omega (arith, at.row, c.self.inside.marks.ok)) c.self.inside.marks.ok.0 in
    let marked : mark_at marks (place - 1) ≡ Out c.in-Out.class = sym read ∙ c.in-Out.is in
    rw (← c.self.view_is) (given marks words place c.in-Out.class (get_or c.self.inside.free c.in-Out.class 0) c.self.invariant c.args.block.above_zero at.row marked)

pub returns-in_default : goal.returns-in_default
returns-in_default c =
    let marks = c.self.inside.marks.items in let words = c.self.inside.words.items in let place = c.args.block.at in
    let at = block_out marks words _ place c.self.view_is c.self.invariant c.args.block.above_zero c.requires in
    let read = get_or_read_under marks (place - 1) _ c.index.result.now Inside c.index.ensures (omega (arith, at.row, c.self.inside.marks.ok)) c.self.inside.marks.ok.0 in
    absurd (c.in_default.not-Out at.class (read ∙ at.marked))
