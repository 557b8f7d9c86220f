use Rattle.std.proofs.Common.{arith}
use Rattle.arc_heap.proofs.BlockRowUpdate.{word_out, has_word, stored}
use Rattle.arc_heap.proofs.plain.PlainStoreStore.store.Goals as goal

pub overflow_mul-block : goal.overflow_mul-block
overflow_mul-block c =
    let at = word_out c.self.inside.marks.items c.self.inside.words.items _ c.args.block.at c.args.i c.self.view_is c.self.invariant c.args.block.above_zero c.requires in
    record { fits = omega (arith, at.within, c.self.inside.words.ok, c.self.inside.words.small) }

pub overflow_add-block : goal.overflow_add-block
overflow_add-block c =
    let at = word_out c.self.inside.marks.items c.self.inside.words.items _ c.args.block.at c.args.i c.self.view_is c.self.invariant c.args.block.above_zero c.requires in
    record { fits = omega (arith, at.within, c.self.inside.words.ok, c.self.inside.words.small) }

pub index_mut-requires : goal.index_mut-requires
index_mut-requires c =
    let at = word_out c.self.inside.marks.items c.self.inside.words.items _ c.args.block.at c.args.i c.self.view_is c.self.invariant c.args.block.above_zero c.requires in
    omega (arith, at.within, c.self.inside.words.ok)

pub returns-clause-stored : goal.returns-clause-stored
returns-clause-stored c =
    let marks = c.self.inside.marks.items in let words = c.self.inside.words.items in let place = c.args.block.at in
    rw (← c.self.view_is) (stored marks words place c.args.i c.args.value c.self.invariant c.args.block.above_zero (has_word marks words _ place c.args.i c.self.view_is c.requires))
