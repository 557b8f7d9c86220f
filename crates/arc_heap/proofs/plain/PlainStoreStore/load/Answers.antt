use Rattle.std.proofs.Common.{sym, ◌∙◌, arith}
use Rattle.std.proofs.lemmas.Grind.{get_or_default_zero}
use Rattle.arc_heap.proofs.BlockRowUpdate.{word_out}
use Rattle.arc_heap.proofs.plain.PlainStoreStore.load.Goals as goal

pub overflow_mul-block : goal.overflow_mul-block
overflow_mul-block c =
    let at = word_out c.self.inside.marks.items c.self.inside.words.items _ c.args.block.at c.args.i c.self.view_is c.self.invariant c.args.block.above_zero c.requires in
    record { fits = omega (arith, at.within, c.self.inside.words.ok, c.self.inside.words.small) }

pub overflow_add-block : goal.overflow_add-block
overflow_add-block c =
    let at = word_out c.self.inside.marks.items c.self.inside.words.items _ c.args.block.at c.args.i c.self.view_is c.self.invariant c.args.block.above_zero c.requires in
    record { fits = omega (arith, at.within, c.self.inside.words.ok, c.self.inside.words.small) }

pub index-requires : goal.index-requires
index-requires c =
    let at = word_out c.self.inside.marks.items c.self.inside.words.items _ c.args.block.at c.args.i c.self.view_is c.self.invariant c.args.block.above_zero c.requires in
    omega (arith, at.within, c.self.inside.words.ok)

pub returns : goal.returns
returns c =
    let at = word_out c.self.inside.marks.items c.self.inside.words.items _ c.args.block.at c.args.i c.self.view_is c.self.invariant c.args.block.above_zero c.requires in
    rw (← c.self.view_is) (c.index.ensures ∙ get_or_default_zero c.self.inside.words.items _ c.index.result.now at.within ∙ sym at.word)
