use Rattle.arc_parse.proofs.node.by_one.Goals as goal

pub returns : goal.returns
returns c = record { gives = λ ts. simp c.in_ok-one.ensures.made at (c.boxed-2.ensures.gives ts) }
