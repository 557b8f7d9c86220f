use Rattle.arc_class.proofs.numbered.+put.Given as goal

abbrev pub decreases-put : goal.decreases-put
decreases-put l = l.levels
