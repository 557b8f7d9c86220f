use Rattle.arc_parse.proofs.qualifier.begins_qualifier.Goals as goal

pub returns : goal.returns
returns c = c.sees_word.ensures
