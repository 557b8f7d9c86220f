use Rattle.std.proofs.Common.{◌∙◌}
use Rattle.arc_lex.proofs.Alike.{word_alike}
use Rattle.arc_form.proofs.reader.same_word.Goals as goal

pub returns : goal.returns
returns c = c.eq.ensures ∙ word_alike c.args.found c.args.word
