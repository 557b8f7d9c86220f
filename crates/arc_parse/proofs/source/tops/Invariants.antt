use Rattle.std.proofs.Common.{◌≡◌, length}
use Rattle.arc_lex.specs.Tokens.{toks}
use Rattle.arc_ast.specs.Tree.{unit_tree}
use Rattle.arc_grammar.specs.Grammar.{reads}
use Rattle.arc_grammar.specs.Grammar as grammar
use Rattle.arc_parse.proofs.Tops.{tops_on}
use Rattle.arc_parse.proofs.source.tops.Given as goal

abbrev pub invariant-tops : goal.invariant-tops
invariant-tops l = reads grammar.unit (toks l.initial.reader.rest.now) ≡ tops_on (unit_tree l.all) (toks l.reader.rest.now)

abbrev pub decreases-tops : goal.decreases-tops
decreases-tops l = length l.reader.rest.now
