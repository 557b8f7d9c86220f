use Rattle.std.proofs.Common.{arith}
use Rattle.arc_grammar.proofs.Lists.{appends}
use Rattle.arc_parse.proofs.source.put.Goals as goal

pub returns-in_ok-keep-in-Function-clause-kept : goal.returns-in_ok-keep-in-Function-clause-kept
returns-in_ok-keep-in-Function-clause-kept c = grind (arith, appends)

pub returns-in_ok-append-in-Globals-clause-kept : goal.returns-in_ok-append-in-Globals-clause-kept
returns-in_ok-append-in-Globals-clause-kept c = grind (arith, appends)

pub returns-in_ok-keep-in-Implementation-clause-kept : goal.returns-in_ok-keep-in-Implementation-clause-kept
returns-in_ok-keep-in-Implementation-clause-kept c = grind (arith, appends)
