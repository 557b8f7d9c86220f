use Rattle.std.proofs.Common.{None, sym, ap, ◌∙◌, option_map}
use Rattle.arc_ast.specs.Tree.{unit_tree}
use Rattle.arc_sites.specs.Sites.{unit_sites}
use Rattle.arc_sites.proofs.FirstViolation.{none_violated}
use Rattle.arc_sites.proofs.FoundIsFirst.{found_is}
use Rattle.arc_family.specs.Fault.{reported}
use Rattle.arc_family.specs.Rules.{violations, broken}
use Rattle.arc_family.proofs.owned.own.Goals as goal

pub returns-in-None-clause-accepted : goal.returns-in-None-clause-accepted
returns-in-None-clause-accepted c =
    let u = unit_tree c.args.program.now.unit.now in
    none_violated (broken u) (sym (c.in-Ok.ensures.found ∙ found_is (violations u) None (unit_sites u)) ∙ ap (option_map reported) c.in-None.is)

pub returns-in-Some-clause-refused : goal.returns-in-Some-clause-refused
returns-in-Some-clause-refused c =
    let u = unit_tree c.args.program.now.unit.now in
    sym (c.in-Ok.ensures.found ∙ found_is (violations u) None (unit_sites u)) ∙ ap (option_map reported) c.in-Some.is
