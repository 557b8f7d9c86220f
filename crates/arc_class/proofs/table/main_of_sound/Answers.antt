use Rattle.std.proofs.Common.{◌≡◌, List, sym, ap, subst, ◌∙◌, option_map}
use Rattle.arc_ast.specs.Tree.{unit_tree}
use Rattle.arc_class.specs.declared.fields.ClassFields.{ClassFields}
use Rattle.arc_class.specs.BrokenRules.{first}
use Rattle.arc_class.specs.ClassRules.{broken}
use Rattle.arc_class.specs.Fault.{reported}
use Rattle.arc_class.specs.Owners.{FindsFields}
use Rattle.arc_class.proofs.FirstFaultReported.{refuses, whole_known, nothing, main_reported}
use Rattle.arc_class.proofs.table.main_of_sound.Goals as goal

pub classes_fault-requires-clause-owners : goal.classes_fault-requires-clause-owners
classes_fault-requires-clause-owners c =
    let Found : List ClassFields → Type 0 = λ fields. FindsFields fields c.args.found.now.owners in
    subst Found (sym c.deref.ensures.value) c.requires.owners

pub returns-in-Some-default-clause-refused : goal.returns-in-Some-default-clause-refused
returns-in-Some-default-clause-refused c =
    let u = unit_tree c.args.source.now.unit.now in
    let whole : option_map reported c.earlier.result ≡ first (broken u) =
    whole_known u _ _ _ c.requires.functions c.in_ok-classes.ensures c.earlier.ensures in
    refuses (broken u) c.in-Some-default.fault (sym whole ∙ ap (option_map reported) c.in-Some-default.is-0)

pub returns-in-None-Some-clause-unbroken : goal.returns-in-None-Some-clause-unbroken
returns-in-None-Some-clause-unbroken c =
    let u = unit_tree c.args.source.now.unit.now in
    let whole : option_map reported c.earlier.result ≡ first (broken u) =
    whole_known u _ _ _ c.requires.functions c.in_ok-classes.ensures c.earlier.ensures in
    nothing (broken u) (sym (ap (option_map reported) c.in-None-Some.is-0) ∙ whole)

pub returns-in-None-None-clause-refused : goal.returns-in-None-None-clause-refused
returns-in-None-None-clause-refused c =
    absurd (main_reported (unit_tree c.args.source.now.unit.now) (option_map reported c.args.functions) (option_map reported c.in_ok-classes.classes) (option_map reported c.earlier.result)
    (c.requires.main ∙ c.in-None-None.is-1) c.requires.functions c.earlier.ensures (ap (option_map reported) c.in-None-None.is-0))
