use Rattle.std.proofs.Common.{◌≡◌, [], sym, ap, subst, ◌∙◌, option_map}
use Rattle.std.proofs.lemmas.Result.{err_from_is_err_and}
use Rattle.arc_ast.specs.Tree.{unit_tree, function_trees}
use Rattle.arc_class.specs.BrokenRules.{first}
use Rattle.arc_class.specs.ClassRules.{broken}
use Rattle.arc_class.specs.Fault.{reported, Refuses}
use Rattle.arc_class.specs.private.FunctionSummary.{Sums}
use Rattle.arc_class.specs.private.RuleGroups.{before_classes}
use Rattle.arc_class.specs.FunctionNames.{number_of, is_main}
use Rattle.arc_class.specs.Table.{IsTableOf}
use Rattle.arc_class.proofs.FirstFaultReported.{at_sites, own_known, functions_seen}
use Rattle.arc_class.proofs.table.ClassTable.build.Goals as goal

pub check_source-requires-clause-knows : goal.check_source-requires-clause-knows
check_source-requires-clause-knows c = own_known c.args.unit.now c.in_ok-source.source c.in_ok-source.ensures.unit c.in_ok-source.ensures.knows

pub sites_fault-requires : goal.sites_fault-requires
sites_fault-requires c = own_known c.args.unit.now c.in_ok-source.source c.in_ok-source.ensures.unit c.in_ok-source.ensures.knows

pub check_source-requires-clause-functions : goal.check_source-requires-clause-functions
check_source-requires-clause-functions c =
    let u = unit_tree c.args.unit.now in
    let seen = c.in_ok-seen.seen in
    let sums : Sums u.functions seen = rw c.deref.ensures.value at c.in_ok-seen.ensures in
    let sites : option_map reported c.in_ok-sites_fault.field-0 ≡ first (at_sites u) = c.in_ok-sites_fault.ensures ∙ ap (λ t. first (at_sites (unit_tree t))) c.in_ok-source.ensures.unit in
    functions_seen u seen _ _ _ _ sums c.missing_main.ensures c.earlier-own.ensures sites c.earlier-functions.ensures ∙ ap (λ t. first (before_classes (unit_tree t))) (sym c.in_ok-source.ensures.unit)

pub check_source-requires-clause-main : goal.check_source-requires-clause-main
check_source-requires-clause-main c = ap (λ t. number_of is_main (unit_tree t).functions) c.in_ok-source.ensures.unit ∙ sym (ap (λ fs. number_of is_main (function_trees fs)) c.deref.ensures.value) ∙ sym c.in_ok-seen.ensures.main

pub with-requires-clause-knows : goal.with-requires-clause-knows
with-requires-clause-knows c = own_known c.args.unit.now c.in_ok-source.source c.in_ok-source.ensures.unit c.in_ok-source.ensures.knows

pub returns-clause-unbroken : goal.returns-clause-unbroken
returns-clause-unbroken c = subst (λ t. broken (unit_tree t) ≡ []) c.in_ok-source.ensures.unit c.in_ok-checked.ensures.checked.unbroken

pub returns-clause-table : goal.returns-clause-table
returns-clause-table c = subst (λ t. IsTableOf (unit_tree t) c.with.result) c.in_ok-source.ensures.unit c.with.ensures

pub returns-in_err-checked-clause-refused : goal.returns-in_err-checked-clause-refused
returns-in_err-checked-clause-refused c =
    let p = err_from_is_err_and c.from_residual-in_err-checked.result c.from_residual-in_err-checked.ensures.1 in
    rw (p.1, p.2) (subst (λ t. Refuses (broken (unit_tree t)) c.in_err-checked.field-0.0) c.in_ok-source.ensures.unit c.in_err-checked.ensures.refused)
