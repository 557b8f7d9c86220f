use Rattle.std.proofs.Common.{map, ap, ◌∙◌, sym}
use Rattle.arc_ast.specs.Tree.{parameter_trees, stmt_trees}
use Rattle.arc_class.specs.BrokenRules.{first}
use Rattle.arc_class.specs.SiteRules.{as_variable, all_declared, repeated}
use Rattle.arc_class.specs.private.Scopes.{no_name, names_with}
use Rattle.arc_class.proofs.FirstBrokenRule.{first_both}
use Rattle.arc_class.proofs.ScopeNames.{holds-none, repeated-append}
use Rattle.arc_class.proofs.scopes.body_fault.Goals as goal

pub returns : goal.returns
returns c =
    let taken = map as_variable (parameter_trees c.args.taken.now) in
    let inside = all_declared (stmt_trees c.args.all.now) in
    let none = holds-none c.new-scope.result c.new-scope.ensures in
    first_both (repeated no_name taken) (repeated (names_with no_name taken) inside) _ _ _
    (c.in_ok-fault.ensures.fault ∙ ap (λ names. first (repeated names taken)) none)
    (c.in_ok-statements.ensures ∙ ap (λ names. first (repeated names inside)) (c.in_ok-fault.ensures.scope ∙ ap (λ names. names_with names taken) none)) c.earlier.ensures
    ∙ ap first (sym (repeated-append no_name taken inside))
