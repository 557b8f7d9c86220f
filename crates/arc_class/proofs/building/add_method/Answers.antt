use Rattle.std.proofs.Common.{◌++◌, ◌∷◌, [], if◌then◌else◌, sym, ap, ◌∙◌}
use Rattle.arc_ast.specs.Tree.{head_tree}
use Rattle.arc_class.specs.RuntimeClasses.{method_made}
use Rattle.arc_class.specs.Table.{names_of}
use Rattle.arc_class.proofs.building.add_method.Goals as goal

pub returns : goal.returns
returns c =
    let old = c.args.all.now.items in
    let made = method_made (names_of c.args.selectors.now.keys) c.args.runs (head_tree c.args.head.now) in
    c.in_ok-push.ensures.items ∙ ap (λ m. old ++ m ∷ []) c.method_of.ensures ∙ sym (ap (λ b. if b then old else old ++ made ∷ []) (sym c.is_dealloc.ensures ∙ c.if-is_dealloc.false))

pub returns-then-is_dealloc : goal.returns-then-is_dealloc
returns-then-is_dealloc c =
    let old = c.args.all.now.items in
    let made = method_made (names_of c.args.selectors.now.keys) c.args.runs (head_tree c.args.head.now) in
    sym (ap (λ b. if b then old else old ++ made ∷ []) (sym c.is_dealloc.ensures ∙ c.if-is_dealloc.true))
