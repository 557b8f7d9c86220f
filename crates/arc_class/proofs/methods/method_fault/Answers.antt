use Rattle.std.proofs.Common.{◌≡◌, is_some, ap, ◌∙◌, sym}
use Rattle.arc_ast.specs.Tree.{head_tree}
use Rattle.arc_class.specs.BrokenRules.{broken_if, first}
use Rattle.arc_class.specs.Classes.{first_head}
use Rattle.arc_class.specs.Table.{head_at}
use Rattle.arc_class.proofs.ClassViolations.{there_map}
use Rattle.arc_class.proofs.methods.method_fault.Goals as goal

pub returns : goal.returns
returns c earlier held =
    let h = c.args.head.now in
    let stands : c.is_some-stands.result ≡ is_some (first_head h.sign h.selector.items earlier) =
    c.is_some-stands.ensures ∙ ap is_some (c.get.ensures ∙ ap (head_at c.args.before.now h.sign) c.deref.ensures.value) ∙ sym (there_map (λ x. head_tree x.now) (head_at c.args.before.now h.sign h.selector.items))
    ∙ ap is_some (held h.sign h.selector.items) in
    c.fault_if.ensures ∙ ap (λ b. first (broken_if b h.at 21)) stands
