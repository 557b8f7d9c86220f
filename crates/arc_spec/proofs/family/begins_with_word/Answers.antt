use Rattle.std.proofs.Common.{sym, ◌∙◌}
use Rattle.arc_spec.proofs.SelectorComponents.{begins_then, begins_not}
use Rattle.arc_spec.proofs.family.begins_with_word.Goals as goal

pub returns-then-starts_with : goal.returns-then-starts_with
returns-then-starts_with c =
    begins_then c.args.component.now c.args.word.now c.ends_before.result (sym c.starts_with.ensures.value ∙ c.if-starts_with.true) c.ends_before.ensures

pub returns-else-starts_with : goal.returns-else-starts_with
returns-else-starts_with c = c.if-starts_with.false ∙ begins_not c.args.component.now c.args.word.now (sym c.starts_with.ensures.value ∙ c.if-starts_with.false)
