use Rattle.std.proofs.Common.{ap, sym, ◌∙◌, arith}
use Rattle.std.proofs.lemmas.Grind.{common_steps}
use Rattle.arc_class.specs.NameMaps.{at_name}
use Rattle.arc_class.proofs.NameMapParts.{home_is, at_its_part}
use Rattle.arc_class.proofs.by_name.ByName.get.Goals as goal

pub returns : goal.returns
returns g c =
    let parts = c.self.inside.parts.items in
    let name = c.args.name.now in
    let part = c.index-part.result.now in
    let home = home_is parts c.len.result c.part_of.result part name (c.len.ensures ∙ c.self.inside.parts.ok.0) c.part_of.ensures.value c.part_of.ensures.within c.index-part.ensures in
    c.copied.ensures ∙ c.get.ensures.value ∙ sym (at_its_part parts c.part_of.result part name c.self.invariant home) ∙ ap (λ map. at_name map name) c.self.view_is

pub returns-then-is_empty : goal.returns-then-is_empty
returns-then-is_empty g c = grind (arith, common_steps)
