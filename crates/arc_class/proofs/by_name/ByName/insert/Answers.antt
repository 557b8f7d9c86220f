use Rattle.std.proofs.Common.{Some, ap, sym, ◌∙◌}
use Rattle.std.specs.Map.{update}
use Rattle.std.specs.Str.{bytes_eq}
use Rattle.arc_class.specs.NameMaps.{at_name}
use Rattle.arc_class.proofs.NameMapParts.{home_is, at_its_part, set_placed, set_at, updates_at}
use Rattle.arc_class.proofs.by_name.ByName.insert.Goals as goal

pub invariant_of-self-2 : goal.invariant_of-self-2
invariant_of-self-2 g c =
    let parts = c.make_part.new.parts.items in
    let name = c.args.name.now in
    let old = c.index_mut.result.now in
    let home = home_is parts c.len.result c.part_of-home.result old name (c.len.ensures ∙ c.make_part.new.parts.ok.0) c.part_of-home.ensures.value c.part_of-home.ensures.within c.index_mut.ensures.value in
    let placed = c.make_part.ensures.placed c.self.invariant in
    set_placed parts c.part_of-home.result old c.insert.new.self name (Some c.args.value) placed home (updates_at name old c.insert.new.self (Some c.args.value) c.in_ok-old.ensures.updates)

pub returns-clause-updates : goal.returns-clause-updates
returns-clause-updates g c sought =
    let parts = c.make_part.new.parts.items in
    let name = c.args.name.now in
    let old = c.index_mut.result.now in
    let home = home_is parts c.len.result c.part_of-home.result old name (c.len.ensures ∙ c.make_part.new.parts.ok.0) c.part_of-home.ensures.value c.part_of-home.ensures.within c.index_mut.ensures.value in
    let placed = c.make_part.ensures.placed c.self.invariant in
    set_at parts c.part_of-home.result old c.insert.new.self name (Some c.args.value) placed home (updates_at name old c.insert.new.self (Some c.args.value) c.in_ok-old.ensures.updates) sought
    ∙ ap (λ map. update bytes_eq (at_name map) name (Some c.args.value) sought) (c.make_part.ensures.entries ∙ c.self.view_is)

pub returns-clause-old : goal.returns-clause-old
returns-clause-old g c =
    let parts = c.make_part.new.parts.items in
    let name = c.args.name.now in
    let old = c.index_mut.result.now in
    let home = home_is parts c.len.result c.part_of-home.result old name (c.len.ensures ∙ c.make_part.new.parts.ok.0) c.part_of-home.ensures.value c.part_of-home.ensures.within c.index_mut.ensures.value in
    let placed = c.make_part.ensures.placed c.self.invariant in
    c.in_ok-old.ensures.old ∙ sym (at_its_part parts c.part_of-home.result old name placed home) ∙ ap (λ map. at_name map name) (c.make_part.ensures.entries ∙ c.self.view_is)
