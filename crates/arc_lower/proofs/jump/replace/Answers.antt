use Rattle.std.proofs.lemmas.List.{map-set}
use Rattle.arc_lower.specs.PlainActions.{plain_action}
use Rattle.arc_lower.proofs.jump.replace.Goals as goal

pub returns : goal.returns
returns c = map-set plain_action c.args.actions.now.items c.args.place c.args.action
