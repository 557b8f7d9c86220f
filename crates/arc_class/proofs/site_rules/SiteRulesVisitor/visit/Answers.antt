use Rattle.std.proofs.Common.{option_map, ap, ◌∙◌}
use Rattle.std.proofs.Math.Logic.{∥∥₁_elim}
use Rattle.std.proofs.Props.{props}
use Rattle.arc_class.specs.BrokenRules.{earlier_of}
use Rattle.arc_class.specs.Fault.{reported}
use Rattle.arc_class.proofs.site_rules.SiteRulesVisitor.visit.Goals as goal

pub returns-clause-found : goal.returns-clause-found
returns-clause-found c =
    ∥∥₁_elim c.args.self.now.known (hlevel props) (λ knows. c.earlier-self.ensures ∙ ap (earlier_of (option_map reported c.args.self.now.fault)) (c.in_ok-own.ensures knows))
