use Rattle.std.proofs.Common.{sym, ap, ◌∙◌}
use Rattle.arc_resolve.specs.SourceResolution.{Gives, Refers}
use Rattle.arc_checked.proofs.NodeParts.{invoked_value, object_invoked_reference}
use Rattle.arc_resolve.proofs.resolution.invoked.Goals as goal

pub returns-then-is_object : goal.returns-then-is_object
returns-then-is_object c =
    rw (sym c.is_object.ensures ∙ c.if-is_object.true) (ap Refers (object_invoked_reference c.args.function c.args.all))

pub returns : goal.returns
returns c =
    rw (sym c.is_object.ensures ∙ c.if-is_object.false) (ap (Gives c.args.kind) (invoked_value c.args.function c.args.all))
