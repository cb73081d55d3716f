-- `sound::check::check_on` keeps its promise.
use mathlib.Core.Path.{sym, ◌∙◌}
use Rattle.sound.proofs.Lowest.{narrow_shape}
use Rattle.sound.proofs.check.check_on.Goals as goal

pub of-requires : goal.of-requires
of-requires c = narrow_shape _ (sym c.rule3.ensures ∙ c.if-not-rule3.false) _ c.shape.ensures
