-- `whole::check` keeps its promise.
use mathlib.Core.Path.{◌∙◌}
use Rattle.std.proofs.lemmas.Result.{err_from_is_err_and}
use Rattle.layout.specs.Promises.{Checks}
use Rattle.layout.specs.Calls.{check}
use Rattle.front.proofs.Outcomes.{none, past_1}
use Rattle.front.proofs.Fronted.{refused-damaged, sound_of}
use Rattle.whole.proofs.check.Goals as goal

pub returns-in_err-examine : goal.returns-in_err-examine
unfolding Checks check
returns-in_err-examine c = let p = err_from_is_err_and c.from_residual.result c.from_residual.ensures.1 in rw (p.1, p.2) (refused-damaged _ c.in_err-examine.ensures _ _ _)

pub returns : goal.returns
unfolding Checks check
returns c = none _ _ _ ∙ past_1 _ _ _ _ (sound_of _ c.in_ok-examine.ensures).unbroken
