-- `pyramids::pyramid::level` keeps its promise.
use mathlib.Core.Path.{◌≡◌, ◌∙◌}
use native.Mathlib.Omega.{arith}
use Rattle.pyramids.proofs.Numbers.{level-step, level-zero}
use Rattle.pyramids.proofs.pyramid.level.Goals as goal

pub loop-init : goal.loop-init
loop-init c = (omega arith, level-zero _ _)

pub loop-preserved : goal.loop-preserved
loop-preserved c = (omega arith, c.up-n.ensures.0 ∙ level-step _ _ _ _ c.loop.invariant.1)

pub returns : goal.returns
returns c = let same : c.loop.counter ≡ c.args.k = omega arith in
    (rw (← same) c.loop.invariant.1, omega arith)
