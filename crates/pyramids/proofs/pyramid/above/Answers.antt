-- `pyramids::pyramid::above` keeps its promise.
use mathlib.Core.Path.{◌≡◌}
use native.Mathlib.Nat.{div-le_self}
use native.Mathlib.Omega.{arith}
use Rattle.pyramids.proofs.Numbers.{above_step, above_zero}
use Rattle.pyramids.proofs.pyramid.above.Goals as goal

pub loop-init : goal.loop-init
loop-init c = (omega arith, above_zero _ _)

pub loop-preserved : goal.loop-preserved
loop-preserved c = (omega (arith, div-le_self c.loop.n c.args.f), above_step _ _ _ _ c.loop.invariant.1)

pub returns : goal.returns
returns c = let same : c.loop.counter ≡ c.args.k = omega arith in
    (rw (← same) c.loop.invariant.1, omega arith)
