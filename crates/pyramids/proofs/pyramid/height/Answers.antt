-- `pyramids::pyramid::height` keeps its promise.
use native.Mathlib.Omega.{arith}
use Rattle.laws.proofs.Levels.{up_less, height-low, height-high}
use Rattle.pyramids.proofs.pyramid.height.Goals as goal

pub loop-n-init : goal.loop-n-init
loop-n-init c = (omega arith, omega arith, omega arith)

pub loop-n-smaller : goal.loop-n-smaller
loop-n-smaller c = omega (arith, up_less _ c.requires _ c.loop-n-test.true)

pub loop-n-preserved : goal.loop-n-preserved
loop-n-preserved c = (omega (arith, up_less _ c.requires _ c.loop-n-test.true), omega arith, rw c.up-n.ensures.0 (omega (arith, height-high _ c.requires _ c.loop-n-test.true)))

pub returns : goal.returns
returns c = (omega (arith, height-low c.args.f c.requires _ c.loop-n-test.false), omega arith)
