-- `pyramids::pyramid::needed` keeps its promise.
use native.Mathlib.Omega.{arith}
use Rattle.laws.proofs.Levels.{P-low, P-high}
use Rattle.pyramids.proofs.Numbers.{up_half}
use Rattle.pyramids.proofs.pyramid.needed.Goals as goal

pub loop-n-smaller : goal.loop-n-smaller
loop-n-smaller c = omega (arith, up_half _ _ c.requires.0 c.loop-n-test.true)

pub loop-n-preserved : goal.loop-n-preserved
loop-n-preserved c = (omega (arith, up_half _ _ c.requires.0 c.loop-n-test.true), rw c.up-n.ensures.0 (omega (arith, P-high c.args.f (omega arith) _ c.loop-n-test.true)))

pub returns : goal.returns
returns c = (omega (arith, P-low c.args.f (omega arith) _ c.loop-n-test.false), omega arith)
