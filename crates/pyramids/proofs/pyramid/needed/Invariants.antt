-- `pyramids::pyramid::needed` keeps its promise.
use mathlib.Core.Path.{◌≡◌}
use Prim.Native.Nat.{◌+◌, ◌*◌, ◌≤◌}
use Rattle.layout.specs.Pyramid.{P}
use Rattle.pyramids.proofs.pyramid.needed.Given as goal

abbrev pub invariant-loop-n : goal.invariant-loop-n
invariant-loop-n l = (l.sum + 2 * l.n ≤ 2 * l.d) × (l.sum + P l.f l.n ≡ P l.f l.d)

abbrev pub decreases-loop-n : goal.decreases-loop-n
decreases-loop-n l = l.n
