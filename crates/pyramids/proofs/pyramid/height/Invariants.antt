-- `pyramids::pyramid::height` keeps its promise.
use mathlib.Core.Path.{◌≡◌}
use Prim.Native.Nat.{◌+◌, ◌≤◌}
use Rattle.pyramids.proofs.pyramid.height.Given as goal

abbrev pub invariant-loop-n : goal.invariant-loop-n
invariant-loop-n l = (l.h + l.n ≤ l.d + 1) × (l.h ≤ l.d) × (l.h + Rattle.layout.specs.Pyramid.height l.f l.n ≡ Rattle.layout.specs.Pyramid.height l.f l.d)

abbrev pub decreases-loop-n : goal.decreases-loop-n
decreases-loop-n l = l.n
