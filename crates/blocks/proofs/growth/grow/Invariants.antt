-- `blocks::growth::grow` keeps its promise.
use mathlib.Core.Path.{◌≡◌}
use Prim.Native.Nat.{◌+◌, ◌-◌, ◌/◌}
use Rattle.layout.specs.Pyramid.{height}
use Rattle.layout.specs.Blocks.{grown}
use Rattle.blocks.proofs.growth.grow.Given as goal

abbrev pub invariant-loop-k : goal.invariant-loop-k
invariant-loop-k l = (grown l.card l.s l.t l.k (l.d + l.m - l.k) ≡ grown l.initial.card l.s l.top l.d l.m) × (l.h ≡ height (l.s.size / 4) l.k)
