-- `n` is the number in the level that was come to.
use Rattle.std.proofs.Common.{◌≡◌, ◌≤◌}
use Rattle.layout.specs.Pyramid.{above}
use Rattle.pyramids.proofs.pyramid.above.Given as goal

abbrev pub invariant-loop : goal.invariant-loop
invariant-loop l = (l.n ≤ l.j) × (l.n ≡ Rattle.layout.specs.Pyramid.above l.f l.counter l.j)
