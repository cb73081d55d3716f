-- `n` is the level that was come to.
use Rattle.std.proofs.Common.{◌≡◌, ◌≤◌}
use Rattle.layout.specs.Pyramid.{level}
use Rattle.pyramids.proofs.pyramid.level.Given as goal

abbrev pub invariant-loop : goal.invariant-loop
invariant-loop l = (l.n ≤ l.d) × (l.n ≡ Rattle.layout.specs.Pyramid.level l.f l.counter l.d)
