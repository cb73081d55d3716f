-- `blocks::growth::hang` keeps its promise.
use mathlib.Core.Path.{◌≡◌}
use Prim.Native.Nat.{◌-◌, ◌≤◌}
use Rattle.layout.specs.Blocks.{hung}
use Rattle.blocks.proofs.growth.hang.Given as goal

abbrev pub invariant-loop : goal.invariant-loop
invariant-loop l = (l.i ≤ 4096) × (hung (l.m - l.counter) l.card l.s l.from l.i ≡ hung l.m l.initial.card l.s l.b l.j)
