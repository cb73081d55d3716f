-- `heading::header::power` keeps its promise.
use mathlib.Core.Path.{◌≡◌}
use Prim.Native.Nat.{◌^◌}
use Rattle.heading.proofs.header.power.Given as goal

abbrev pub invariant-loop : goal.invariant-loop
invariant-loop l = l.size ≡ 2 ^ l.counter
