-- `blocks::chain::enough` keeps its promise.
use mathlib.Core.Path.{◌≡◌}
use Prim.Native.Nat.{◌-◌}
use lib.ListN.{length}
use lib.Dec.{leb}
use Rattle.layout.specs.Blocks.{walk}
use Rattle.blocks.proofs.chain.enough.Given as goal

abbrev pub invariant-loop : goal.invariant-loop
invariant-loop l = leb (l.n - l.counter) (length (walk (l.n - l.counter) (Rattle.layout.specs.Blocks.next l.card l.s) l.b)) ≡ Rattle.layout.specs.Blocks.enough l.card l.s l.n
