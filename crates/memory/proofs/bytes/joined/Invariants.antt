-- The bytes from `i` on are in `v`.
use Rattle.std.proofs.Common.{◌≡◌, ◌-◌, ◌^◌, ◌<◌, length}
use Rattle.layout.specs.Bytes.{num}
use Rattle.memory.proofs.bytes.joined.Given as goal

abbrev pub invariant-loop-i : goal.invariant-loop-i
invariant-loop-i l = (l.v ≡ num (length l.run - l.i) l.run l.i) × (l.v < 256 ^ (length l.run - l.i))
