-- The rest goes into the bytes that are left.
use Rattle.std.proofs.Common.{◌≡◌, ◌-◌, length}
use Rattle.layout.specs.Bytes.{put}
use Rattle.memory.proofs.bytes.split.Given as goal

abbrev pub invariant-loop-b : goal.invariant-loop-b
invariant-loop-b l = put (length l.initial.run - l.b-index) l.run l.b-index l.rest ≡ put (length l.initial.run) l.initial.run 0 l.v
