-- `naming::apart::bucket` keeps its promise.
use mathlib.Core.Path.{◌≡◌}
use Prim.Native.Nat.{◌<◌}
use lib.ListN.{drop}
use Rattle.naming.specs.Buckets.{hash_from}
use Rattle.naming.proofs.apart.bucket.Given as goal

abbrev pub invariant-loop-b : goal.invariant-loop-b
invariant-loop-b l = (l.h < 65536) × (hash_from l.h (drop l.b-index l.name) ≡ hash_from 0 l.name)
