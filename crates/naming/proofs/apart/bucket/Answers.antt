-- `naming::apart::bucket` keeps its promise.
use mathlib.Core.Path.{◌∙◌}
use native.Mathlib.Nat.{mod-lt}
use native.Mathlib.Omega.{arith}
use Rattle.naming.proofs.Buckets.{hash_turn, hash_done}
use Rattle.naming.proofs.apart.bucket.Goals as goal

pub loop-b-preserved : goal.loop-b-preserved
loop-b-preserved c = (mod-lt _ (omega arith), hash_turn _ _ _ _ c.loop-b-test.true c.from.ensures ∙ c.loop-b.invariant.1)

pub returns : goal.returns
returns c = (hash_done _ _ _ c.loop-b-test.false c.loop-b.invariant.1, mod-lt _ (omega arith))
