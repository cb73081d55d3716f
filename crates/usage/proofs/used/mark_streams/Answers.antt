-- `usage::used::mark_streams` keeps its promise.
use Prim.Native.Nat.{◌+◌, ◌-◌}
use native.Mathlib.Nat.{sub-zero}
use native.Mathlib.Omega.{arith}
use mathlib.Core.Path.{refl}
use Rattle.usage.proofs.Uses.{used_turn, used_stop, used-done}
use Rattle.usage.proofs.used.mark_streams.Goals as goal

pub loop-k-init : goal.loop-k-init
loop-k-init c = rw sub-zero (refl, refl)

pub returns-then-not-mark_one : goal.returns-then-not-mark_one
returns-then-not-mark_one c = used_stop _ _ _ _ _ _ _ _ c.loop-k.invariant _ _ _ (c.args.n - (c.loop-k.k + 1)) (omega arith) c.descriptor_at.ensures c.mark_one.ensures c.if-not-mark_one.true

pub loop-k-preserved : goal.loop-k-preserved
loop-k-preserved c = used_turn _ _ _ _ _ _ _ _ c.loop-k.invariant _ _ _ _ (omega arith) c.descriptor_at.ensures c.mark_one.ensures c.if-not-mark_one.false

pub returns : goal.returns
returns c = used-done _ _ _ _ _ _ _ _ c.loop-k.invariant (omega arith)
