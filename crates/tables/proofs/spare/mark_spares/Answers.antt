-- `tables::spare::mark_spares` keeps its promise.
use Prim.Native.Nat.{◌-◌}
use native.Mathlib.Omega.{arith}
use Rattle.tables.proofs.Spares.{spares_begun, spares_end, spares_out, spares-turn, spares_stop, spares_lost}
use Rattle.tables.proofs.spare.mark_spares.Goals as goal

pub loop-init : goal.loop-init
loop-init c = spares_begun _ _ _ _ _ (omega arith) c.number-x.ensures.0

pub returns-then-x : goal.returns-then-x
returns-then-x c = spares_end _ _ _ _ _ _ _ c.loop.invariant c.if-x.true

pub returns-in_default : goal.returns-in_default
returns-in_default c = spares_lost _ _ _ _ _ _ _ c.loop.invariant (c.args.n - c.loop.counter) (omega arith) c.if-x.false (omega arith) c.in_default.ensures

pub returns-then-not-mark : goal.returns-then-not-mark
returns-then-not-mark c = spares_stop _ _ _ _ _ _ _ c.loop.invariant (c.args.n - c.loop.counter) (omega arith) c.if-x.false _ _ _ c.in-Some.ensures c.mark.ensures.0 c.mark.ensures.1 c.if-not-mark.true

pub loop-preserved : goal.loop-preserved
loop-preserved c = spares-turn _ _ _ _ _ _ _ c.loop.invariant _ (omega arith) c.if-x.false _ _ _ c.in-Some.ensures c.mark.ensures.0 c.mark.ensures.1 _ c.number-x-in-loop.ensures.0 c.if-not-mark.false

pub returns : goal.returns
returns c = spares_out _ _ _ _ _ _ _ c.loop.invariant (omega arith)
