-- `usage::free::mark_chain` keeps its promise.
use Prim.Native.Nat.{◌+◌, ◌-◌}
use Rattle.usage.proofs.Chained.{Along}
use Rattle.usage.proofs.free.mark_chain.Given as goal

abbrev pub invariant-loop-found : goal.invariant-loop-found
invariant-loop-found l = Along l.card l.s (l.count + 1 - l.found) l.found l.b l.marks l.initial.marks
