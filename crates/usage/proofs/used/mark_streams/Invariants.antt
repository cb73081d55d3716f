-- `usage::used::mark_streams` keeps its promise.
use Prim.Native.Nat.{◌-◌}
use Rattle.marking.proofs.Walking.{Rest}
use Rattle.usage.specs.Used.{used_from}
use Rattle.usage.proofs.used.mark_streams.Given as goal

abbrev pub invariant-loop-k : goal.invariant-loop-k
invariant-loop-k l = Rest l.s.count l.marks (used_from l.card l.s l.tab l.k (l.n - l.k)) l.initial.marks (used_from l.card l.s l.tab 0 l.n)
