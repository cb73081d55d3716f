-- `filing::edits::pull` keeps its promise.
use mathlib.Core.Path.{◌≡◌}
use Prim.Native.Nat.{◌+◌, ◌-◌}
use Rattle.filing.specs.Edited.{drawn}
use Rattle.filing.proofs.edits.pull.Given as goal

abbrev pub invariant-loop-from : goal.invariant-loop-from
invariant-loop-from l = drawn l.t.size l.card l.s l.t (l.p + (l.from - l.q)) l.from ≡ drawn l.t.size l.initial.card l.s l.t l.p l.q

abbrev pub decreases-loop-from : goal.decreases-loop-from
decreases-loop-from l = l.t.size - l.from
