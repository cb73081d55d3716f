-- `laying::gather::gather_rows` keeps its promise.
use Rattle.std.proofs.Common.{◌≡◌, ◌+◌, ◌-◌, ◌*◌, ◌/◌, ◌≤◌, ◌<◌}
use Rattle.layout.specs.Bytes.{over}
use Rattle.layout.specs.Blocks.{fan, node}
use Rattle.laying.specs.Gathered.{gathered}
use Rattle.laying.proofs.gather.gather_rows.Given as goal

abbrev pub invariant-loop-q : goal.invariant-loop-q
invariant-loop-q l = (l.i < fan l.s) × (l.r < l.s.size) × (l.q + (l.n - l.to) ≤ l.p / l.s.size / fan l.s + l.n) × (l.to ≤ l.n) × (over l.tray l.to (gathered l.card l.s (node l.card l.s l.top l.h) ((l.q * fan l.s + l.i) * l.s.size + l.r) (l.n - l.to)) ≡ gathered l.card l.s (node l.card l.s l.top l.h) l.p l.n)
