-- `laying::lay::lay_row` keeps its promise.
use Rattle.std.proofs.Common.{◌≡◌, ◌+◌, ◌≤◌, ◌<◌, length}
use Rattle.layout.specs.Streams.{laid_row}
use Rattle.laying.proofs.lay.lay_row.Given as goal

abbrev pub invariant-loop-k : goal.invariant-loop-k
invariant-loop-k l = (l.at < l.s.size) × (l.k + length l.rest ≤ l.i + length l.given) × (laid_row (length l.rest) l.card l.s l.b l.k l.at l.rest ≡ laid_row (length l.given) l.initial.card l.s l.b l.i l.r l.given)
