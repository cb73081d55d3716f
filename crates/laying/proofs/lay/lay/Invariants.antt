-- `laying::lay::lay` keeps its promise.
use Rattle.std.proofs.Common.{◌≡◌, ◌+◌, ◌-◌, ◌/◌, ◌≤◌, ◌<◌, length}
use Rattle.layout.specs.Blocks.{fan}
use Rattle.layout.specs.Streams.{laid_rows, laid}
use Rattle.laying.proofs.lay.lay.Given as goal

abbrev pub invariant-loop-q : goal.invariant-loop-q
invariant-loop-q l = (l.i < fan l.s) × (l.r < l.s.size) × (l.q + length l.rest ≤ l.p / l.s.size / fan l.s + length l.given) × (length l.rest ≤ length l.given) × (laid_rows (length l.rest) l.card l.s l.top (l.h - 1) l.q l.i l.r l.rest ≡ laid l.initial.card l.s l.top l.h l.p l.given)
