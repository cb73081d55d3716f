-- `laying::gather::gather_blocks` keeps its promise.
use Rattle.std.proofs.Common.{◌≡◌, ℕ, ◌+◌, ◌-◌, ◌*◌, ◌≤◌, ◌<◌}
use Rattle.layout.specs.Bytes.{over}
use Rattle.laying.specs.Gathered.{gathered}
use Rattle.laying.proofs.gather.gather_blocks.Given as goal

abbrev pub invariant-loop-to : goal.invariant-loop-to
invariant-loop-to g l = (l.from < l.s.size) × (l.k + (l.n - l.to) ≤ l.i + l.n) × (l.to ≤ l.n) × ((b : ℕ → ℕ) → ((k x : ℕ) → goal.F-post g l.block k x → x ≡ b k) → over l.tray l.to (gathered l.card l.s b (l.k * l.s.size + l.from) (l.n - l.to)) ≡ gathered l.card l.s b (l.i * l.s.size + l.r) l.n)

abbrev pub decreases-loop-to : goal.decreases-loop-to
decreases-loop-to g l = l.n - l.to
