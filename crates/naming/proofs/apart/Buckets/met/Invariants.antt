-- `naming::apart::Buckets::met` keeps its promise.
use mathlib.Core.Path.{◌≡◌}
use mathlib.Core.Logic.{◌≢◌}
use Prim.Native.Nat.{◌≤◌, ◌-◌}
use Rattle.layout.specs.Filing.{entries}
use Rattle.naming.specs.Buckets.{bucket_of, name_at, among, up_to}
use Rattle.naming.specs.Rooted.{bytes_of}
use Rattle.naming.proofs.apart.Buckets.met.Given as goal

abbrev pub invariant-loop-last : goal.invariant-loop-last
invariant-loop-last l = (up_to l.last ≤ up_to l.fn.x) × (up_to l.last ≢ 0 → bucket_of (name_at (entries (bytes_of l.card l.s l.t)) (up_to l.last - 1)) ≡ bucket_of l.name) × (among (entries (bytes_of l.card l.s l.t)) (up_to l.last) l.name ≡ among (entries (bytes_of l.card l.s l.t)) (up_to l.fn.x) l.name)

abbrev pub decreases-loop-last : goal.decreases-loop-last
decreases-loop-last l = up_to l.last
