-- `filing::listing::nth_entry` keeps its promise.
use mathlib.Core.Path.{◌≡◌}
use lib.ListN.{length}
use Prim.Native.Nat.{◌-◌, ◌^◌, ◌≤◌, ◌<◌}
use Rattle.layout.specs.Streams.{data_of, contents}
use Rattle.layout.specs.Filing.{entries, entries_from}
use Rattle.filing.specs.Located.{numbered}
use Rattle.filing.specs.Paged.{Paged}
use Rattle.filing.proofs.listing.nth_entry.Given as goal

abbrev pub invariant-loop-k : goal.invariant-loop-k
invariant-loop-k l = Paged l.page (contents l.card l.s l.t.top (data_of l.s l.t) l.t.size) × (l.k ≤ l.at) × (l.k ≤ l.n) × (l.at < 2 ^ 63) × (numbered (entries_from (length (contents l.card l.s l.t.top (data_of l.s l.t) l.t.size)) (contents l.card l.s l.t.top (data_of l.s l.t) l.t.size) l.at) (l.n - l.k) ≡ numbered (entries (contents l.card l.s l.t.top (data_of l.s l.t) l.t.size)) l.n)
