-- `filing::entries::find` keeps its promise.
use mathlib.Core.Path.{◌≡◌}
use lib.ListN.{length}
use Prim.Native.Nat.{◌^◌, ◌≤◌, ◌<◌}
use Rattle.layout.specs.Streams.{data_of, contents}
use Rattle.layout.specs.Filing.{entries, entries_from}
use Rattle.filing.specs.Located.{located}
use Rattle.filing.specs.Paged.{Paged}
use Rattle.filing.proofs.entries.find.Given as goal

abbrev pub invariant-loop-number : goal.invariant-loop-number
invariant-loop-number l = Paged l.page (contents l.card l.s l.t.top (data_of l.s l.t) l.t.size) × (l.number ≤ l.at) × (l.at < 2 ^ 63) × (located (entries_from (length (contents l.card l.s l.t.top (data_of l.s l.t) l.t.size)) (contents l.card l.s l.t.top (data_of l.s l.t) l.t.size) l.at) l.name l.number ≡ located (entries (contents l.card l.s l.t.top (data_of l.s l.t) l.t.size)) l.name 0)
