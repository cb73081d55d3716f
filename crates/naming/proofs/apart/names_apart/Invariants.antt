-- `naming::apart::names_apart` keeps its promise.
use mathlib.Core.Path.{◌≡◌}
use Prim.Native.Nat.{◌-◌}
use lib.ListN.{length}
use Rattle.layout.specs.Filing.{entries}
use Rattle.filing.specs.Paged.{Paged}
use Rattle.naming.specs.Buckets.{Filed}
use Rattle.naming.specs.Rooted.{bytes_of}
use Rattle.naming.proofs.Differ.{Rest}
use Rattle.naming.proofs.apart.names_apart.Given as goal

abbrev pub invariant-loop-at : goal.invariant-loop-at
invariant-loop-at l = record {
  paged : Paged l.page (bytes_of l.card l.s l.t);
  size : l.t.size ≡ length (bytes_of l.card l.s l.t);
  filed : Filed (entries (bytes_of l.card l.s l.t)) l.i l.buckets;
  rest : Rest (bytes_of l.card l.s l.t) l.at l.i;
}

abbrev pub decreases-loop-at : goal.decreases-loop-at
decreases-loop-at l = l.t.size - l.at
