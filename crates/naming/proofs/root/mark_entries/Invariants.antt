-- `naming::root::mark_entries` keeps its promise.
use mathlib.Core.Path.{◌≡◌}
use Prim.Native.Nat.{◌-◌}
use lib.ListN.{length}
use Rattle.filing.specs.Paged.{Paged}
use Rattle.naming.specs.Rooted.{bytes_of}
use Rattle.naming.proofs.Reached.{Left}
use Rattle.naming.proofs.root.mark_entries.Given as goal

abbrev pub invariant-loop-at : goal.invariant-loop-at
invariant-loop-at l = record {
  paged : Paged l.page (bytes_of l.card l.s l.t);
  size : l.t.size ≡ length (bytes_of l.card l.s l.t);
  left : Left (bytes_of l.card l.s l.t) l.n l.initial.marks l.marks l.at;
}

abbrev pub decreases-loop-at : goal.decreases-loop-at
decreases-loop-at l = l.t.size - l.at
