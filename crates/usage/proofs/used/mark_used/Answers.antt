-- `usage::used::mark_used` keeps its promise.
use mathlib.Core.Path.{ap}
use Rattle.usage.proofs.Uses.{all_stops, all_goes}
use Rattle.usage.proofs.used.mark_used.Goals as goal

pub returns-then-mark_surplus : goal.returns-then-mark_surplus
returns-then-mark_surplus c = all_goes _ _ _ c.table-t.ensures _ _ _ _ _ (rw (ap (λ s. s.count) c.s.view_is) at c.clear.ensures) (rw (ap (λ s. s.size) c.s-2.view_is) at c.mark_surplus.ensures) c.if-mark_surplus.true _ _ c.mark_streams.ensures

pub returns-else-mark_surplus : goal.returns-else-mark_surplus
returns-else-mark_surplus c = all_stops _ _ _ c.table-t.ensures _ _ _ _ _ (rw (ap (λ s. s.count) c.s.view_is) at c.clear.ensures) (rw (ap (λ s. s.size) c.s-2.view_is) at c.mark_surplus.ensures) c.if-mark_surplus.false
