-- `memory::runs::fetch` keeps its promise.
use Rattle.std.proofs.Common.{◌∙◌}
use Rattle.memory.proofs.Turns.{fetch-inside, fetch_past}
use Rattle.memory.proofs.runs.fetch.Goals as goal

pub returns-then-m-n : goal.returns-then-m-n
returns-then-m-n c = c.clear.ensures ∙ fetch_past _ _ _ _ _ _ _ c.min-m.ensures c.saturating_sub.ensures _ c.copy.ensures c.if-m-n.true

pub returns-else-m-n : goal.returns-else-m-n
returns-else-m-n c = fetch-inside _ _ _ _ _ _ _ c.min-m.ensures c.saturating_sub.ensures _ c.copy.ensures c.if-m-n.false
