-- `filing::edits::remove` keeps its promise.
use Rattle.filing.proofs.Editing.{taken_out}
use Rattle.filing.proofs.edits.remove.Goals as goal

pub returns : goal.returns
returns c = taken_out _ _ _ _ _ _ _ _ _ c.stream-t.ensures c.pull.ensures c.saturating_sub.ensures c.shorten.ensures
