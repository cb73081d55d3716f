-- `filing::edits::put_entry` keeps its promise.
use Rattle.filing.proofs.Editing.{entry-put}
use Rattle.filing.proofs.edits.put_entry.Goals as goal

pub returns : goal.returns
returns c = entry-put _ _ _ _ _ _ c.put_number.ensures c.put_number-2.ensures c.copy.ensures
