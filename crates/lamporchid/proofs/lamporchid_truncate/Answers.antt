-- `lamporchid::lamporchid_truncate` keeps its promise.
use Rattle.lamporchid.proofs.Told.{truncate_told}
use Rattle.lamporchid.proofs.lamporchid_truncate.Goals as goal

pub returns : goal.returns
returns c = truncate_told _ _ _ _ _ _ c.truncate.ensures c.done_word.ensures
