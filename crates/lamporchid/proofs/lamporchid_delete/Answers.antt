-- `lamporchid::lamporchid_delete` keeps its promise.
use Rattle.lamporchid.proofs.Told.{delete_told}
use Rattle.lamporchid.proofs.lamporchid_delete.Goals as goal

pub returns : goal.returns
returns c = delete_told _ _ _ _ _ c.delete.ensures c.done_word.ensures
