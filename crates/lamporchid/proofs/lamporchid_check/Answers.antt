-- `lamporchid::lamporchid_check` keeps its promise.
use Rattle.lamporchid.proofs.Told.{check_told}
use Rattle.lamporchid.proofs.lamporchid_check.Goals as goal

pub returns : goal.returns
returns c = check_told _ _ _ c.check.ensures c.done_word.ensures
