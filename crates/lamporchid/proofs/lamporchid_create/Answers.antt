-- `lamporchid::lamporchid_create` keeps its promise.
use Rattle.lamporchid.proofs.Told.{create_told}
use Rattle.lamporchid.proofs.lamporchid_create.Goals as goal

pub returns : goal.returns
returns c = create_told _ _ _ _ _ c.create.ensures c.done_word.ensures
