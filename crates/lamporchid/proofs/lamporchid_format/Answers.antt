-- `lamporchid::lamporchid_format` keeps its promise.
use Rattle.lamporchid.proofs.Told.{format_told}
use Rattle.lamporchid.proofs.lamporchid_format.Goals as goal

pub returns : goal.returns
returns c = format_told _ _ _ _ _ c.format.ensures c.done_word.ensures
