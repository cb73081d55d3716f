-- `lamporchid::lamporchid_read` keeps its promise.
use Rattle.lamporchid.proofs.Told.{read_low, read_told}
use Rattle.lamporchid.proofs.lamporchid_read.Goals as goal

pub counted_word-requires : goal.counted_word-requires
counted_word-requires c = read_low _ _ _ _ _ _ c.read.ensures

pub returns : goal.returns
returns c = read_told _ _ _ _ _ _ c.read.ensures _ c.counted_word.ensures
