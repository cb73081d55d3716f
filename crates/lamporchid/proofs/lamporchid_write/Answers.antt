-- `lamporchid::lamporchid_write` keeps its promise.
use Rattle.lamporchid.proofs.Told.{write_low, write_told}
use Rattle.lamporchid.proofs.lamporchid_write.Goals as goal

pub counted_word-requires : goal.counted_word-requires
counted_word-requires c = write_low _ _ _ _ _ _ c.write.ensures

pub returns : goal.returns
returns c = write_told _ _ _ _ _ _ c.write.ensures _ c.counted_word.ensures
