-- `lamporchid::lamporchid_size` keeps its promise.
use mathlib.Core.Path.{◌∙◌}
use Rattle.lamporchid.proofs.Cased.{sized_alike}
use Rattle.lamporchid.proofs.Told.{size_low, size_told}
use Rattle.lamporchid.proofs.lamporchid_size.Goals as goal

pub counted_word-requires : goal.counted_word-requires
counted_word-requires c = rw (sized_alike c.size.result) (size_low _ _ _ c.size.ensures)

pub returns : goal.returns
returns c = size_told _ _ _ c.size.ensures _ (c.counted_word.ensures ∙ sized_alike c.size.result)
