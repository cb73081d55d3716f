-- `lamporchid::lamporchid_list` keeps its promise.
use Rattle.lamporchid.proofs.Told.{list-low, list_told}
use Rattle.lamporchid.proofs.lamporchid_list.Goals as goal

pub listed_word-requires : goal.listed_word-requires
listed_word-requires c = list-low _ _ _ _ _ c.list.ensures

pub returns : goal.returns
returns c = list_told _ _ _ _ _ c.list.ensures _ c.listed_word.ensures
