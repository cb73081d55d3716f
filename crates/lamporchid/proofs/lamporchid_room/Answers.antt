-- `lamporchid::lamporchid_room` keeps its promise.
use Rattle.lamporchid.proofs.Told.{room-low, room_told}
use Rattle.lamporchid.proofs.lamporchid_room.Goals as goal

pub counted_word-requires : goal.counted_word-requires
counted_word-requires c = room-low _ _ c.room.ensures

pub returns : goal.returns
returns c = room_told _ _ c.room.ensures _ c.counted_word.ensures
