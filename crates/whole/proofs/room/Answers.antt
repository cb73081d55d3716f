-- `whole::room` keeps its promise.
use Rattle.std.proofs.lemmas.Result.{err_from_is_err_and}
use Rattle.layout.specs.Promises.{Rooms}
use Rattle.layout.specs.Calls.{room}
use Rattle.front.proofs.Fronted.{refused-damaged, sound_of, free_of_lem}
use Rattle.whole.proofs.Counting.{room-done}
use Rattle.whole.proofs.room.Goals as goal

pub returns-in_err-examine : goal.returns-in_err-examine
unfolding Rooms room
returns-in_err-examine c = let p = err_from_is_err_and c.from_residual.result c.from_residual.ensures.1 in rw (p.1, p.2) (refused-damaged _ c.in_err-examine.ensures _ _ _)

pub returns : goal.returns
unfolding Rooms
returns c = room-done (sound_of _ c.in_ok-examine.ensures) _ (free_of_lem _ c.in_ok-examine.ensures)
