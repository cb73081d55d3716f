-- `holding::read::read` keeps its promise.
use native.Mathlib.Omega.{arith}
use Rattle.holding.proofs.Reading.{read-bytes, read_count}
use Rattle.holding.proofs.read.read.Goals as goal

pub returns : goal.returns
returns c = let a = c.args in
    (read_count a.card.now a.tray.now a.s a.k a.p c.stream-t.result c.stream-t.ensures _ c.min.result (omega arith), read-bytes a.card.now a.tray.now a.s a.k a.p c.stream-t.result c.stream-t.ensures _ _ c.gather_stream.ensures)
