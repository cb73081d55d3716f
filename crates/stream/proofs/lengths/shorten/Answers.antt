-- `stream::lengths::shorten` keeps its promise.
use mathlib.Core.Path.{ap}
use Rattle.stream.proofs.Sizes.{stream-shorter}
use Rattle.stream.proofs.lengths.shorten.Goals as goal

pub returns : goal.returns
returns c =
    let size = ap (λ s. s.size) c.s.view_is in
    stream-shorter _ _ _ _ _ _ _ _ _ c.stream-t.ensures (rw size at c.up-d2.ensures.0) (rw size at c.lowered_top-top.ensures) (rw size at c.release.ensures) c.set_stream.ensures
