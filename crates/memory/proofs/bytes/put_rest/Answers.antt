-- `memory::bytes::put_rest` keeps its promise.
use Rattle.std.proofs.Common.{◌∙◌, ap, arith, ℕ, length-take, length-drop}
use Rattle.layout.specs.Bytes.{put}
use Rattle.memory.proofs.Parts.{put_part}
use Rattle.memory.proofs.bytes.put_rest.Goals as goal

pub returns : goal.returns
returns c =
    put_part c.args.card.now _ _ c.args.at _ _ _ c.min-from.ensures (omega arith) (simp (length-take, length-drop) (omega arith)) c.split.ensures
    ∙ ap (λ (k : ℕ). put k c.args.card.now c.args.at c.args.v) (omega arith)
