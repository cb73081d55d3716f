-- `memory::bytes::split` keeps its promise.
use Rattle.std.proofs.Common.{◌∙◌, ap, arith, length, ◌-◌, ◌+◌, ◌%◌, ◌/◌, ℕ, set}
use Rattle.layout.specs.Bytes.{put}
use Rattle.memory.proofs.Turns.{put_step, put-zero}
use Rattle.memory.proofs.bytes.split.Goals as goal

pub loop-b-preserved : goal.loop-b-preserved
loop-b-preserved c =
    let n = length c.args.run.now in
    let i = c.loop-b.b-index in
    ap (λ (k : ℕ). put k (set c.loop-b.run i (c.loop-b.rest % 256)) (i + 1) (c.loop-b.rest / 256)) (omega arith)
    ∙ put_step (n - i) c.loop-b.run i c.loop-b.rest (omega arith)
    ∙ c.loop-b.invariant

pub returns : goal.returns
returns c = put-zero _ _ _ _ (omega arith) ∙ c.loop-b.invariant
