-- `memory::runs::copy` keeps its promise.
use Rattle.std.proofs.Common.{◌∙◌, arith, take, drop, length-take, length-drop}
use Rattle.memory.proofs.Parts.{over_part, part_of}
use Rattle.memory.proofs.runs.copy.Goals as goal

pub returns : goal.returns
returns c =
    over_part c.args.dst.now (take c.args.n (drop c.args.from c.args.src.now)) _ c.args.at _ _ c.min-to.ensures
    (simp (length-take, length-drop) (omega arith))
    (c.copy_from_slice.ensures.after ∙ part_of c.args.src.now c.args.from _ c.args.n _ _ c.min-start.ensures (omega arith) (omega arith))
