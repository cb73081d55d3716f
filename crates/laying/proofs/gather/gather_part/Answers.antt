-- `laying::gather::gather_part` keeps its promise.
use native.Mathlib.Omega.{arith}
use Rattle.memory.proofs.Parts.{part_over}
use Rattle.laying.proofs.gather.gather_part.Goals as goal

pub returns : goal.returns
returns c = part_over _ _ _ c.args.at _ _ _ c.args.n c.min-from.ensures (omega arith) c.min-m.ensures c.gather_stream.ensures
