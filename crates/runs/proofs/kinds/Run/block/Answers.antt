-- `runs::kinds::Run::block` keeps its promise: a run's shift is from 6 to 12, so its blocks have from 2^6 to 2^12 bytes.
use Rattle.std.proofs.Common.{◌≤◌, ◌^◌, min, arith}
use Rattle.std.proofs.Math.Pow.{pow_mono}
use Rattle.runs.proofs.kinds.Run.block.Goals as goal

pub returns : goal.returns
returns c = let low : 2 ^ 6 ≤ c.block_bytes.result = rw c.block_bytes.ensures.bytes (pow_mono {i = 6} {j = min c.args.self.shift 12} (omega arith)) in (omega (arith, low), c.block_bytes.ensures.high)
