-- The power is at most that of the largest shift.
use Rattle.std.proofs.Common.{◌≤◌, arith}
use Rattle.std.proofs.Math.Pow.{pow_mono}
use Rattle.dice.proofs.sums.block_bytes.Goals as goal

pub returns-clause-high : goal.returns-clause-high
returns-clause-high c = let p : c.min.result ≤ 12 = omega arith in omega (arith, pow_mono p)
