-- `samples::sizes::BlockSize::bytes` keeps its promise: 2^s is from 2^6 to 2^12.
use Rattle.std.proofs.Common.{◌≤◌, ◌^◌, arith}
use Rattle.std.proofs.Math.Pow.{pow_mono}
use Rattle.samples.proofs.sizes.BlockSize.bytes.Goals as goal

pub returns-clause-low : goal.returns-clause-low
returns-clause-low c =
    let low : 2 ^ 6 ≤ 2 ^ c.args.self.shift = pow_mono {i = 6} {j = c.args.self.shift} (omega arith) in
    let high : 2 ^ c.args.self.shift ≤ 2 ^ 12 = pow_mono {i = c.args.self.shift} {j = 12} (omega arith) in
    omega (arith, low, high)

pub returns-clause-high : goal.returns-clause-high
returns-clause-high c =
    let high : 2 ^ c.args.self.shift ≤ 2 ^ 12 = pow_mono {i = c.args.self.shift} {j = 12} (omega arith) in
    omega (arith, high)
