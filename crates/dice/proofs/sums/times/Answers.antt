-- Two factors below 2^20 have a product below 2^40.
use Rattle.std.proofs.Common.{◌≤◌, arith}
use Rattle.std.proofs.Math.Nat.{mul-le-mul}
use Rattle.dice.proofs.sums.times.Goals as goal

pub returns-clause-bound : goal.returns-clause-bound
returns-clause-bound c =
    let p : c.min.result ≤ 1048575 = omega arith in
    let q : c.min-2.result ≤ 1048575 = omega arith in
    omega (arith, mul-le-mul p q)
