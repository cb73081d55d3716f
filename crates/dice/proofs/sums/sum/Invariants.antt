-- So far the sum goes through the bytes before the index, and what is left leads on to the whole sum.
use Rattle.std.proofs.Common.{◌≡◌, ◌<◌, drop}
use Rattle.dice.specs.Sums.{sum_of}
use Rattle.dice.specs.declared.TheConstants.{MODULUS}
use Rattle.dice.proofs.sums.sum.Given as goal

abbrev pub invariant-loop-b : goal.invariant-loop-b
invariant-loop-b l = record {
  bound : l.v < MODULUS;
  left : sum_of l.factor l.v (drop l.b-index l.bytes) ≡ sum_of l.factor l.start l.bytes;
}
