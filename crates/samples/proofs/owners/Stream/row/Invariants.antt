-- What is left of the blocks gets no longer.
use Rattle.std.proofs.Common.{◌≤◌, length}
use Rattle.samples.proofs.owners.Stream.row.Given as goal

abbrev pub invariant-loop-width : goal.invariant-loop-width
invariant-loop-width l = length l.left ≤ length l.initial.left
