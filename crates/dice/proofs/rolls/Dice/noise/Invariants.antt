-- The bytes from `i` on are noise already, and what is still to be rolled makes the bytes before them.
use Rattle.std.proofs.Common.{◌≡◌, ◌++◌, drop, length}
use Rattle.dice.specs.Rolls.{noise_of, rolled_times}
use Rattle.dice.proofs.rolls.Dice.noise.Given as goal

abbrev pub invariant-loop-i : goal.invariant-loop-i
invariant-loop-i l = record {
  noise : noise_of l.i l.self ++ drop l.i l.bytes ≡ noise_of (length l.initial.bytes) l.initial.self;
  state : rolled_times l.i l.self ≡ rolled_times (length l.initial.bytes) l.initial.self;
}
