-- What is still to be shuffled are the items before `i`.
use Rattle.std.proofs.Common.{◌≡◌, length}
use Rattle.std.specs.Prelude.{IsPermutation}
use Rattle.dice.specs.Rolls.{rolled_times, shuffled}
use Rattle.dice.proofs.rolls.Dice.shuffle.Given as goal

abbrev pub invariant-loop-i : goal.invariant-loop-i
invariant-loop-i g l = record {
  order : shuffled l.i l.self l.items ≡ shuffled (length l.initial.items) l.initial.self l.initial.items;
  state : rolled_times l.i l.self ≡ rolled_times (length l.initial.items) l.initial.self;
  permutation : IsPermutation l.initial.items l.items;
}
