-- A step of the loop is a step of the definition.
use Rattle.std.proofs.Common.{◌≡◌, ℕ, suc, ◌+◌, ◌-◌, List, arith}
use Rattle.std.proofs.lemmas.Grind.{common_steps}
use Rattle.std.proofs.lemmas.List.Sorted.{IsPermutation-trans}
use Rattle.std.specs.List.{swap}
use Rattle.dice.specs.Rolls.{rolled, rolled_times, shuffled}
use Rattle.dice.specs.Sums.{rest_of}
use Rattle.dice.proofs.rolls.Dice.shuffle.Goals as goal

shuffled_step : {A : Type 0} (n m x k : ℕ) (xs : List A) → n ≡ suc m → k ≡ rest_of (rolled x) (m + 1) →
    shuffled n x xs ≡ shuffled m (rolled x) (swap xs m k)
shuffled_step n m x k xs e d = grind (arith, common_steps)

rolled_step : (n m x : ℕ) → n ≡ suc m → rolled_times n x ≡ rolled_times m (rolled x)
rolled_step n m x e = grind (arith, common_steps)

pub loop-i-preserved : goal.loop-i-preserved
loop-i-preserved g c =
    let order = shuffled_step c.loop-i.i (c.loop-i.i - 1) c.loop-i.self c.below-other.result c.loop-i.items (omega arith) c.below-other.ensures.number in
    let state = rolled_step c.loop-i.i (c.loop-i.i - 1) c.loop-i.self (omega arith) in
    record { order = cc; state = cc; permutation = IsPermutation-trans _ _ _ c.loop-i.invariant.permutation c.swap.ensures.permutation }
