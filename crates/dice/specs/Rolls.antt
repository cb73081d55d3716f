-- The dice of docs/CASES.md (G1), and what their rolls make.
use Rattle.std.specs.Prelude.{ℕ, zero, suc, ◌+◌, ◌*◌, ◌%◌, List, [], ◌∷◌, ◌++◌}
use Rattle.std.specs.List.{swap}
use Rattle.dice.specs.declared.TheConstants.{FACTOR, MODULUS}
use Rattle.dice.specs.Sums.{rest_of}

-- A state's next one, which is also the number rolled.
abbrev pub rolled : ℕ → ℕ
rolled x = x * FACTOR % MODULUS

-- The state after `n` rolls.
abbrev pub rolled_times : ℕ → ℕ → ℕ
rolled_times zero x = x
rolled_times (suc n) x = rolled_times n (rolled x)

-- `n` bytes, of which the last was rolled first.
abbrev pub noise_of : ℕ → ℕ → List ℕ
noise_of zero x = []
noise_of (suc n) x = noise_of n (rolled x) ++ (rolled x % 256) ∷ []

-- A list whose first `n` items were shuffled: the last of them goes to a place that is drawn, then the one before it.
abbrev pub shuffled : {A : Type 0} → ℕ → ℕ → List A → List A
shuffled zero x items = items
shuffled (suc n) x items = shuffled n (rolled x) (swap items n (rest_of (rolled x) (n + 1)))
