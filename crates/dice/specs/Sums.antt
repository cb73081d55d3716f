-- Quotients and remainders by any number, and the sum of bytes.
use Rattle.std.specs.Prelude.{ℕ, ◌+◌, ◌*◌, ◌/◌, ◌%◌, ◌==◌, if◌then◌else◌, List, [], ◌∷◌}
use Rattle.dice.specs.declared.TheConstants.{MODULUS}

-- The quotient; 0 by 0.
abbrev pub quotient_of : ℕ → ℕ → ℕ
quotient_of a b = if b == 0 then 0 else a / b

-- The remainder; 0 by 0.
abbrev pub rest_of : ℕ → ℕ → ℕ
rest_of a b = if b == 0 then 0 else a % b

-- From a number on, each byte makes it that number times `factor`, and the byte.
abbrev pub sum_of : ℕ → ℕ → List ℕ → ℕ
sum_of factor v [] = v
sum_of factor v (b ∷ bytes) = sum_of factor ((v * factor + b) % MODULUS) bytes
