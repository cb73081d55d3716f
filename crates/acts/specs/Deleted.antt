-- What delete leaves, in the order in which it is done.
use Rattle.std.specs.Prelude.{ℕ, ◌+◌, List}
use Rattle.layout.specs.Calls.{undescribed}
use Rattle.filing.specs.Edited.{removed}
use Rattle.layout.specs.declared.Shape.{Shape}

-- L132 to L135: stream j and its descriptor are freed; then its entry, at `at` in directory k and with a name of n bytes, goes
abbrev pub deleted_at : List ℕ → Shape → ℕ → ℕ → ℕ → ℕ → List ℕ
deleted_at c s k j at n = removed (undescribed c s j) s k at (6 + n)
