-- A card's shape from the numbers that blocks need; its table and filing do not matter to them.
use Rattle.std.specs.Prelude.{ℕ}
use Rattle.layout.specs.declared.Shape.{Shape}

abbrev pub cut : ℕ → ℕ → ℕ → ℕ → Shape
cut base size count first = record { base = base; size = size; count = count; first = first; table = 0; filing = 0 }
