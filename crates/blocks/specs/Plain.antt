-- The reader's numbers as a shape.
use Rattle.std.specs.Prelude.{ℕ}
use Rattle.layout.specs.declared.Shape.{Shape}

-- the reader needs two numbers of a shape; the others do not matter to it
abbrev pub plain_shape : ℕ → ℕ → Shape
plain_shape base size = record { base = base; size = size; count = 0; first = 0; table = 0; filing = 0 }
