-- Bytes that stand in blocks one after the other, whatever says which block comes next.
use Rattle.std.specs.Prelude.{ℕ, zero, suc, ◌+◌, ◌/◌, ◌%◌, List, [], ◌∷◌, get_or}
use Rattle.layout.specs.Blocks.{place}
use Rattle.layout.specs.declared.Shape.{Shape}

-- n bytes from place p on, where `block k` is the k-th block: by `node` a stream's, by `slot` those below one redirector
unfoldable pub gathered : List ℕ → Shape → (ℕ → ℕ) → ℕ → ℕ → List ℕ
gathered c s block p zero = []
gathered c s block p (suc n) = get_or c (place s (block (p / s.size)) + p % s.size) 0 ∷ gathered c s block (p + 1) n
