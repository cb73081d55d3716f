-- Numbers marked one after the other, and the marks compared with a test: how a list is found to name the right descriptors, each once.
use Rattle.std.specs.Prelude.{Bool, not, ℕ, ◌+◌, ◌-◌, ◌/◌, ◌%◌, List, map, get_or, leb, eqb}
use Rattle.layout.specs.Bytes.{pick, num, end8}
use Rattle.layout.specs.Blocks.{walk}
use Rattle.layout.specs.Streams.{dead, live}

-- k is marked exactly where the test holds of it
unfoldable pub right_mark : List ℕ → (ℕ → Bool) → ℕ → Bool
right_mark m p k = pick (eqb (get_or m k 0) 0) (not (p k)) (p k)

-- the descriptors that are asked for: the live ones or the free ones
abbrev pub asked : List ℕ → Bool → ℕ → Bool
asked tab alive k = pick alive (live tab k) (dead tab k)

-- L63: the descriptor that stands at offset x of the table; where none does, a number that no descriptor has
unfoldable pub number_at : ℕ → ℕ
number_at x = pick (leb 8 x) (pick (eqb ((x - 8) % 25) 0) ((x - 8) / 25) end8) end8

-- L67: the free descriptors along their chain, by their numbers
unfoldable pub spares : List ℕ → ℕ → List ℕ
spares tab n = map number_at (walk (n + 1) (num 8 tab) (num 8 tab 0))
