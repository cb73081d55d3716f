-- The table is read onto a page, from which the later rules take it.
use Rattle.std.specs.Prelude.{◌≡◌, ℕ, List, get_or}

-- the page reads as the bytes do, zeros past their end
abbrev pub Reads : List ℕ → List ℕ → Type 0
Reads page bytes = (i : ℕ) → get_or page i 0 ≡ get_or bytes i 0
