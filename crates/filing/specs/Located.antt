-- Where a name is among a directory's entries, and an entry by its number, as the search comes to them.
use Rattle.std.specs.Prelude.{ℕ, zero, suc, ◌+◌, List, [], ◌∷◌, length, Option, Some, None, Result, Ok, Err}
use Rattle.layout.specs.Bytes.{pick, same}
use Rattle.layout.specs.Filing.{Entry}
use Rattle.filing.specs.declared.entries.Found.{Found}
use Rattle.filing.specs.declared.listing.Row.{Row}

-- L73: the first entry with that name, or how many there are where none has it; n entries stand before
unfoldable pub located : List Entry → List ℕ → ℕ → Result Found ℕ
located [] name n = Err n
located (e ∷ es) name n = pick (same e.name name) (Ok (record { number = n; index = e.index; at = e.at })) (located es name (n + 1))

-- L70: entry number n, or that there are not so many
unfoldable pub numbered : List Entry → ℕ → Option Row
numbered [] n = None
numbered (e ∷ es) zero = Some (record { index = e.index; at = e.at; length = length e.name })
numbered (e ∷ es) (suc n) = numbered es n
