-- What the searches in the root tell, in the words of the calls' definitions.
use mathlib.Core.Path.{◌≡◌, ap}
use mathlib.Core.List.{List}
use Rattle.std.specs.Prelude.{Some}
use Prim.Native.Nat.{ℕ, ◌<◌}
use lib.ListN.{length, get_or}
use Rattle.layout.specs.Filing.{nothing}
use Rattle.layout.specs.Calls.{root_of}
use Rattle.filing.specs.Located.{numbered}
use Rattle.filing.proofs.Answers.{row_there}
use Rattle.filing.specs.declared.listing.Row.{Row}

-- an entry's number, where there is one
pub row_of_lem : (c : List ℕ) (k : ℕ) (r : Row) → Some r ≡ numbered (root_of c) k
    → (k < length (root_of c)) × (r.length ≡ length (get_or (root_of c) k nothing).name) × (r.index ≡ (get_or (root_of c) k nothing).index)
row_of_lem c k r e =
    let g = row_there (root_of c) k e in
    (g.0, ap (λ (x : Row). x.length) g.1, ap (λ (x : Row). x.index) g.1)
