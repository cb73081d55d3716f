-- The cards on which the wrong stores are tried: each is left by a short run of calls after a format.
use Rattle.std.specs.Prelude.{ℕ, List, [], ◌∷◌, replicate}
use Rattle.layout.specs.Calls.{formatted}
use Rattle.demands.specs.Call.{Call, writes, creates}
use Rattle.demands.specs.Store.{runs, ours}

abbrev pub a : List ℕ
a = 97 ∷ []

abbrev pub b : List ℕ
b = 98 ∷ []

-- four blocks of 64 bytes, nothing on them
abbrev pub empty : List ℕ
empty = formatted 343 6

-- "a" is there, of no bytes; then of two
abbrev pub made : List Call
made = creates a ∷ []

abbrev pub filled : List Call
filled = creates a ∷ writes a 0 (5 ∷ 6 ∷ []) ∷ []

abbrev pub one_stream : List ℕ
one_stream = runs ours 0 empty made

abbrev pub two_bytes : List ℕ
two_bytes = runs ours 0 empty filled

-- ten blocks of 64 bytes: "a" has two data blocks, "b" none
abbrev pub pair : List Call
pair = creates a ∷ creates b ∷ writes a 0 (replicate 65 5) ∷ []

abbrev pub two_streams : List ℕ
two_streams = runs ours 0 (formatted 727 6) pair
