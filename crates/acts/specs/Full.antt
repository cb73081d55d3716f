-- When the table can take no more streams, told by its first bytes and its length.
use Rattle.std.specs.Prelude.{Bool, not, ℕ, List, leb}
use Rattle.layout.specs.Limits.{most_streams}
use Rattle.layout.specs.Bytes.{both}
use Rattle.layout.specs.Streams.{slots}
use Rattle.layout.specs.Calls.{reuse}

-- L144: no descriptor is free, and there are as many as there may be; on a sound card 256 live (proofs/Refusing `full_is`)
abbrev pub full_table : List ℕ → Bool
full_table t = both (not (reuse t)) (leb most_streams (slots t))
