-- The root's bytes, and what its entries must be by themselves.
use Rattle.std.specs.Prelude.{◌≡◌, Bool, true, ℕ, ◌+◌, ◌^◌, ◌≤◌, ◌<◌, List, map, length, get_or, leb}
use Rattle.layout.specs.Limits.{most_streams, longest_name}
use Rattle.layout.specs.Bytes.{both, all_b}
use Rattle.layout.specs.Streams.{data_of, contents}
use Rattle.layout.specs.Filing.{Entry, name_length, entry_at, entries_from, entries, nothing, good_name, reads_from}
use Rattle.layout.specs.declared.Shape.{Shape}
use Rattle.layout.specs.declared.Desc.{Desc}

-- the bytes of the stream that t describes
abbrev pub bytes_of : List ℕ → Shape → Desc → List ℕ
bytes_of c s t = contents c s t.top (data_of s t) t.size

-- the entry at `at` is whole and its name is good
abbrev pub good_at : List ℕ → ℕ → Bool
good_at r at = both (leb (at + 6 + name_length r at) (length r)) (good_name (entry_at r at).name)

abbrev pub named : Entry → Bool
named e = good_name e.name

-- from `at` on, entry by entry to the very end, every name good
unfoldable pub tidy_from : List ℕ → ℕ → Bool
tidy_from r at = both (reads_from (length r) r at) (all_b named (entries_from (length r) r at))

-- the streams that the entries lead to
abbrev pub indices : List Entry → List ℕ
indices es = map (λ e. e.index) es

-- a directory whose entries are all in order, and so few that their numbers fit
pub record Tidy (r : List ℕ) : Type 0 where
  pub whole : tidy_from r 0 ≡ true
  pub few : length (entries r) ≤ most_streams
  pub low : length r < 2 ^ 32

-- entry i of such a directory is at `at`
pub record Here (r : List ℕ) (at i : ℕ) : Type 0 where
  pub entry : get_or (entries r) i nothing ≡ entry_at r at
  pub inside : i < length (entries r)
  pub few : i < most_streams
  pub low : at < 2 ^ 32
  pub whole : at + 6 + name_length r at ≤ length r
  pub some : 1 ≤ name_length r at
  pub short : name_length r at ≤ longest_name
