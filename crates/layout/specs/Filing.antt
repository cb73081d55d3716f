-- A directory, by its bytes: entries, names, looking a name up, adding and removing an entry.
use Rattle.std.specs.Prelude.{Bool, true, not, ℕ, zero, suc, ◌+◌, List, [], ◌∷◌, ◌++◌, length, take, drop, leb, eqb}
use Rattle.layout.specs.Limits.{longest_name, slash}
use Rattle.layout.specs.Bytes.{pick, both, num, bytes, same, all_b, holds}
use Rattle.layout.specs.Streams.{stream_bytes, lengthened, shortened, in_stream}
use Rattle.layout.specs.declared.Shape.{Shape}

-- ---- entries

-- L70: an entry, and where it starts
pub record Entry : Type 0 where
  pub index : ℕ
  pub name : List ℕ
  pub at : ℕ

abbrev pub name_length : List ℕ → ℕ → ℕ
name_length r at = num 2 r (at + 4)

abbrev pub entry_at : List ℕ → ℕ → Entry
entry_at r at = record { index = num 4 r at; name = take (name_length r at) (drop (at + 6) r); at = at }

unfoldable pub entries_from : ℕ → List ℕ → ℕ → List Entry
entries_from zero r at = []
entries_from (suc g) r at = pick (leb (length r) at) [] (entry_at r at ∷ entries_from g r (at + 6 + name_length r at))

-- L71: the entries of a directory's bytes
unfoldable pub entries : List ℕ → List Entry
entries r = entries_from (length r) r 0

-- L70: an entry as it is written
unfoldable pub entry_bytes : ℕ → List ℕ → List ℕ
entry_bytes k name = bytes 4 k ++ bytes 2 (length name) ++ name

-- ---- what a good directory is

-- L72: 1 to 64 bytes, none of them the slash
unfoldable pub good_name : List ℕ → Bool
good_name name = both (leb 1 (length name)) (both (leb (length name) longest_name) (not (holds slash name)))

unfoldable pub reads_from : ℕ → List ℕ → ℕ → Bool
reads_from zero r at = leb (length r) at
reads_from (suc g) r at =
    pick (leb (length r) at) (eqb (length r) at)
    (both (leb (at + 6 + name_length r at) (length r)) (reads_from g r (at + 6 + name_length r at)))

-- L71: entry by entry to the very end
unfoldable pub reads : List ℕ → Bool
reads r = reads_from (length r) r 0

-- L73: where a name is: its entry's number, or how many entries there are
unfoldable pub look_in : List Entry → List ℕ → ℕ
look_in [] name = 0
look_in (e ∷ es) name = pick (same e.name name) 0 (suc (look_in es name))

-- L108: no name stands twice
unfoldable pub distinct_names : List Entry → Bool
distinct_names [] = true
distinct_names (e ∷ es) = both (eqb (look_in es e.name) (length es)) (distinct_names es)

-- L106 to L108
unfoldable pub good_directory : List ℕ → Bool
good_directory r = both (reads r) (both (all_b (λ e. good_name e.name) (entries r)) (distinct_names (entries r)))

-- ---- a directory is a stream

-- L69
unfoldable pub entries_of : List ℕ → Shape → ℕ → List Entry
entries_of c s k = entries (stream_bytes c s k)

-- what stands where there is no entry
abbrev pub nothing : Entry
nothing = record { index = 0; name = []; at = 0 }

-- L74, L75: a directory's bytes with an entry more, and without one
unfoldable pub with_entry : List ℕ → ℕ → List ℕ → List ℕ
with_entry r k name = r ++ entry_bytes k name

unfoldable pub without_entry : List ℕ → Entry → List ℕ
without_entry r e = take e.at r ++ drop (e.at + 6 + length e.name) r

-- directory k becomes r', longer than it was and other from place p on
unfoldable pub extended : List ℕ → Shape → ℕ → ℕ → List ℕ → List ℕ
extended c s k p r' = in_stream (lengthened c s k (length r')) s k p (drop p r')

-- directory k becomes r', shorter than it was and other from place p on
unfoldable pub pulled : List ℕ → Shape → ℕ → ℕ → List ℕ → List ℕ
pulled c s k p r' = shortened (in_stream c s k p (drop p r')) s k (length r')
