-- Demand 3, of any store: what the card is after an accepted call, read afresh from its bytes alone, and after any run from a newly
-- formatted card.
use Rattle.std.specs.Prelude.{◌≡◌, ℕ, suc, ◌+◌, ◌≤◌, ◌<◌, List, length, get_or, T}
use Rattle.layout.specs.Blocks.{place}
use Rattle.layout.specs.Streams.{table, table_bytes, offset, stream, stream_bytes}
use Rattle.layout.specs.Header.{shaped, shape_of}
use Rattle.layout.specs.Sound.{broken}
use Rattle.layout.specs.Calls.{index_of}
use Rattle.demands.specs.Call.{Call, checks, rooms, sizes, reads, lists, writes, truncates, creates, deletes}
use Rattle.demands.specs.Plain.{Plain, free_of, table_size, knows, plain_call, plain_new}
use Rattle.demands.specs.Runs.{plain_after, peak}
use Rattle.demands.specs.Shows.{plain}
use Rattle.demands.specs.Store.{Store, does, runs}
use Rattle.demands.specs.Owners.{blocks_of_table, blocks_of_root, blocks_of, free_chain, all_blocks, times}
use Rattle.demands.specs.Parts.{Within, Among, Freed, RootByte, Listed}

-- ---- after an accepted call

-- the stream that a call changes, makes or takes away
abbrev pub Concerns : Call → List ℕ → Type 0
Concerns checks n = ⊥
Concerns rooms n = ⊥
Concerns (sizes name) n = ⊥
Concerns (reads name p tray) n = ⊥
Concerns (lists k tray) n = ⊥
Concerns (writes name p vs) n = n ≡ name
Concerns (truncates name m) n = n ≡ name
Concerns (creates name) n = n ≡ name
Concerns (deletes name) n = n ≡ name

-- a stream that is not concerned: the same index, the same blocks in the same order, the same bytes
pub record SameStream (c c' name : List ℕ) : Type 0 where
  pub index : index_of c' name ≡ index_of c name
  pub blocks : blocks_of c' name ≡ blocks_of c name
  pub bytes : stream_bytes c' (shape_of c') (index_of c' name) ≡ stream_bytes c (shape_of c) (index_of c name)

-- write and truncate: the directory and the table keep their blocks, the directory its bytes, the table all but the named descriptor,
-- and the named stream its index
pub record KeptDirectory (c name c' : List ℕ) : Type 0 where
  pub index : index_of c' name ≡ index_of c name
  pub root_blocks : blocks_of_root c' ≡ blocks_of_root c
  pub root_bytes : stream_bytes c' (shape_of c') 0 ≡ stream_bytes c (shape_of c) 0
  pub table_keeps_blocks : blocks_of_table c' ≡ blocks_of_table c
  pub table_length : length (table_bytes c' (shape_of c')) ≡ length (table_bytes c (shape_of c))
  pub table_keeps_bytes : (q : ℕ) → (Within (offset (index_of c name)) 25 q → ⊥) → get_or (table_bytes c' (shape_of c')) q 0 ≡ get_or (table_bytes c (shape_of c)) q 0

-- bytes of c' that are those of c
abbrev pub SameByte : List ℕ → List ℕ → ℕ → Type 0
SameByte c c' i = get_or c' i 0 ≡ get_or c i 0

-- a freed block changes in its first 4 bytes alone
abbrev pub FreedKept : List ℕ → List ℕ → Type 0
FreedKept c c' = (b : ℕ) → Freed c c' b → (i : ℕ) → Within (place (shape_of c) b) (shape_of c).size i → place (shape_of c) b + 4 ≤ i → SameByte c c' i

-- truncate: no byte of a block that the stream keeps changes
pub record Cut (c name c' : List ℕ) : Type 0 where
  pub kept : (b : ℕ) → Among (blocks_of c' name) b → (i : ℕ) → Within (place (shape_of c) b) (shape_of c).size i → SameByte c c' i
  pub freed : FreedKept c c'

-- delete: bytes past the directory's new end, in a block that it keeps, stay
pub record Pulled (c c' : List ℕ) : Type 0 where
  pub kept : (b : ℕ) → Among (blocks_of_root c') b → (i : ℕ) → Within (place (shape_of c) b) (shape_of c).size i
      → ((q : ℕ) → q < (stream c' (shape_of c') 0).size → RootByte c q i → ⊥) → SameByte c c' i
  pub freed : FreedKept c c'

-- more closely, of one call alone
abbrev pub Closely : List ℕ → Call → List ℕ → Type 0
Closely c checks c' = c' ≡ c
Closely c rooms c' = c' ≡ c
Closely c (sizes name) c' = c' ≡ c
Closely c (reads name p tray) c' = c' ≡ c
Closely c (lists k tray) c' = c' ≡ c
Closely c (writes name p vs) c' = KeptDirectory c name c'
Closely c (truncates name n) c' = KeptDirectory c name c' × Cut c name c'
Closely c (creates name) c' = Unit
Closely c (deletes name) c' = Pulled c c'

-- the card c before a call, and the card c' that it leaves
pub record Leaves (c : List ℕ) (k : Call) (c' : List ℕ) : Type 0 where
  -- it passes its check again
  pub passes : broken c' ≡ 0
  -- it shows the old names and bytes with that one edit
  pub shows : plain c' ≡ (plain_call (plain c) k).after
  -- every block belongs to exactly one stream, the directory, the table or the free chain
  pub owned : (b : ℕ) → b < (shape_of c').count → times b (all_blocks c') ≡ 1
  -- every other stream has the same blocks, in the same order, with the same bytes, under the same index
  pub others : (name : List ℕ) → T (knows (plain c) name) → (Concerns k name → ⊥) → SameStream c c' name
  -- only the parts listed for the call have changed: where a byte differs, it lies in one of them
  pub long : length c' ≡ length c
  pub parts : (i : ℕ) → (SameByte c c' i → ⊥) → Listed c k c' i
  -- and what is said of one call alone
  pub closely : Closely c k c'

-- ---- format, and runs from a newly formatted card

-- a new card passes its check, shows the empty list, and has all blocks free but the table's one
pub record NewCard (len shift : ℕ) (c : List ℕ) : Type 0 where
  pub passes : broken c ≡ 0
  pub shows : plain c ≡ plain_new shift (shaped len shift).count
  pub free : length (free_chain c) + 1 ≡ (shaped len shift).count
  pub long : length c ≡ len

-- the card c that a run leaves, the free blocks that the store then tells, and the list p that the plain calls leave: nothing on the
-- right is read from the card
pub record RunLeaves (c : List ℕ) (told : ℕ) (p : Plain) (most : ℕ) : Type 0 where
  pub passes : broken c ≡ 0
  pub shows : plain c ≡ p
  -- the free blocks number the card's blocks less what the layout needs for the lengths that are left
  pub free : length (free_chain c) ≡ free_of p
  pub free_told : told ≡ free_of p
  -- the table has one descriptor for the root, and one for each of the most streams ever held at once
  pub table_long : (table c (shape_of c)).size ≡ table_size (most + 1)

pub record Demand3 (S : Store) : Type 0 where
  pub leaves : (n : ℕ) (c : List ℕ) → broken c ≡ 0 → (k : Call) → (does S n c k).number ≡ 0 → Leaves c k (does S n c k).card
  pub formats : (n : ℕ) (c : List ℕ) (shift : ℕ) → (S.format n c shift).number ≡ 0 → NewCard (length c) shift (S.format n c shift).card
  -- any run of calls after a format, which is the n-th; the store is the only writer
  pub history : (n : ℕ) (c : List ℕ) (shift : ℕ) → (S.format n c shift).number ≡ 0 → (ks : List Call)
      → let new = plain_new shift (shaped (length c) shift).count in
      let left = runs S (suc n) (S.format n c shift).card ks in
      RunLeaves left (S.room (suc n + length ks) left).count (plain_after new ks) (peak new ks)
