-- The parts of a card, and which of them each call may change (L154 to L156).
use Rattle.std.specs.Prelude.{◌≡◌, ◌⊎◌, ℕ, ◌+◌, ◌≤◌, ◌<◌, List, T}
use Rattle.layout.specs.Bytes.{holds}
use Rattle.layout.specs.Blocks.{place}
use Rattle.layout.specs.Streams.{data_of, spot, tall, table, offset, stream}
use Rattle.layout.specs.Header.{shape_of}
use Rattle.layout.specs.Calls.{index_of}
use Rattle.demands.specs.Call.{Call, checks, rooms, sizes, reads, lists, writes, truncates, creates, deletes}
use Rattle.demands.specs.Owners.{blocks_of_table, blocks_of_root, blocks_of, free_chain}
use Rattle.layout.specs.declared.Shape.{Shape}
use Rattle.layout.specs.declared.Desc.{Desc}

-- ---- places

-- byte i is one of the n from a place on
abbrev pub Within : ℕ → ℕ → ℕ → Type 0
Within from n i = (from ≤ i) × (i < from + n)

-- byte i is in one of the blocks that Q tells
abbrev pub InBlocks : Shape → (ℕ → Type 0) → ℕ → Type 0
InBlocks s Q i = (b : ℕ) × Q b × Within (place s b) s.size i

abbrev pub Among : List ℕ → ℕ → Type 0
Among bs b = T (holds b bs)

-- from the card c to the card c': blocks taken from the chain, and blocks given back to it
abbrev pub Taken : List ℕ → List ℕ → ℕ → Type 0
Taken c c' b = Among (free_chain c) b × (Among (free_chain c') b → ⊥)

abbrev pub Freed : List ℕ → List ℕ → ℕ → Type 0
Freed c c' b = Among (free_chain c') b × (Among (free_chain c) b → ⊥)

-- where byte q of a stream stands, by its descriptor
abbrev pub spot_in : List ℕ → Desc → ℕ → ℕ
spot_in c t q = let s = shape_of c in spot c s t.top (tall s (data_of s t)) q

-- byte q of the table, and byte q of the directory, stands at i
abbrev pub TableByte : List ℕ → ℕ → ℕ → Type 0
TableByte c q i = i ≡ spot_in c (table c (shape_of c)) q

abbrev pub RootByte : List ℕ → ℕ → ℕ → Type 0
RootByte c q i = i ≡ spot_in c (stream c (shape_of c) 0) q

-- byte i is in the descriptor of the stream with that name
abbrev pub InDescriptor : List ℕ → List ℕ → ℕ → Type 0
InDescriptor c name i = (q : ℕ) × Within (offset (index_of c name)) 25 q × TableByte c q i

-- ---- the parts listed for a call

abbrev pub InFirstFree : List ℕ → ℕ → Type 0
InFirstFree c i = Within (shape_of c).first 8 i

abbrev pub InTableDescriptor : List ℕ → ℕ → Type 0
InTableDescriptor c i = Within (shape_of c).table 25 i

-- write and truncate: the first-free field, the named stream's descriptor, its own blocks and blocks taken
abbrev pub StreamParts : List ℕ → List ℕ → List ℕ → ℕ → Type 0
StreamParts c name c' i =
    InFirstFree c i ⊎ (InDescriptor c name i ⊎ (InBlocks (shape_of c) (Among (blocks_of c name)) i ⊎ InBlocks (shape_of c) (Taken c c') i))

-- create and delete: the first-free field, the table and its descriptor in the header, the root, the named stream's blocks and blocks taken
abbrev pub DirectoryParts : List ℕ → List ℕ → List ℕ → ℕ → Type 0
DirectoryParts c name c' i =
    InFirstFree c i ⊎ (InTableDescriptor c i ⊎ (InBlocks (shape_of c) (Among (blocks_of_table c)) i
    ⊎ (InBlocks (shape_of c) (Among (blocks_of_root c)) i ⊎ (InBlocks (shape_of c) (Among (blocks_of c name)) i ⊎ InBlocks (shape_of c) (Taken c c') i))))

-- the others touch no byte
abbrev pub Listed : List ℕ → Call → List ℕ → ℕ → Type 0
Listed c checks c' i = ⊥
Listed c rooms c' i = ⊥
Listed c (sizes name) c' i = ⊥
Listed c (reads name p tray) c' i = ⊥
Listed c (lists k tray) c' i = ⊥
Listed c (writes name p vs) c' i = StreamParts c name c' i
Listed c (truncates name n) c' i = StreamParts c name c' i
Listed c (creates name) c' i = DirectoryParts c name c' i
Listed c (deletes name) c' i = DirectoryParts c name c' i
