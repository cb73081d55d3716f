-- Who has which block of a card: the table, the directory, the named streams, the free chain.
use Rattle.std.specs.Prelude.{ℕ, suc, List, [], ◌∷◌, ◌++◌, eqb}
use Rattle.layout.specs.Bytes.{pick, join}
use Rattle.layout.specs.Blocks.{chain}
use Rattle.layout.specs.Streams.{table_blocks, stream_blocks}
use Rattle.layout.specs.Filing.{entries_of}
use Rattle.layout.specs.Header.{shape_of}
use Rattle.layout.specs.Calls.{index_of}

-- each in the order of its pyramid, and the chain in its own
abbrev pub blocks_of_table : List ℕ → List ℕ
blocks_of_table c = table_blocks c (shape_of c)

abbrev pub blocks_of_root : List ℕ → List ℕ
blocks_of_root c = stream_blocks c (shape_of c) 0

abbrev pub blocks_of : List ℕ → List ℕ → List ℕ
blocks_of c name = stream_blocks c (shape_of c) (index_of c name)

abbrev pub free_chain : List ℕ → List ℕ
free_chain c = chain c (shape_of c)

-- all of them, one after the other
unfoldable pub all_blocks : List ℕ → List ℕ
all_blocks c = blocks_of_table c ++ blocks_of_root c ++ join (λ e. stream_blocks c (shape_of c) e.index) (entries_of c (shape_of c) 0) ++ free_chain c

-- how often b stands in a list
unfoldable pub times : ℕ → List ℕ → ℕ
times b [] = 0
times b (x ∷ xs) = pick (eqb b x) (suc (times b xs)) (times b xs)
