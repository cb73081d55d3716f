-- Three clauses of the demands as tests that compute, so that a card and a count can be tried by them. proofs/Asked.antt shows that the
-- demands ask them of every store.
use Rattle.std.specs.Prelude.{Bool, ℕ, ◌+◌, List, length, eqb}
use Rattle.layout.specs.Bytes.{same}
use Rattle.demands.specs.Plain.{Plain, needs, sum, root_size, table_size, block_size}
use Rattle.demands.specs.Owners.{blocks_of, all_blocks, times}

-- demand 3: a stream that the call does not concern has the same blocks, in the same order
unfoldable pub same_order : List ℕ → List ℕ → List ℕ → Bool
same_order c c' name = same (blocks_of c' name) (blocks_of c name)

-- demand 3: a block belongs to exactly one stream, the directory, the table or the free chain
unfoldable pub in_one : List ℕ → ℕ → Bool
in_one c b = eqb (times b (all_blocks c)) 1

-- demands 2 and 3: the free blocks and what the table, the directory and the streams need are all blocks
unfoldable pub right_count : Plain → ℕ → Bool
right_count p free = eqb (free + needs (block_size p) (table_size p.descs) + needs (block_size p) (root_size p.items) + sum (λ f. needs (block_size p) (length f.bytes)) p.items) p.count
