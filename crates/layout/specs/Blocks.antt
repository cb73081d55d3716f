-- Blocks: where they are, the free chain, taking and giving back; the pyramid over a stream's blocks, and its growth.
use Rattle.std.specs.Prelude.{Bool, ℕ, zero, suc, ◌+◌, ◌-◌, ◌*◌, ◌/◌, ◌%◌, List, [], ◌∷◌, ◌++◌, map, length, replicate, leb, ltb, eqb}
use Rattle.layout.specs.Bytes.{pick, num, over, put, end4, end8, run, holds, separate}
use Rattle.layout.specs.Pyramid.{level, height, above, missing}
use Rattle.layout.specs.declared.Shape.{Shape}

-- L32: how many indices a redirector holds
abbrev pub fan : Shape → ℕ
fan s = s.size / 4

-- L21: where block b starts
abbrev pub place : Shape → ℕ → ℕ
place s b = s.base + b * s.size

-- L32: index j of block b: where it stands, and its value
abbrev pub slot_place : Shape → ℕ → ℕ → ℕ
slot_place s b j = place s b + 4 * j

abbrev pub slot : List ℕ → Shape → ℕ → ℕ → ℕ
slot c s b j = num 4 c (slot_place s b j)

-- ---- chains

-- from b on by `next`, until all bits set; g bounds the steps
unfoldable pub walk : ℕ → (ℕ → ℕ) → ℕ → List ℕ
walk zero next b = []
walk (suc g) next b = pick (eqb b end8) [] (b ∷ walk g next (next b))

-- L27: a link has 4 bytes where the header's field has 8: all bits set in one is all bits set in the other
abbrev pub wide : ℕ → ℕ
wide b = pick (eqb b end4) end8 b

abbrev pub narrow : ℕ → ℕ
narrow b = pick (eqb b end8) end4 b

-- L26: the first free block, as the header names it
abbrev pub first_free : List ℕ → Shape → ℕ
first_free c s = num 8 c s.first

-- L25: the free block after b
unfoldable pub next : List ℕ → Shape → ℕ → ℕ
next c s b = wide (num 4 c (place s b))

-- L28: the free blocks in the chain's order. One step more than there are blocks: a chain that does not end is too long
unfoldable pub chain : List ℕ → Shape → List ℕ
chain c s = walk (s.count + 1) (next c s) (first_free c s)

-- whether n blocks are free, found out in at most n steps
unfoldable pub enough : List ℕ → Shape → ℕ → Bool
enough c s n = leb n (length (walk n (next c s) (first_free c s)))

-- ---- taking and giving back

-- L29: the head of the chain is taken: the field names the next one, and the block is zeroed
unfoldable pub taken : List ℕ → Shape → List ℕ
taken c s = put 8 (over c (place s (first_free c s)) (replicate s.size 0)) s.first (next c s (first_free c s))

-- L30: what block b holds once it is given back: the free block after it, in its first 4 bytes
unfoldable pub freed : List ℕ → Shape → ℕ → ℕ → List ℕ
freed c s b after = put 4 c (place s b) (narrow after)

-- L31: the blocks bs, one after the other, are put before the chain that starts at `head`
unfoldable pub linked : List ℕ → Shape → ℕ → List ℕ → List ℕ
linked c s head [] = put 8 c s.first head
linked c s head (b ∷ bs) = linked (freed c s b head) s b bs

-- those of bs that are below n, from the highest down: a block is linked once the one after it is
unfoldable pub falling : ℕ → List ℕ → List ℕ
falling zero bs = []
falling (suc n) bs = pick (holds n bs) (n ∷ falling n bs) (falling n bs)

-- and from b up, n places
unfoldable pub rising : ℕ → ℕ → List ℕ → List ℕ
rising zero b bs = []
rising (suc n) b bs = pick (holds b bs) (b ∷ rising n (suc b) bs) (rising n (suc b) bs)

-- L31: the blocks bs, sorted rising, stand before the old chain
unfoldable pub given_back : List ℕ → Shape → List ℕ → List ℕ
given_back c s bs = linked c s (first_free c s) (falling s.count bs)

-- given back where they are blocks of the card, each once; on a sound card a pyramid's are
unfoldable pub released : List ℕ → Shape → List ℕ → List ℕ
released c s bs = pick (separate s.count bs) (given_back c s bs) c

-- ---- pyramids

-- L37: block number j of the level e below the top
unfoldable pub node : List ℕ → Shape → ℕ → ℕ → ℕ → ℕ
node c s top zero j = top
node c s top (suc e) j = slot c s (node c s top e (j / fan s)) (j % fan s)

-- a block's place in a pyramid: number j of level k
pub record Cell : Type 0 where
  pub k : ℕ
  pub j : ℕ

-- the block in a cell of a pyramid of height h
abbrev pub at : List ℕ → Shape → ℕ → ℕ → Cell → ℕ
at c s top h p = node c s top (h - p.k) p.j

-- L57: level k's blocks that d' data blocks need
unfoldable pub kept : ℕ → ℕ → ℕ → ℕ
kept f k d' = pick (leb k (height f d')) (level f k d') 0

abbrev pub row : ℕ → ℕ → ℕ → ℕ → List Cell
row f d d' k = map (λ j. record { k = k; j = j }) (run (kept f k d') (level f k d - kept f k d'))

-- the cells of the levels k, k - 1, .., 0, of d data blocks, but for those that d' data blocks keep
unfoldable pub cells : ℕ → ℕ → ℕ → ℕ → List Cell
cells f d d' zero = row f d d' zero
cells f d d' (suc k) = row f d d' (suc k) ++ cells f d d' k

-- L57: the blocks that a pyramid of d data blocks has and one of d' does not need
unfoldable pub surplus : List ℕ → Shape → ℕ → ℕ → ℕ → List ℕ
surplus c s top d d' = map (at c s top (height (fan s) d)) (cells (fan s) d d' (height (fan s) d))

-- L39, L40: all blocks of a pyramid
abbrev pub pyramid : List ℕ → Shape → ℕ → ℕ → List ℕ
pyramid c s top d = surplus c s top d 0

-- ---- growth by one data block

pub record Grown : Type 0 where
  pub card : List ℕ
  pub top : ℕ

-- L54: a block is taken, and named in slot j of block b
unfoldable pub hooked : List ℕ → Shape → ℕ → ℕ → List ℕ
hooked c s b j = put 4 (taken c s) (slot_place s b j) (first_free c s)

-- L53, L54: m blocks are taken, each below the one before: the first in slot j of block b, the others in slots 0
unfoldable pub hung : ℕ → List ℕ → Shape → ℕ → ℕ → List ℕ
hung zero c s b j = c
hung (suc m) c s b j = hung m (hooked c s b j) s (first_free c s) 0

-- L52: a new top is taken, with the old one in slot 0, where the height must rise
unfoldable pub raised : List ℕ → Shape → ℕ → ℕ → Grown
raised c s top d =
    pick (ltb (height (fan s) d) (height (fan s) (suc d)))
    (record { card = put 4 (taken c s) (slot_place s (first_free c s) 0) top; top = first_free c s })
    (record { card = c; top = top })

-- L55: data block d and what is missing above it are hung below the lowest block above it that there is
unfoldable pub rooted : List ℕ → Shape → ℕ → ℕ → ℕ → List ℕ
rooted c s top h d =
    let m = missing (fan s) h d in
    hung m c s (node c s top (h - m) (above (fan s) m d)) (above (fan s) (m - 1) d % fan s)

-- L50, L51: data block number d is added
unfoldable pub grown_one : List ℕ → Shape → ℕ → ℕ → Grown
grown_one c s top zero = record { card = taken c s; top = first_free c s }
grown_one c s top (suc n) =
    let r = raised c s top (suc n) in
    record { card = rooted r.card s r.top (height (fan s) (suc (suc n))) (suc n); top = r.top }

-- m data blocks more
unfoldable pub grown : List ℕ → Shape → ℕ → ℕ → ℕ → Grown
grown c s top d zero = record { card = c; top = top }
grown c s top d (suc m) = let g = grown_one c s top d in grown g.card s g.top (suc d) m

-- ---- fewer data blocks

-- L58: the top of what is left when d data blocks become d'
unfoldable pub lowered_top : List ℕ → Shape → ℕ → ℕ → ℕ → ℕ
lowered_top c s top d d' = pick (eqb d' 0) 0 (node c s top (height (fan s) d - height (fan s) d') 0)
