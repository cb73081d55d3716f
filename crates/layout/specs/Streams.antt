-- Streams: descriptors, contents, writing in place, lengthening and shortening; the table of descriptors.
use Rattle.std.specs.Prelude.{Bool, not, ℕ, zero, suc, ◌+◌, ◌-◌, ◌*◌, ◌/◌, ◌%◌, max, List, ◌++◌, map, length, get_or, set, take, drop, eqb}
use Rattle.layout.specs.Bytes.{pick, num, bytes, over, end8, run, those}
use Rattle.layout.specs.Pyramid.{up, height, P}
use Rattle.layout.specs.Blocks.{fan, place, slot, node, walk, pyramid, Grown, grown, surplus, released, lowered_top}
use Rattle.layout.specs.declared.Shape.{Shape}
use Rattle.layout.specs.declared.Desc.{Desc}

-- ---- descriptors

-- L42: the descriptor in the 25 bytes at `at`
unfoldable pub desc_in : List ℕ → ℕ → Desc
desc_in l at = record { size = num 8 l at; top = num 8 l (at + 8); reserved = num 8 l (at + 16); flags = get_or l (at + 24) 0 }

-- L43: d, a stream's data blocks: what it has reserved
abbrev pub data_of : Shape → Desc → ℕ
data_of s t = t.reserved / s.size

-- L44: the data blocks that n bytes want
abbrev pub data_for : Shape → ℕ → ℕ
data_for s n = up s.size n

-- L49: the first three fields, as they are written
abbrev pub fields : Shape → ℕ → ℕ → ℕ → List ℕ
fields s size top d = bytes 8 size ++ bytes 8 top ++ bytes 8 (d * s.size)

-- ---- bytes in a pyramid of d data blocks

abbrev pub tall : Shape → ℕ → ℕ
tall s d = height (fan s) d

-- L46: where byte p stands, in a pyramid of height h
abbrev pub spot : List ℕ → Shape → ℕ → ℕ → ℕ → ℕ
spot c s top h p = place s (node c s top h (p / s.size)) + p % s.size

-- L47: the first `size` bytes
unfoldable pub contents : List ℕ → Shape → ℕ → ℕ → ℕ → List ℕ
contents c s top d size = map (λ p. get_or c (spot c s top (tall s d) p) 0) (run 0 size)

-- L48: the first n of the bytes vs go in from place p on, each where it stands in the card as it was
unfoldable pub laid_to : ℕ → List ℕ → Shape → ℕ → ℕ → ℕ → List ℕ → List ℕ
laid_to zero c s top h p vs = c
laid_to (suc n) c s top h p vs = set (laid_to n c s top h p vs) (spot c s top h (p + n)) (get_or vs n 0)

-- The same in the order in which it is done, each place found in the card as it is by then; on a sound card that is no difference.
-- The bytes vs go into the blocks that slots i, i + 1, .. of block b name, from byte r of the first on; g bounds the blocks
unfoldable pub laid_row : ℕ → List ℕ → Shape → ℕ → ℕ → ℕ → List ℕ → List ℕ
laid_row zero c s b i r vs = c
laid_row (suc g) c s b i r vs =
    let m = s.size - r in
    let c' = over c (place s (slot c s b i) + r) (take m vs) in
    pick (eqb (length vs) 0) c (laid_row g c' s b (i + 1) 0 (drop m vs))

-- the bytes vs go below block q of the level h below the top, from slot i and byte r on, and below those after it; g bounds the rows
unfoldable pub laid_rows : ℕ → List ℕ → Shape → ℕ → ℕ → ℕ → ℕ → ℕ → List ℕ → List ℕ
laid_rows zero c s top h q i r vs = c
laid_rows (suc g) c s top h q i r vs =
    let m = (fan s - i) * s.size - r in
    let c' = laid_row (length vs) c s (node c s top h q) i r (take m vs) in
    pick (eqb (length vs) 0) c (laid_rows g c' s top h (q + 1) 0 0 (drop m vs))

-- the bytes vs go in from place p on, in a pyramid of that height
unfoldable pub laid : List ℕ → Shape → ℕ → ℕ → ℕ → List ℕ → List ℕ
laid c s top zero p vs = over c (place s top + p) vs
laid c s top (suc h) p vs = laid_rows (length vs) c s top h (p / s.size / fan s) (p / s.size % fan s) (p % s.size) vs

-- ---- the table: 8 bytes that name the first free descriptor, then the descriptors

-- L61: the table's own descriptor, in the header
unfoldable pub table : List ℕ → Shape → Desc
table c s = desc_in c s.table

unfoldable pub table_bytes : List ℕ → Shape → List ℕ
table_bytes c s = contents c s (table c s).top (data_of s (table c s)) (table c s).size

-- L63: where descriptor k stands in the table
abbrev pub offset : ℕ → ℕ
offset k = 8 + 25 * k

-- of the table's bytes t: how many descriptors there are, and descriptor k
abbrev pub slots : List ℕ → ℕ
slots t = (length t - 8) / 25

unfoldable pub desc_of : List ℕ → ℕ → Desc
desc_of t k = desc_in t (offset k)

-- L64: a descriptor whose top has all bits set is free
unfoldable pub dead : List ℕ → ℕ → Bool
dead t k = eqb (desc_of t k).top end8

unfoldable pub live : List ℕ → ℕ → Bool
live t k = not (dead t k)

-- the numbers of the live descriptors, and the offsets of the free ones
unfoldable pub lives : List ℕ → List ℕ
lives t = those (live t) (run 0 (slots t))

unfoldable pub frees : List ℕ → List ℕ
frees t = map offset (those (dead t) (run 0 (slots t)))

-- L62: the offset of the first free descriptor
abbrev pub first_desc : List ℕ → ℕ
first_desc t = num 8 t 0

-- L67: the free descriptors' offsets along their chain; one step more than there are descriptors
unfoldable pub desc_chain : List ℕ → List ℕ
desc_chain t = walk (slots t + 1) (num 8 t) (first_desc t)

-- bytes written in the table
unfoldable pub in_table : List ℕ → Shape → ℕ → List ℕ → List ℕ
in_table c s p vs = laid c s (table c s).top (tall s (data_of s (table c s))) p vs

-- the table's own descriptor is set
unfoldable pub table_set : List ℕ → Shape → ℕ → ℕ → ℕ → List ℕ
table_set c s size top d = over c s.table (fields s size top d)

-- stream k's descriptor is set
unfoldable pub desc_set : List ℕ → Shape → ℕ → ℕ → ℕ → ℕ → List ℕ
desc_set c s k size top d = in_table c s (offset k) (fields s size top d)

-- ---- stream k

unfoldable pub stream : List ℕ → Shape → ℕ → Desc
stream c s k = desc_of (table_bytes c s) k

unfoldable pub stream_bytes : List ℕ → Shape → ℕ → List ℕ
stream_bytes c s k = contents c s (stream c s k).top (data_of s (stream c s k)) (stream c s k).size

-- bytes written inside stream k
unfoldable pub in_stream : List ℕ → Shape → ℕ → ℕ → List ℕ → List ℕ
in_stream c s k p vs = laid c s (stream c s k).top (tall s (data_of s (stream c s k))) p vs

-- L56: the data blocks that a stream has once it holds n bytes: those that it had are kept
abbrev pub data_at : Shape → Desc → ℕ → ℕ
data_at s t n = max (data_of s t) (data_for s n)

-- L56, L150: the blocks that a stream takes to hold n bytes: P after less P before
abbrev pub wants : Shape → Desc → ℕ → ℕ
wants s t n = P (fan s) (data_at s t n) - P (fan s) (data_of s t)

abbrev pub grown_for : List ℕ → Shape → Desc → ℕ → Grown
grown_for c s t n = grown c s t.top (data_of s t) (data_at s t n - data_of s t)

-- L56: stream k, n bytes long, at least as long as before
unfoldable pub lengthened : List ℕ → Shape → ℕ → ℕ → List ℕ
lengthened c s k n =
    let t = stream c s k in
    let g = grown_for c s t n in
    desc_set g.card s k n g.top (data_at s t n)

-- L68: the table, one descriptor longer
unfoldable pub table_lengthened : List ℕ → Shape → List ℕ
table_lengthened c s =
    let t = table c s in
    let n = t.size + 25 in
    let g = grown_for c s t n in
    table_set g.card s n g.top (data_at s t n)

-- L59: stream k, its first n bytes: what it no longer needs is given back
unfoldable pub shortened : List ℕ → Shape → ℕ → ℕ → List ℕ
shortened c s k n =
    let t = stream c s k in
    let d = data_of s t in
    let d' = data_for s n in
    desc_set (released c s (surplus c s t.top d d')) s k n (lowered_top c s t.top d d') d'

-- ---- the blocks that belong to whom

unfoldable pub table_blocks : List ℕ → Shape → List ℕ
table_blocks c s = pyramid c s (table c s).top (data_of s (table c s))

unfoldable pub stream_blocks : List ℕ → Shape → ℕ → List ℕ
stream_blocks c s k = pyramid c s (stream c s k).top (data_of s (stream c s k))
