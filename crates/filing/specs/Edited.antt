-- A directory with an entry more and with one less, in the order in which it is done.
use Rattle.std.specs.Prelude.{ℕ, zero, suc, ◌+◌, ◌-◌, min, List, length, take, drop, leb}
use Rattle.layout.specs.Bytes.{pick}
use Rattle.layout.specs.Streams.{data_of, tall, contents, laid, stream, in_stream, lengthened, shortened}
use Rattle.layout.specs.Filing.{entry_bytes}
use Rattle.layout.specs.declared.Shape.{Shape}
use Rattle.layout.specs.declared.Desc.{Desc}

-- L74: directory k, p bytes long, with an entry more
unfoldable pub entered : List ℕ → Shape → ℕ → ℕ → ℕ → List ℕ → List ℕ
entered c s k p index name = in_stream (lengthened c s k (p + 6 + length name)) s k p (entry_bytes index name)

-- the bytes that are pulled at a time
abbrev pub page : ℕ
page = 4096

abbrev pub bytes_of : List ℕ → Shape → Desc → List ℕ
bytes_of c s t = contents c s t.top (data_of s t) t.size

-- n bytes of the stream that t describes are laid from place p on as they stand from place q on
abbrev pub moved : List ℕ → Shape → Desc → ℕ → ℕ → ℕ → List ℕ
moved c s t p q n = laid c s t.top (tall s (data_of s t)) p (take n (drop q (bytes_of c s t)))

-- L75: all its bytes from place q on, page by page, each page read in the card as it is by then; g bounds the pages
unfoldable pub drawn : ℕ → List ℕ → Shape → Desc → ℕ → ℕ → List ℕ
drawn zero c s t p q = c
drawn (suc g) c s t p q =
    let n = min page (t.size - q) in
    pick (leb t.size q) c (drawn g (moved c s t p q n) s t (p + n) (q + n))

-- L75: directory k without the n bytes at `at`
unfoldable pub removed : List ℕ → Shape → ℕ → ℕ → ℕ → List ℕ
removed c s k at n = let t = stream c s k in shortened (drawn t.size c s t at (at + n)) s k (t.size - n)
