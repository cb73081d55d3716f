-- The plain list that a card shows.
use Rattle.std.specs.Prelude.{ℕ, List, map}
use Rattle.layout.specs.Streams.{table_bytes, slots, stream_bytes}
use Rattle.layout.specs.Filing.{Entry, entries_of}
use Rattle.layout.specs.Header.{shape_of, shift_of}
use Rattle.demands.specs.Plain.{Item, Plain}
use Rattle.layout.specs.declared.Shape.{Shape}

-- an entry's stream, by its name
abbrev pub item_of : List ℕ → Shape → Entry → Item
item_of c s e = record { name = e.name; bytes = stream_bytes c s e.index }

unfoldable pub plain : List ℕ → Plain
plain c =
    let s = shape_of c in
    record { shift = shift_of c; count = s.count; descs = slots (table_bytes c s); items = map (item_of c s) (entries_of c s 0) }
