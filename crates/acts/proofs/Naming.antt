-- A listed entry: its name in the tray.
use mathlib.Core.Path.{◌≡◌, ap, ◌∙◌}
use mathlib.Core.List.{List}
use Rattle.std.specs.Prelude.{Option, Some, None}
use Prim.Native.Nat.{ℕ, ◌+◌}
use lib.ListN.{get_or, take, drop, get_or-eq_default}
use Rattle.layout.specs.Bytes.{over}
use Rattle.layout.specs.Streams.{data_of, contents, stream, stream_bytes}
use Rattle.layout.specs.Filing.{Entry, entries, entries_of, nothing}
use Rattle.filing.specs.Located.{numbered}
use Rattle.filing.proofs.Answers.{row_there, no_row, name_part}
use Rattle.layout.specs.declared.Shape.{Shape}
use Rattle.layout.specs.declared.Desc.{Desc}
use Rattle.filing.specs.declared.listing.Row.{Row}

-- the rows of a directory, by its descriptor
pub row_is : (c : List ℕ) (s : Shape) (k n : ℕ) (t : Desc) (o : Option Row) → t ≡ stream c s k → o ≡ numbered (entries (contents c s t.top (data_of s t) t.size)) n → o ≡ numbered (entries_of c s k) n
unfolding entries_of stream_bytes
row_is c s k n t o e f = rw e at f

module _ (c : List ℕ) (s : Shape) (k n : ℕ) (t : Desc) (e : t ≡ stream c s k) where
  abbrev es : List Entry
  es = entries_of c s k

  pub name_here : (row : Row) (tray tray₁ : List ℕ) → Some row ≡ numbered es n → tray₁ ≡ over tray 0 (take row.length (drop (row.at + 6) (contents c s t.top (data_of s t) t.size))) → tray₁ ≡ over tray 0 (get_or es n nothing).name
  unfolding entries_of stream_bytes
  name_here row tray tray₁ h g =
      let r = row_there es n h in
      g ∙ rw (r.1, e) (ap (over tray 0) (name_part (stream_bytes c s k) n r.0))

  pub name_none : (tray : List ℕ) → None ≡ numbered es n → tray ≡ over tray 0 (get_or es n nothing).name
  unfolding over
  name_none tray h =
      let z : get_or es n nothing ≡ nothing = get_or-eq_default es nothing (no_row es n h) in
      rw z
