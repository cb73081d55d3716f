-- Whoever has a call's word has its numbers: every call, every input.
use mathlib.Core.Path.{◌≡◌}
use mathlib.Core.List.{List}
use Prim.Native.Nat.{ℕ, ◌/◌, ◌%◌}
use Rattle.layout.specs.Answers.{Outcome}
use Rattle.layout.specs.Words.{small, large, word}
use Rattle.layout.specs.Calls.{format, check, room, create, write, read, truncate, delete, size, list}
use Rattle.lamporchid.proofs.Packing.{parted}
use Rattle.lamporchid.proofs.Bounds.{format_packed, check_packed, room_packed, create_packed, write_packed, read_packed, truncate_packed, delete_packed, size_packed, list_packed}

abbrev pub Parted : Outcome → Type 0
Parted o = (word o % 256 ≡ o.number) × (word o / 256 % 256 ≡ small o) × (word o / 65536 ≡ large o)

-- n is a shift, a place, a length or an entry's number, as the call has it; vs is the data or the tray
pub words_part : (c name vs : List ℕ) (n : ℕ)
    → Parted (format c n) × Parted (check c) × Parted (room c) × Parted (create c name) × Parted (write c name n vs)
    × Parted (read c name n vs) × Parted (truncate c name n) × Parted (delete c name) × Parted (size c name) × Parted (list c n vs)
words_part c name vs n = (
  parted _ (format_packed c n),
  parted _ (check_packed c),
  parted _ (room_packed c),
  parted _ (create_packed c name),
  parted _ (write_packed c name n vs),
  parted _ (read_packed c name n vs),
  parted _ (truncate_packed c name n),
  parted _ (delete_packed c name),
  parted _ (size_packed c name),
  parted _ (list_packed c n vs),
)
