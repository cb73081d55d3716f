-- The limits, by name, each once (L23).
use Rattle.std.specs.Prelude.{ℕ}

-- a block has 2 ^ s bytes, s from the least shift to the most
abbrev pub least_shift : ℕ
least_shift = 6

abbrev pub most_shift : ℕ
most_shift = 12

-- a card's blocks
abbrev pub most_blocks : ℕ
most_blocks = 4096

-- the table's descriptors, the root's among them
abbrev pub most_streams : ℕ
most_streams = 256

-- a name's bytes, which are also the tray that a listed name must find
abbrev pub longest_name : ℕ
longest_name = 64

-- the byte that no name holds
abbrev pub slash : ℕ
slash = 47
