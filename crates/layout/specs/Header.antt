-- The header: its fixed values and their places, and the shape that it gives a card. Only here do the places stand as numbers.
use Rattle.std.specs.Prelude.{Bool, ℕ, ◌-◌, ◌/◌, ◌%◌, ◌^◌, List, [], ◌∷◌, ◌++◌, length, get_or, leb, eqb}
use Rattle.layout.specs.Limits.{least_shift, most_shift, most_blocks}
use Rattle.layout.specs.Bytes.{pick, both, bytes, matches, end8}
use Rattle.layout.specs.declared.Shape.{Shape}

-- L7: where the blocks start
abbrev pub head_length : ℕ
head_length = 87

-- L13, L16, L20 to L22: the shape of a card of so many bytes, with blocks of 2 ^ shift bytes
abbrev pub shaped : ℕ → ℕ → Shape
shaped len shift =
    record { base = head_length; size = 2 ^ shift; count = (len - head_length) / 2 ^ shift; first = 27; table = 45; filing = 70 }

-- L11
abbrev pub shift_of : List ℕ → ℕ
shift_of c = get_or c 25 0

unfoldable pub shape_of : List ℕ → Shape
shape_of c = shaped (length c) (shift_of c)

-- ---- fixed values: before the shift, the index width, after the first-free field, after the table's descriptor

-- L8 to L10: "YAK1", version 1, 87 bytes; "memory", version 1; "blocks", version 1
abbrev pub head1 : List ℕ
head1 =
    0x59 ∷ 0x41 ∷ 0x4b ∷ 0x31 ∷ 1 ∷ 87 ∷ 0
    ∷ 7 ∷ 0 ∷ 0x6d ∷ 0x65 ∷ 0x6d ∷ 0x6f ∷ 0x72 ∷ 0x79 ∷ 1
    ∷ 18 ∷ 0 ∷ 0x62 ∷ 0x6c ∷ 0x6f ∷ 0x63 ∷ 0x6b ∷ 0x73 ∷ 1 ∷ []

-- L12: an index has 4 bytes
abbrev pub head2 : List ℕ
head2 = 4 ∷ []

-- L14, L15: no encryption; "stream", version 1
abbrev pub head3 : List ℕ
head3 = 0 ∷ 32 ∷ 0 ∷ 0x73 ∷ 0x74 ∷ 0x72 ∷ 0x65 ∷ 0x61 ∷ 0x6d ∷ 1 ∷ []

-- L17, L18: "filing", version 1; the root is stream 0
abbrev pub head4 : List ℕ
head4 = 15 ∷ 0 ∷ 0x66 ∷ 0x69 ∷ 0x6c ∷ 0x69 ∷ 0x6e ∷ 0x67 ∷ 1 ∷ 0 ∷ 0 ∷ 0 ∷ 0 ∷ 0 ∷ 0 ∷ 0 ∷ 0 ∷ []

-- L19
unfoldable pub fixed : List ℕ → Bool
fixed c = both (matches c 0 head1) (both (matches c 26 head2) (both (matches c 35 head3) (matches c 70 head4)))

-- L119 to L121: a new card's header: block 0 is the table's, with the root's descriptor alone, and the others are free
unfoldable pub new_header : ℕ → Shape → List ℕ
new_header shift s =
    head1 ++ (shift ∷ []) ++ head2 ++ bytes 8 (pick (eqb s.count 1) end8 1) ++ head3
    ++ bytes 8 33 ++ bytes 8 0 ++ bytes 8 s.size ++ (0 ∷ []) ++ head4

-- ---- which lengths and shifts suit each other

-- L79
abbrev pub good_shift : ℕ → Bool
good_shift shift = both (leb least_shift shift) (leb shift most_shift)

-- L80: n bytes are 1 to 4,096 whole blocks
abbrev pub good_rest : ℕ → ℕ → Bool
good_rest n size = both (eqb (n % size) 0) (both (leb 1 (n / size)) (leb (n / size) most_blocks))

-- L147
unfoldable pub good_shape : ℕ → ℕ → Bool
good_shape len shift = both (good_shift shift) (both (leb head_length len) (good_rest (len - head_length) (2 ^ shift)))
