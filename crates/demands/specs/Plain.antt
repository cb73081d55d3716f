-- The plain list that a card stands for, and the ten calls on it. Nothing here knows of blocks but by number: P says how many a length needs.
use Rattle.std.specs.Prelude.{Bool, not, ℕ, suc, ◌+◌, ◌-◌, ◌*◌, ◌^◌, ◌/◌, max, min, List, [], ◌∷◌, ◌++◌, length, get_or, take, drop, leb, ltb, eqb}
use Rattle.layout.specs.Limits.{most_streams, longest_name}
use Rattle.layout.specs.Bytes.{pick, same, spliced}
use Rattle.layout.specs.Pyramid.{up, P}
use Rattle.layout.specs.Filing.{good_name}
use Rattle.layout.specs.Calls.{Test, first_no}
use Rattle.demands.specs.Call.{Call, checks, rooms, sizes, reads, lists, writes, truncates, creates, deletes}

-- a named stream
pub record Item : Type 0 where
  pub name : List ℕ
  pub bytes : List ℕ

-- s, the blocks, the descriptors in the table, and the named streams in the directory's order
pub record Plain : Type 0 where
  pub shift : ℕ
  pub count : ℕ
  pub descs : ℕ
  pub items : List Item

-- ---- blocks, by P

-- P for n bytes in blocks of z bytes
abbrev pub needs : ℕ → ℕ → ℕ
needs z n = P (z / 4) (up z n)

abbrev pub sum : {A : Type 0} → (A → ℕ) → List A → ℕ
sum g [] = 0
sum g (x ∷ xs) = g x + sum g xs

-- the directory's and the table's bytes
abbrev pub root_size : List Item → ℕ
root_size fs = sum (λ f. 6 + length f.name) fs

abbrev pub table_size : ℕ → ℕ
table_size n = 8 + 25 * n

abbrev pub block_size : Plain → ℕ
block_size p = 2 ^ p.shift

-- the blocks that are not free: the table's, the directory's, the streams'
unfoldable pub used_by : Plain → ℕ
used_by p = let z = block_size p in needs z (table_size p.descs) + needs z (root_size p.items) + sum (λ f. needs z (length f.bytes)) p.items

unfoldable pub free_of : Plain → ℕ
free_of p = p.count - used_by p

-- what a length that grows from a to b takes
abbrev pub grows : Plain → ℕ → ℕ → ℕ
grows p a b = needs (block_size p) b - needs (block_size p) a

-- ---- names

-- where a name is: its number, or how many there are
unfoldable pub look_up : List Item → List ℕ → ℕ
look_up [] name = 0
look_up (x ∷ xs) name = pick (same x.name name) 0 (suc (look_up xs name))

abbrev pub no_item : Item
no_item = record { name = []; bytes = [] }

abbrev pub knows : Plain → List ℕ → Bool
knows p name = ltb (look_up p.items name) (length p.items)

abbrev pub bytes_of : Plain → List ℕ → List ℕ
bytes_of p name = (get_or p.items (look_up p.items name) no_item).bytes

abbrev pub length_of : Plain → List ℕ → ℕ
length_of p name = length (bytes_of p name)

-- ---- edits

-- the bytes of the stream with that name, changed
unfoldable pub edited : List ℕ → (List ℕ → List ℕ) → List Item → List Item
edited name f [] = []
edited name f (x ∷ xs) = pick (same x.name name) (record { name = x.name; bytes = f x.bytes } ∷ xs) (x ∷ edited name f xs)

-- without the stream of that name
unfoldable pub removed : List ℕ → List Item → List Item
removed name [] = []
removed name (x ∷ xs) = pick (same x.name name) xs (x ∷ removed name xs)

abbrev pub with_items : Plain → List Item → Plain
with_items p fs = record { shift = p.shift; count = p.count; descs = p.descs; items = fs }

-- ---- the situations in which a call is refused, each with its number (L139 to L147)

abbrev pub bad_name : List ℕ → Test
bad_name name = (not (good_name name), 2)

abbrev pub not_known : Plain → List ℕ → Test
not_known p name = (not (knows p name), 3)

abbrev pub already_known : Plain → List ℕ → Test
already_known p name = (knows p name, 4)

-- a place in a named stream, and an item's number
abbrev pub past_the_end : Plain → List ℕ → ℕ → Test
past_the_end p name at = (ltb (length_of p name) at, 5)

abbrev pub past_the_items : Plain → ℕ → Test
past_the_items p k = (leb (length p.items) k, 5)

-- the root's descriptor and the items' are all that there may be
abbrev pub streams_full : Plain → Test
streams_full p = (leb most_streams (length p.items + 1), 6)

abbrev pub no_room : Plain → ℕ → Test
no_room p wanted = (ltb (free_of p) wanted, 7)

abbrev pub short_tray : List ℕ → Test
short_tray tray = (ltb (length tray) longest_name, 8)

-- one item more, of no bytes; the table holds the root's descriptor and each item's
abbrev pub with_item : Plain → List ℕ → Plain
with_item p name =
    record { shift = p.shift; count = p.count; descs = max p.descs (length p.items + 2); items = p.items ++ (record { name = name; bytes = [] } ∷ []) }

-- L150: the blocks that a call takes: P after less P before, over what grows
abbrev pub blocks_for : Plain → Call → ℕ
blocks_for p checks = 0
blocks_for p rooms = 0
blocks_for p (sizes name) = 0
blocks_for p (reads name at tray) = 0
blocks_for p (lists k tray) = 0
blocks_for p (writes name at vs) = grows p (length_of p name) (max (length_of p name) (at + length vs))
blocks_for p (truncates name n) = 0
blocks_for p (creates name) = grows p (table_size p.descs) (table_size (with_item p name).descs) + grows p (root_size p.items) (root_size (with_item p name).items)
blocks_for p (deletes name) = 0

-- L148: which call is refused in which of them, the lowest number first
abbrev pub situations : Plain → Call → List Test
situations p checks = []
situations p rooms = []
situations p (sizes name) = bad_name name ∷ not_known p name ∷ []
situations p (reads name at tray) = bad_name name ∷ not_known p name ∷ past_the_end p name at ∷ []
situations p (lists k tray) = past_the_items p k ∷ short_tray tray ∷ []
situations p (writes name at vs) = bad_name name ∷ not_known p name ∷ past_the_end p name at ∷ no_room p (blocks_for p (writes name at vs)) ∷ []
situations p (truncates name n) = bad_name name ∷ not_known p name ∷ past_the_end p name n ∷ []
situations p (creates name) = bad_name name ∷ already_known p name ∷ streams_full p ∷ no_room p (blocks_for p (creates name)) ∷ []
situations p (deletes name) = bad_name name ∷ not_known p name ∷ []

-- ---- the calls on a plain list

-- a plain call's numbers, what it leaves in the tray, and the list then
pub record Plainly : Type 0 where
  pub number : ℕ
  pub count : ℕ
  pub size : ℕ
  pub length : ℕ
  pub tray : List ℕ
  pub after : Plain

-- nothing but a number
abbrev pub only : ℕ → Plain → List ℕ → Plainly
only n p t = record { number = n; count = 0; size = 0; length = 0; tray = t; after = p }

-- a refusal where there is one, else what the call does
abbrev pub or_no : List Test → Plain → List ℕ → Plainly → Plainly
or_no tests p t o = pick (eqb (first_no tests) 0) o (only (first_no tests) p t)

unfoldable pub plain_check : Plain → Plainly
plain_check p = only 0 p []

unfoldable pub plain_room : Plain → Plainly
plain_room p = record { number = 0; count = free_of p; size = 0; length = 0; tray = []; after = p }

unfoldable pub plain_size : Plain → List ℕ → Plainly
plain_size p name = or_no (situations p (sizes name)) p [] (record { number = 0; count = 0; size = length_of p name; length = 0; tray = []; after = p })

unfoldable pub plain_read : Plain → List ℕ → ℕ → List ℕ → Plainly
plain_read p name at tray =
    let got = take (length tray) (drop at (bytes_of p name)) in
    or_no (situations p (reads name at tray)) p tray
    (record { number = 0; count = min (length tray) (length_of p name - at); size = 0; length = 0; tray = got ++ drop (length got) tray; after = p })

unfoldable pub plain_list : Plain → ℕ → List ℕ → Plainly
plain_list p k tray =
    let f = get_or p.items k no_item in
    or_no (situations p (lists k tray)) p tray
    (record { number = 0; count = 0; size = length f.bytes; length = length f.name; tray = f.name ++ drop (length f.name) tray; after = p })

unfoldable pub plain_write : Plain → List ℕ → ℕ → List ℕ → Plainly
plain_write p name at vs =
    or_no (situations p (writes name at vs)) p []
    (record { number = 0; count = length vs; size = 0; length = 0; tray = []; after = with_items p (edited name (λ l. spliced l at vs) p.items) })

unfoldable pub plain_truncate : Plain → List ℕ → ℕ → Plainly
plain_truncate p name n = or_no (situations p (truncates name n)) p [] (only 0 (with_items p (edited name (take n) p.items)) [])

unfoldable pub plain_create : Plain → List ℕ → Plainly
plain_create p name = or_no (situations p (creates name)) p [] (only 0 (with_item p name) [])

unfoldable pub plain_delete : Plain → List ℕ → Plainly
plain_delete p name = or_no (situations p (deletes name)) p [] (only 0 (with_items p (removed name p.items)) [])

unfoldable pub plain_call : Plain → Call → Plainly
plain_call p checks = plain_check p
plain_call p rooms = plain_room p
plain_call p (sizes name) = plain_size p name
plain_call p (reads name at tray) = plain_read p name at tray
plain_call p (lists k tray) = plain_list p k tray
plain_call p (writes name at vs) = plain_write p name at vs
plain_call p (truncates name n) = plain_truncate p name n
plain_call p (creates name) = plain_create p name
plain_call p (deletes name) = plain_delete p name

-- a newly formatted card: no items, one descriptor
abbrev pub plain_new : ℕ → ℕ → Plain
plain_new shift count = record { shift = shift; count = count; descs = 1; items = [] }
