-- Wrong stores: six that answer wrongly or do no work, and two that work in the wrong blocks.
use Rattle.std.specs.Prelude.{ℕ, zero, suc, ◌+◌, ◌-◌, List, [], length}
use Rattle.layout.specs.Bytes.{over, put, window}
use Rattle.layout.specs.Blocks.{place, slot, slot_place}
use Rattle.layout.specs.Streams.{data_of, stream, desc_set}
use Rattle.layout.specs.Header.{shape_of}
use Rattle.layout.specs.Answers.{Outcome, refused, done}
use Rattle.layout.specs.Calls.{index_of}
use Rattle.demands.specs.Call.{Call, checks, rooms, sizes, reads, lists, writes, truncates, creates, deletes}
use Rattle.demands.specs.Plain.{Plain, needs, sum, table_size, block_size}
use Rattle.demands.specs.Shows.{plain}
use Rattle.demands.specs.Store.{Store, does, ours}
use Rattle.layout.specs.declared.Shape.{Shape}

-- a store by its format and by what it makes of each other call
abbrev pub store_of : (ℕ → List ℕ → ℕ → Outcome) → (ℕ → List ℕ → Call → Outcome) → Store
store_of f d = record {
  format = f;
  check = λ n c. d n c checks;
  room = λ n c. d n c rooms;
  create = λ n c name. d n c (creates name);
  write = λ n c name p vs. d n c (writes name p vs);
  read = λ n c name p tray. d n c (reads name p tray);
  truncate = λ n c name m. d n c (truncates name m);
  delete = λ n c name. d n c (deletes name);
  size = λ n c name. d n c (sizes name);
  list = λ n c k tray. d n c (lists k tray);
}

-- the tray that a call is lent
abbrev pub lent : Call → List ℕ
lent checks = []
lent rooms = []
lent (sizes name) = []
lent (reads name p tray) = tray
lent (lists k tray) = tray
lent (writes name p vs) = []
lent (truncates name m) = []
lent (creates name) = []
lent (deletes name) = []

-- ---- the six

-- it refuses everything, with whatever number but 0
abbrev pub refusing : ℕ → Store
refusing m = store_of (λ n c shift. refused (suc m) 0 c []) (λ n c k. refused (suc m) 0 c (lent k))

-- it has one constant answer, whatever that is
abbrev pub constant : Outcome → Store
constant o = store_of (λ n c shift. o) (λ n c k. o)

-- it does nothing and says done
abbrev pub idle : Store
idle = store_of (λ n c shift. done c []) (λ n c k. done c (lent k))

-- one store for the first call of a run, another for those after it
abbrev pub first : ℕ → Store → Store → Store
first zero s t = s
first (suc n) s t = t

-- it works in the first call of a run and idles after
abbrev pub tiring : Store
tiring = store_of (λ n c shift. (first n ours idle).format n c shift) (λ n c k. does (first n ours idle) n c k)

-- an outcome with another count, and with another card
abbrev pub telling : Outcome → ℕ → Outcome
telling o n = record { number = o.number; rule = o.rule; count = n; size = o.size; length = o.length; card = o.card; tray = o.tray }

abbrev pub leaving : Outcome → List ℕ → Outcome
leaving o c = record { number = o.number; rule = o.rule; count = o.count; size = o.size; length = o.length; card = c; tray = o.tray }

-- the count of a read that fills the tray, whatever there is to read
abbrev pub full_tray : Plain → List ℕ → ℕ → List ℕ → ℕ
full_tray p name at tray = length tray

-- its read always tells that: an invented read count
abbrev pub boasting : Store
boasting = record {
  format = ours.format;
  check = ours.check;
  room = ours.room;
  create = ours.create;
  write = ours.write;
  read = λ n c name p tray. telling (ours.read n c name p tray) (full_tray (plain c) name p tray);
  truncate = ours.truncate;
  delete = ours.delete;
  size = ours.size;
  list = ours.list;
}

-- the free blocks, but for those that the directory has
abbrev pub free_forgetting : Plain → ℕ
free_forgetting p = p.count - (needs (block_size p) (table_size p.descs) + sum (λ f. needs (block_size p) (length f.bytes)) p.items)

-- its room forgets the root: an invented free count
abbrev pub forgetting : Store
forgetting = record {
  format = ours.format;
  check = ours.check;
  room = λ n c. telling (ours.room n c) (free_forgetting (plain c));
  create = ours.create;
  write = ours.write;
  read = ours.read;
  truncate = ours.truncate;
  delete = ours.delete;
  size = ours.size;
  list = ours.list;
}

-- ---- two more, which answer as ours does: only their blocks are wrong

-- ours but for its write
abbrev pub writing : (ℕ → List ℕ → List ℕ → ℕ → List ℕ → Outcome) → Store
writing w = record {
  format = ours.format;
  check = ours.check;
  room = ours.room;
  create = ours.create;
  write = w;
  read = ours.read;
  truncate = ours.truncate;
  delete = ours.delete;
  size = ours.size;
  list = ours.list;
}

-- a card on which the first two data blocks of stream 1, below its top, are exchanged: bytes and slots
unfoldable pub turned : List ℕ → Shape → List ℕ
turned c s =
    let top = (stream c s 1).top in
    let x = slot c s top 0 in
    let y = slot c s top 1 in
    let c₁ = over (over c (place s x) (window c (place s y) s.size)) (place s y) (window c (place s x) s.size) in
    put 4 (put 4 c₁ (slot_place s top 0) y) (slot_place s top 1) x

-- its write turns another stream
abbrev pub turning : Store
turning = writing (λ n c name p vs. let o = ours.write n c name p vs in leaving o (turned o.card (shape_of c)))

-- a card on which the named stream has the blocks of stream 1
unfoldable pub shared : List ℕ → Shape → List ℕ → List ℕ
shared c s name = let t = stream c s 1 in desc_set c s (index_of c name) t.size t.top (data_of s t)

-- its write lets one block be in two streams
abbrev pub sharing : Store
sharing = writing (λ n c name p vs. leaving (ours.write n c name p vs) (shared c (shape_of c) name))
