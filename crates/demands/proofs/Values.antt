-- The calls that change nothing answer what the plain list says: check, room, size, read, list.
use mathlib.Core.Path.{◌≡◌, refl, sym, ap, ◌∙◌}
use mathlib.Core.List.{List, [], ◌++◌}
use Prim.Native.Nat.{ℕ, ◌-◌, ◌≤◌, ◌<◌, min}
use native.Mathlib.Nat.{zero-add}
use native.Mathlib.Omega.{arith}
use lib.ListN.{length, get_or, take, drop, length-take, length-drop}
use Rattle.layout.specs.Limits.{longest_name}
use Rattle.layout.specs.Bytes.{over, spliced}
use Rattle.layout.specs.Streams.{stream_bytes}
use Rattle.layout.specs.Filing.{Entry, entries_of, look_in, nothing}
use Rattle.layout.specs.Header.{shape_of}
use Rattle.layout.specs.Calls.{first_no, root_of, index_of, check, room, size, read, list}
use Rattle.laws.proofs.Picks.{eqb_yes}
use Rattle.laws.proofs.Tests.{is_leb, is_ltb}
use Rattle.laws.proofs.Lists.{in_map}
use Rattle.laws.proofs.Removal.{in_at}
use Rattle.laws.proofs.Splice as splice
use Rattle.laws.proofs.Directories.{good_short}
use Rattle.laws.proofs.State.{Whole, length-stream}
use Rattle.laws.proofs.Soundness.{whole}
use Rattle.demands.specs.Plain.{no_item, plain_check, plain_room, plain_size, plain_read, plain_list}
use Rattle.demands.specs.Shows.{item_of, plain}
use Rattle.demands.proofs.Free.{free-count}
use Rattle.demands.proofs.Items.{map_at}
use Rattle.demands.proofs.Shown.{bytes_same, length-same}
use Rattle.demands.proofs.Numbers.{passed, fails, holds}
use Rattle.demands.proofs.Refusals.{size_number, read_number, list-number}
use Rattle.demands.proofs.Agrees.{Looks, looks}

-- what comes to the front of a tray leaves the tray's rest
front : (tray vs : List ℕ) → length vs ≤ length tray → over tray 0 vs ≡ vs ++ drop (length vs) tray
unfolding spliced
front tray vs h = splice.splice_over tray 0 vs (omega arith) tray (omega arith) (λ q l. refl) ∙ rw (zero-add (length vs))

-- nothing but numbers and a tray
seen : (c : List ℕ) {n n' z z' l l' : ℕ} {t t' : List ℕ} → n ≡ n' → z ≡ z' → l ≡ l' → t ≡ t'
    → Looks c (record { number = 0; rule = 0; count = n; size = z; length = l; card = c; tray = t }) (record { number = 0; count = n'; size = z'; length = l'; tray = t'; after = plain c })
seen c n z l t = record { answers = record { number = refl; rule = refl; count = n; size = z; length = l; tray = t }; card = refl; list = refl }

module _ (c : List ℕ) (w : Whole c) where
  pub check_values : Looks c (check c) (plain_check (plain c))
  unfolding check plain_check first_no
  check_values = rw (eqb_yes (whole c w)) (seen c refl refl refl refl)

  pub room_values : Looks c (room c) (plain_room (plain c))
  unfolding room plain_room first_no
  room_values = rw (eqb_yes (whole c w)) (seen c (free-count c w) refl refl refl)

  pub size_values : (name : List ℕ) → Looks c (size c name) (plain_size (plain c) name)
  unfolding size plain_size
  size_values name = looks c w [] _ _ _ _ refl refl (size_number c w name) (λ z.
      let t = passed _ tt z in
      seen c refl (sym (length-same c name (holds (is_ltb (look_in (root_of c) name) (length (root_of c))) t.1.1.0))) refl refl)

  pub read_values : (name : List ℕ) (p : ℕ) (tray : List ℕ) → Looks c (read c name p tray) (plain_read (plain c) name p tray)
  unfolding read plain_read
  read_values name p tray = looks c w tray _ _ _ _ refl refl (read_number c w name p tray) (λ z.
      let t = passed _ tt z in
      let e = bytes_same c name (holds (is_ltb (look_in (root_of c) name) (length (root_of c))) t.1.1.0) in
      let l = stream_bytes c (shape_of c) (index_of c name) in
      let n : length (take (length tray) (drop p l)) ≡ min (length tray) (length l - p) = rw (length-take, length-drop) in
      seen c (n ∙ ap (λ (b : List ℕ). min (length tray) (length b - p)) (sym e)) refl refl
      (front tray (take (length tray) (drop p l)) (omega arith) ∙ ap (λ (b : List ℕ). take (length tray) (drop p b) ++ drop (length (take (length tray) (drop p b))) tray) (sym e)))

  -- entry k and item k
  item-at : (k : ℕ) → k < length (root_of c) → get_or (plain c).items k no_item ≡ item_of c (shape_of c) (get_or (root_of c) k nothing)
  unfolding plain
  item-at k l = map_at (item_of c (shape_of c)) (root_of c) k nothing no_item l

  -- a tray of 64 bytes holds any name
  name-short : (k : ℕ) → k < length (root_of c) → length (get_or (root_of c) k nothing).name ≤ longest_name
  unfolding entries_of
  name-short k l = good_short _ (w.filed.directory.good _ (in_map (λ (e : Entry). e.name) _ (root_of c) (in_at (root_of c) k nothing l)))

  pub list_values : (k : ℕ) (tray : List ℕ) → Looks c (list c k tray) (plain_list (plain c) k tray)
  unfolding list plain_list
  list_values k tray = looks c w tray _ _ _ _ refl refl (list-number c w k tray) (λ z.
      let t = passed _ tt z in
      let l : k < length (root_of c) = (let f = fails (is_leb (length (root_of c)) k) t.1.0 in omega arith) in
      let e = get_or (root_of c) k nothing in
      let u = fails (is_ltb (length tray) longest_name) t.1.1.0 in
      rw (item-at k l) (seen c refl (sym (length-stream c (shape_of c) e.index)) refl (front tray e.name (omega (arith, name-short k l)))))
