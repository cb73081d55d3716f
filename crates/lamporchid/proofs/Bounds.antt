-- Every call's outcome is packed, for every input: what a sound card tells is small.
use mathlib.Core.Path.{◌≡◌}
use mathlib.Core.Bool.{Bool, true, false, not}
use mathlib.Core.List.{List, [], ◌∷◌}
use Prim.Native.Nat.{ℕ, ◌*◌, ◌≤◌, ◌<◌}
use native.Mathlib.Nat.{mul-le-mul}
use native.Mathlib.Decide.{dec_le}
use native.Mathlib.Omega.{arith}
use lib.ListN.{length, get_or, drop, length-take, length-drop}
use lib.Dec.{leb, ltb, eqb}
use borrow.Author.Tests.{not-false, leb-false, ltb-false}
use Rattle.layout.specs.Bytes.{pick}
use Rattle.layout.specs.Streams.{stream, stream_bytes, table_bytes, lives, wants}
use Rattle.layout.specs.Filing.{Entry, entries_of, good_name, look_in, nothing}
use Rattle.layout.specs.Header.{shape_of, good_shape}
use Rattle.layout.specs.Limits.{most_streams}
use Rattle.layout.specs.Sound.{broken}
use Rattle.layout.specs.Answers.{refused, done}
use Rattle.layout.specs.Words.{Packed}
use Rattle.layout.specs.Calls.{Test, first_no, root_of, known, index_of, size_of, size_after, free_blocks, create_wants, damaged, bad_name, not_known, past_the_end, no_room, short_tray, formatted, format, check, room, create, write, read, truncate, delete, size, list}
use Rattle.laws.proofs.Lists.{In, in_map}
use Rattle.laws.proofs.Removal.{in_at}
use Rattle.laws.proofs.Tests.{is_eqb, is_ltb}
use Rattle.laws.proofs.State.{lives_of, Whole, length-stream}
use Rattle.laws.proofs.Cores.{size_few, count-few}
use Rattle.laws.proofs.Moves as moves
use Rattle.laws.proofs.Soundness.{sound}
use Rattle.laws.proofs.Directories.{good_short}
use Rattle.acts.proofs.Fitting.{right_low}
use Rattle.acts.proofs.Refusing.{too_long}
use Rattle.acts.proofs.Sound.{index_live}
use Rattle.lamporchid.proofs.Packing.{first_none, first-low, unless_packed}
use Rattle.layout.specs.declared.Shape.{Shape}

no_test : first_no [] < 256
unfolding first_no
no_test = omega arith

-- ---- what a sound card tells

module _ (c : List ℕ) (w : Whole c) where
  abbrev s : Shape
  s = shape_of c

  free-low : free_blocks c ≤ 4096
  free-low = omega (arith, w.core.parts.sum, count-few c s w.core)

  size_low : (k : ℕ) → In k (lives_of c s) → size_of c k ≤ 4096 * 4096
  size_low k i = right_low c s w.core (stream c s k) (moves.stream_right c s w.core k i)

  name-low : (k : ℕ) → k < length (root_of c) → length (get_or (root_of c) k nothing).name ≤ 64
  unfolding entries_of
  name-low k h =
      let e = get_or (root_of c) k nothing in
      good_short e.name (w.filed.directory.good e.name (in_map (λ (e : Entry). e.name) e (root_of c) (in_at (root_of c) k nothing h)))

-- ---- what the tests before the work leave

module _ (c : List ℕ) (tests : List Test) (e : first_no (damaged c ∷ tests) ≡ 0) where
  rest : (not (eqb (broken c) 0) ≡ false) × (first_no tests ≡ 0)
  rest = first_none (not (eqb (broken c) 0)) 1 tests (omega arith) e

  whole : Whole c
  whole = sound c ((is_eqb (broken c) 0).out (rw (not-false (eqb (broken c) 0) rest.0) tt))

module _ (c name : List ℕ) (tests : List Test) (e : first_no (damaged c ∷ bad_name name ∷ not_known c name ∷ tests) ≡ 0) where
  after : (not (known c name) ≡ false) × (first_no tests ≡ 0)
  after =
      let a = (rest c (bad_name name ∷ not_known c name ∷ tests) e).1 in
      let b = (first_none (not (good_name name)) 2 (not_known c name ∷ tests) (omega arith) a).1 in
      first_none (not (known c name)) 3 tests (omega arith) b

  whole₃ : Whole c
  whole₃ = whole c (bad_name name ∷ not_known c name ∷ tests) e

  named_live : In (index_of c name) (lives_of c (shape_of c))
  named_live =
      let there : look_in (root_of c) name < length (root_of c) = (is_ltb (look_in (root_of c) name) (length (root_of c))).out (rw (not-false (known c name) after.0) tt) in
      index_live c whole₃ (look_in (root_of c) name) there

  named-low : size_of c (index_of c name) ≤ 4096 * 4096
  named-low = size_low c whole₃ (index_of c name) named_live

low_1 : (c : List ℕ) (tests : List Test) → first_no tests < 256 → first_no (damaged c ∷ tests) < 256
low_1 c tests h = first-low (not (eqb (broken c) 0)) 1 tests (omega arith) h

low_2 : (c name : List ℕ) (tests : List Test) → first_no tests < 256 → first_no (damaged c ∷ bad_name name ∷ tests) < 256
low_2 c name tests h = low_1 c (bad_name name ∷ tests) (first-low (not (good_name name)) 2 tests (omega arith) h)

low_3 : (c name : List ℕ) (tests : List Test) → first_no tests < 256 → first_no (damaged c ∷ bad_name name ∷ not_known c name ∷ tests) < 256
low_3 c name tests h = low_2 c name (not_known c name ∷ tests) (first-low (not (known c name)) 3 tests (omega arith) h)

-- ---- the calls that tell nothing more

pub format_packed : (c : List ℕ) (shift : ℕ) → Packed (format c shift)
unfolding format
format_packed c shift = go (good_shape (length c) shift)
  where
    go : (b : Bool) → Packed (pick b (done (formatted (length c) shift) []) (refused 9 0 c []))
    go true = record { number = omega arith; rule_or_length = omega arith; count_or_size = omega arith }
    go false = record { number = omega arith; rule_or_length = omega arith; count_or_size = omega arith }

pub check_packed : (c : List ℕ) → Packed (check c)
unfolding check
check_packed c = unless_packed c [] _ _ (low_1 c [] no_test) (λ e. record { number = omega arith; rule_or_length = omega arith; count_or_size = omega arith })

pub create_packed : (c name : List ℕ) → Packed (create c name)
unfolding create
create_packed c name =
    let room = first-low (ltb (free_blocks c) (create_wants c name)) 7 [] (omega arith) no_test in
    let full = first-low (leb most_streams (length (lives (table_bytes c (shape_of c))))) 6 _ (omega arith) room in
    unless_packed c [] _ _ (low_2 c name _ (first-low (known c name) 4 _ (omega arith) full)) (λ e. record { number = omega arith; rule_or_length = omega arith; count_or_size = omega arith })

pub truncate_packed : (c name : List ℕ) (n : ℕ) → Packed (truncate c name n)
unfolding truncate
truncate_packed c name n =
    unless_packed c [] _ _ (low_3 c name _ (first-low (ltb (size_of c (index_of c name)) n) 5 [] (omega arith) no_test)) (λ e. record { number = omega arith; rule_or_length = omega arith; count_or_size = omega arith })

pub delete_packed : (c name : List ℕ) → Packed (delete c name)
unfolding delete
delete_packed c name = unless_packed c [] _ _ (low_3 c name [] no_test) (λ e. record { number = omega arith; rule_or_length = omega arith; count_or_size = omega arith })

-- ---- the calls that tell a count or a size

pub room_packed : (c : List ℕ) → Packed (room c)
unfolding room
room_packed c = unless_packed c [] _ _ (low_1 c [] no_test) (λ e. record { number = omega arith; rule_or_length = omega arith; count_or_size = omega (arith, free-low c (whole c [] e)) })

pub size_packed : (c name : List ℕ) → Packed (size c name)
unfolding size
size_packed c name = unless_packed c [] _ _ (low_3 c name [] no_test) (λ e. record { number = omega arith; rule_or_length = omega arith; count_or_size = omega (arith, named-low c name [] e) })

pub read_packed : (c name : List ℕ) (p : ℕ) (tray : List ℕ) → Packed (read c name p tray)
unfolding read
read_packed c name p tray =
    let bs = stream_bytes c (shape_of c) (index_of c name) in
    let past = past_the_end (size_of c (index_of c name)) p ∷ [] in
    unless_packed c tray _ _ (low_3 c name past (first-low (ltb (size_of c (index_of c name)) p) 5 [] (omega arith) no_test))
    (λ e. record {
      number = omega arith;
      rule_or_length = omega arith;
      count_or_size = omega (arith, named-low c name past e, length-take (length tray) (drop p bs), length-drop p bs, length-stream c (shape_of c) (index_of c name));
    })

module _ (c name : List ℕ) (p : ℕ) (vs : List ℕ) where
  abbrev k : ℕ
  k = index_of c name

  abbrev wanted : ℕ
  wanted = wants (shape_of c) (stream c (shape_of c) k) (size_after c k p vs)

  abbrev tests : List Test
  tests = past_the_end (size_of c k) p ∷ no_room c wanted ∷ []

  -- more bytes than all blocks hold would have been refused
  few : first_no (damaged c ∷ bad_name name ∷ not_known c name ∷ tests) ≡ 0 → length vs ≤ 4096 * 4096
  few e =
      let w = (whole₃ c name tests e).core in
      let a = (first_none (ltb (size_of c k) p) 5 (no_room c wanted ∷ []) (omega arith) (after c name tests e).1).1 in
      let fits : wanted ≤ free_blocks c = ltb-false (free_blocks c) wanted (first_none (ltb (free_blocks c) wanted) 7 [] (omega arith) a).0 in
      let all : (shape_of c).count * (shape_of c).size ≤ 4096 * 4096 = mul-le-mul (count-few c (shape_of c) w) (size_few c (shape_of c) w) in
      elim (dec_le (length vs) (4096 * 4096)) [
        | yes h ↦ h
        | no h ↦ absurd (omega (arith, too_long c (shape_of c) w k (named_live c name tests e) (size_after c k p vs) (omega arith)))
      ]

  pub write_packed : Packed (write c name p vs)
  unfolding write
  write_packed =
      let room = first-low (ltb (free_blocks c) wanted) 7 [] (omega arith) no_test in
      unless_packed c [] _ _ (low_3 c name tests (first-low (ltb (size_of c k) p) 5 (no_room c wanted ∷ []) (omega arith) room))
      (λ e. record { number = omega arith; rule_or_length = omega arith; count_or_size = omega (arith, few e) })

pub list_packed : (c : List ℕ) (k : ℕ) (tray : List ℕ) → Packed (list c k tray)
unfolding list
list_packed c k tray =
    let tests : List Test = (leb (length (root_of c)) k, 5) ∷ short_tray tray ∷ [] in
    let short = first-low (ltb (length tray) 64) 8 [] (omega arith) no_test in
    unless_packed c tray _ _ (low_1 c tests (first-low (leb (length (root_of c)) k) 5 (short_tray tray ∷ []) (omega arith) short))
    (λ e.
    let w = whole c tests e in
    let there : k < length (root_of c) = leb-false (length (root_of c)) k (first_none (leb (length (root_of c)) k) 5 (short_tray tray ∷ []) (omega arith) (rest c tests e).1).0 in
    record {
      number = omega arith;
      rule_or_length = omega (arith, name-low c w k there);
      count_or_size = omega (arith, size_low c w (get_or (root_of c) k nothing).index (index_live c w k there));
    })
