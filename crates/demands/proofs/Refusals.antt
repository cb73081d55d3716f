-- The refusals of a whole card are those of its plain list: each call's number is the plain call's.
use mathlib.Core.Path.{◌≡◌, refl, sym, ap, ap₂, ◌∙◌}
use mathlib.Core.Logic.{◌≢◌}
use mathlib.Core.Bool.{not}
use mathlib.Core.List.{List, [], ◌∷◌, ◌++◌}
use Prim.Native.Nat.{ℕ, suc, ◌+◌, ◌-◌, ◌≤◌, ◌<◌, max}
use native.Mathlib.Nat.{sub_self}
use native.Mathlib.Decide.{ℕ_discrete}
use native.Mathlib.Omega.{arith}
use lib.ListN.{length}
use lib.Dec.{leb, ltb}
use Rattle.layout.specs.Limits.{most_streams}
use Rattle.layout.specs.Bytes.{pick, end8}
use Rattle.layout.specs.Pyramid.{P}
use Rattle.layout.specs.Blocks.{fan}
use Rattle.layout.specs.Streams.{table, table_bytes, first_desc, stream, stream_bytes, wants}
use Rattle.layout.specs.declared.Desc.{Desc}
use Rattle.layout.specs.Filing.{entries_of, look_in, with_entry}
use Rattle.layout.specs.Header.{shape_of}
use Rattle.layout.specs.Answers.{Outcome}
use Rattle.layout.specs.Calls.{Test, first_no, unless, damaged, root_of, known, index_of, size_of, size_after, free_blocks, reuse, new_index, root_with, create_wants, size, read, list, write, truncate, create, delete}
use Rattle.laws.proofs.Picks.{eqb_yes, eqb_no}
use Rattle.laws.proofs.Tests.{is_ltb}
use Rattle.laws.proofs.Entries.{with_length}
use Rattle.laws.proofs.State.{slots_of, lives_of, Right, Whole, right_data, length-stream}
use Rattle.laws.proofs.Cores.{core_good}
use Rattle.laws.proofs.Moves.{data_at_lem, stream_right}
use Rattle.demands.specs.Plain.{Item, Plainly, root_size, table_size, length_of, knows, free_of, grows, with_item, or_no, plain_size, plain_read, plain_list, plain_write, plain_truncate, plain_create, plain_delete}
use Rattle.demands.specs.Shows.{plain}
use Rattle.demands.proofs.Free.{root-size, free-count}
use Rattle.demands.proofs.Shown.{many_same, descs-same, knows_same, length-same}
use Rattle.demands.proofs.Named.{root_live, found_live}
use Rattle.demands.proofs.Numbers.{Alike, nothing, test, alike_no, number_is, plain-number_is, not_damaged, holds}
use Rattle.demands.proofs.Descriptors.{all_live, some-free, as_many}
use Rattle.layout.specs.declared.Shape.{Shape}

-- one more item, the longer for its name
root-size_more : (fs : List Item) (name : List ℕ) → root_size (fs ++ (record { name = name; bytes = [] } ∷ [])) ≡ root_size fs + 6 + length name
root-size_more [] name = omega arith
root-size_more (f ∷ fs) name = omega (arith, root-size_more fs name)

module _ (c : List ℕ) (w : Whole c) where
  abbrev s : Shape
  s = shape_of c

  -- what a stream wants is what P says of its lengths
  wants_is : (t : Desc) → Right s t → (n : ℕ) → t.size ≤ n → wants s t n ≡ grows (plain c) t.size n
  unfolding plain shape_of
  wants_is t r n l =
      let g = core_good c s w.core in
      ap₂ (λ x y. P (fan s) x - P (fan s) y) (data_at_lem s g t r n l) (right_data s g t r)

  -- ---- tests

  -- the name is known to both, and what follows asks of a known name
  name_test : (name : List ℕ) {n : ℕ} {x y : List Test} → (look_in (root_of c) name < length (root_of c) → Alike x y) → Alike ((not (known c name), n) ∷ x) ((not (knows (plain c) name), n) ∷ y)
  name_test name r = test (ap not (sym (knows_same c name))) (λ e. r (holds (is_ltb (look_in (root_of c) name) (length (root_of c))) e))

  -- the stream is as long in both
  place_test : (name : List ℕ) (p : ℕ) {n : ℕ} {x y : List Test} → look_in (root_of c) name < length (root_of c) → Alike x y → Alike ((ltb (size_of c (index_of c name)) p, n) ∷ x) ((ltb (length_of (plain c) name) p, n) ∷ y)
  place_test name p k r = test (ap (λ (z : ℕ). ltb z p) (sym (length-same c name k))) (λ e. r)

  -- as many blocks are wanted, and as many are free
  room_test : (a b : ℕ) {n : ℕ} → a ≡ b → Alike ((ltb (free_blocks c) a, n) ∷ []) ((ltb (free_of (plain c)) b, n) ∷ [])
  room_test a b e = test (ap₂ ltb (free-count c w) e) (λ u. nothing)

  write-wants : (name : List ℕ) (p : ℕ) (vs : List ℕ) → look_in (root_of c) name < length (root_of c)
      → wants s (stream c s (index_of c name)) (size_after c (index_of c name) p vs) ≡ grows (plain c) (length_of (plain c) name) (max (length_of (plain c) name) (p + length vs))
  write-wants name p vs k =
      let j = index_of c name in
      rw (length-same c name k) (wants_is (stream c s j) (stream_right c s w.core j (found_live c w name k)) (size_after c j p vs) (omega arith))

  -- ---- numbers

  same_number : (t u : List ℕ) (x y : List Test) (o : Outcome) (q : Plainly) → o.number ≡ 0 → q.number ≡ 0 → Alike x y → (unless (damaged c ∷ x) c t o).number ≡ (or_no y (plain c) u q).number
  same_number t u x y o q a b e = number_is (damaged c ∷ x) c t o a ∙ not_damaged c w x ∙ alike_no e ∙ sym (plain-number_is y (plain c) u q b)

  no_number : (t : List ℕ) (o : Outcome) → o.number ≡ 0 → (unless (damaged c ∷ []) c t o).number ≡ 0
  unfolding first_no
  no_number t o z = number_is (damaged c ∷ []) c t o z ∙ not_damaged c w []

  pub size_number : (name : List ℕ) → (size c name).number ≡ (plain_size (plain c) name).number
  unfolding size plain_size
  size_number name = same_number [] [] _ _ _ _ refl refl (test refl (λ u. name_test name (λ k. nothing)))

  pub delete-number : (name : List ℕ) → (delete c name).number ≡ (plain_delete (plain c) name).number
  unfolding delete plain_delete
  delete-number name = same_number [] [] _ _ _ _ refl refl (test refl (λ u. name_test name (λ k. nothing)))

  pub read_number : (name : List ℕ) (p : ℕ) (tray : List ℕ) → (read c name p tray).number ≡ (plain_read (plain c) name p tray).number
  unfolding read plain_read
  read_number name p tray = same_number tray tray _ _ _ _ refl refl (test refl (λ u. name_test name (λ k. place_test name p k nothing)))

  pub truncate-number : (name : List ℕ) (n : ℕ) → (truncate c name n).number ≡ (plain_truncate (plain c) name n).number
  unfolding truncate plain_truncate
  truncate-number name n = same_number [] [] _ _ _ _ refl refl (test refl (λ u. name_test name (λ k. place_test name n k nothing)))

  pub write-number : (name : List ℕ) (p : ℕ) (vs : List ℕ) → (write c name p vs).number ≡ (plain_write (plain c) name p vs).number
  unfolding write plain_write
  write-number name p vs = same_number [] [] _ _ _ _ refl refl (test refl (λ u. name_test name (λ k. place_test name p k (room_test _ _ (write-wants name p vs k)))))

  pub list-number : (k : ℕ) (tray : List ℕ) → (list c k tray).number ≡ (plain_list (plain c) k tray).number
  unfolding list plain_list
  list-number k tray = same_number tray tray _ _ _ _ refl refl (test (ap (λ (n : ℕ). leb n k) (sym (many_same c))) (λ u. test refl (λ v. nothing)))

  -- ---- create

  -- the root's descriptor, and each item's
  pub streams_same : length (lives_of c s) ≡ length (plain c).items + 1
  unfolding entries_of
  streams_same = as_many c s w.core w.filed ∙ omega (arith, many_same c)

  -- a free descriptor is used again, else the table has one more
  pub descs_reused : first_desc (table_bytes c s) ≢ end8 → (with_item (plain c) []).descs ≡ slots_of c s
  descs_reused u = omega (arith, descs-same c, streams_same, some-free c s w.core u)

  pub descs-extended : first_desc (table_bytes c s) ≡ end8 → (with_item (plain c) []).descs ≡ suc (slots_of c s)
  descs-extended z = omega (arith, descs-same c, streams_same, all_live c s w.core z)

  table-wants : pick (reuse (table_bytes c s)) 0 (wants s (table c s) ((table c s).size + 25)) ≡ grows (plain c) (table_size (plain c).descs) (table_size (with_item (plain c) []).descs)
  table-wants = elim (ℕ_discrete (first_desc (table_bytes c s)) end8) [
    | yes z ↦ rw (eqb_yes z) (wants_is (table c s) w.core.right ((table c s).size + 25) (omega arith)
        ∙ ap₂ (grows (plain c)) (omega (arith, w.core.size, descs-same c)) (omega (arith, w.core.size, descs-extended z)))
    | no u ↦ rw (eqb_no u) (sym (ap (λ (n : ℕ). grows (plain c) (table_size (plain c).descs) (table_size n)) (descs_reused u ∙ sym (descs-same c)) ∙ sub_self _))
  ]

  root-length : (k : ℕ) (name : List ℕ) → length (with_entry (stream_bytes c s 0) k name) ≡ root_size (with_item (plain c) name).items
  root-length k name =
      with_length (stream_bytes c s 0) k name
      ∙ rw (root-size_more (plain c).items name) (omega (arith, length-stream c s 0, root-size c w))

  root-wants : (name : List ℕ) → wants s (stream c s 0) (length (root_with c name)) ≡ grows (plain c) (root_size (plain c).items) (root_size (with_item (plain c) name).items)
  root-wants name =
      let k = new_index (table_bytes c s) in
      wants_is (stream c s 0) (stream_right c s w.core 0 (root_live c w)) (length (root_with c name)) (omega (arith, with_length (stream_bytes c s 0) k name, length-stream c s 0))
      ∙ ap₂ (grows (plain c)) (root-size c w) (root-length k name)

  pub create-wants : (name : List ℕ) → create_wants c name
      ≡ grows (plain c) (table_size (plain c).descs) (table_size (with_item (plain c) name).descs) + grows (plain c) (root_size (plain c).items) (root_size (with_item (plain c) name).items)
  create-wants name = ap₂ ◌+◌ table-wants (root-wants name)

  pub create-number : (name : List ℕ) → (create c name).number ≡ (plain_create (plain c) name).number
  unfolding create plain_create
  create-number name = same_number [] [] _ _ _ _ refl refl
      (test refl (λ u. test (sym (knows_same c name)) (λ v. test (ap (leb most_streams) streams_same) (λ x. room_test _ _ (create-wants name)))))
