-- A stream changed by its name, as write and truncate do it: the other streams, the directory, the table, and the bytes that may change.
use mathlib.Core.Path.{◌≡◌, sym, ap, ap₂, ◌∙◌}
use mathlib.Core.Logic.{◌≢◌, inl, inr}
use mathlib.Core.List.{List}
use Prim.Native.Nat.{ℕ, ◌+◌, ◌≤◌, ◌<◌}
use native.Mathlib.Decide.{dec_lt}
use native.Mathlib.Omega.{arith}
use lib.ListN.{length, get_or, length-map, get_or-eq_default}
use lib.Dec.{T, ltb→lt}
use Rattle.layout.specs.Streams.{table, table_bytes, offset, stream_bytes, table_blocks, stream_blocks}
use Rattle.layout.specs.Filing.{Entry, entries_of, look_in, nothing}
use Rattle.layout.specs.Header.{shape_of}
use Rattle.layout.specs.Calls.{root_of, index_of}
use Rattle.laws.proofs.Lists.{In, get_or-apart, holds_in}
use Rattle.laws.proofs.Entries.{indices, look_name}
use Rattle.laws.proofs.State.{Whole, length-table}
use Rattle.laws.proofs.Cores.{length_core}
use Rattle.laws.proofs.Edits.{Edit}
use Rattle.demands.specs.Plain.{knows}
use Rattle.demands.specs.Shows.{plain}
use Rattle.demands.specs.Parts.{Taken, StreamParts}
use Rattle.demands.specs.Demand3.{SameByte, SameStream, KeptDirectory}
use Rattle.demands.proofs.Items.{found, map_at}
use Rattle.demands.proofs.Shown.{knows_same}
use Rattle.demands.proofs.Named.{root_live, found_live, not_root}
use Rattle.layout.specs.declared.Shape.{Shape}

-- a name that the plain list knows stands in the directory
pub known_in : (c name : List ℕ) → T (knows (plain c) name) → look_in (root_of c) name < length (root_of c)
known_in c name t = ltb→lt _ _ (rw (knows_same c name) at t)

-- two names, two indices
pub index_apart : (c : List ℕ) → Whole c → (n m : List ℕ) → look_in (root_of c) n < length (root_of c) → look_in (root_of c) m < length (root_of c) → n ≢ m → index_of c n ≢ index_of c m
unfolding entries_of
index_apart c w n m l l' u e =
    let es = root_of c in
    let at : (j : ℕ) → j < length es → get_or (indices es) j 0 ≡ (get_or es j nothing).index = λ j h. map_at (λ (x : Entry). x.index) es j nothing 0 h in
    let same : look_in es n ≡ look_in es m = get_or-apart (indices es) w.filed.reach.once.1 (look_in es n) (look_in es m) (rw length-map l) (rw length-map l') (at _ l ∙ e ∙ sym (at _ l')) in
    u (sym (look_name es n l) ∙ ap (λ (j : ℕ). (get_or es j nothing).name) same ∙ look_name es m l')

module _ (c : List ℕ) (w : Whole c) (name : List ℕ) (known : look_in (root_of c) name < length (root_of c)) (c' now xs free : List ℕ)
    (e : Edit c c' (shape_of c) (index_of c name) now xs free) (root_of_lem : root_of c' ≡ root_of c) where
  abbrev s : Shape
  s = shape_of c

  abbrev k : ℕ
  k = index_of c name

  shape : shape_of c' ≡ s
  shape = e.core.shape_is

  index_same : (n : List ℕ) → index_of c' n ≡ index_of c n
  index_same n = ap (λ (es : List Entry). (found es n).index) root_of_lem

  pub others_same : (n : List ℕ) → T (knows (plain c) n) → (n ≡ name → ⊥) → SameStream c c' n
  others_same n t u =
      let l = known_in c n t in
      let i = found_live c w n l in
      let d = index_apart c w n name l known u in
      record {
        index = index_same n;
        blocks = ap₂ (λ (z : Shape) j. stream_blocks c' z j) shape (index_same n) ∙ e.blocks_of_lem (index_of c n) i d;
        bytes = ap₂ (λ (z : Shape) j. stream_bytes c' z j) shape (index_same n) ∙ e.bytes_of (index_of c n) i d;
      }

  pub parts-only : ((b : ℕ) → In b xs → Taken c c' b) → (i : ℕ) → (StreamParts c name c' i → ⊥) → SameByte c c' i
  parts-only taken i h = e.rest-same i (λ a b. h (inl (a, b))) (λ x m u. h (inr (inr (inr (x, taken x m, u)))))
      (λ x m u. h (inr (inr (inl (x, holds_in x (stream_blocks c s k) m, u))))) (λ n l q. h (inr (inl (offset k + n, (omega arith, omega arith), q))))

  long-table : length (table_bytes c' s) ≡ length (table_bytes c s)
  long-table = length_core c' s e.core ∙ ap offset e.slots_is ∙ sym (length_core c s w.core)

  pub directory_kept : ((q : ℕ) → q < (table c s).size → (offset k ≤ q → q < offset k + 24 → ⊥) → get_or (table_bytes c' s) q 0 ≡ get_or (table_bytes c s) q 0) → KeptDirectory c name c'
  directory_kept table_kept = record {
    index = index_same name;
    root_blocks = ap (λ (z : Shape). stream_blocks c' z 0) shape ∙ e.blocks_of_lem 0 (root_live c w) (not_root c w name known);
    root_bytes = ap (λ (z : Shape). stream_bytes c' z 0) shape ∙ e.bytes_of 0 (root_live c w) (not_root c w name known);
    table_keeps_blocks = ap (λ (z : Shape). table_blocks c' z) shape ∙ e.table_of;
    table_length = ap (λ (z : Shape). length (table_bytes c' z)) shape ∙ long-table;
    table_keeps_bytes = λ q away. ap (λ (z : Shape). get_or (table_bytes c' z) q 0) shape ∙ elim (dec_lt q (table c s).size) [
      | yes l ↦ table_kept q l (λ a b. away (a, omega arith))
      | no n ↦ get_or-eq_default (table_bytes c' s) 0 (omega (arith, long-table, length-table c s)) ∙ sym (get_or-eq_default (table_bytes c s) 0 (omega (arith, length-table c s)))
    ];
  }
