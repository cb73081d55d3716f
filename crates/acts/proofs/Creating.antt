-- A new stream: the blocks that it wants, and its entry.
use mathlib.Core.Path.{◌≡◌, sym, ap, ◌∙◌}
use mathlib.Core.List.{List}
use Prim.Native.Nat.{ℕ, ◌+◌, ◌-◌, ◌*◌, ◌^◌, ◌<◌}
use native.Mathlib.Nat.{zero-add, div-mul-le_self}
use native.Mathlib.Omega.{arith}
use lib.ListN.{length}
use borrow.Author.Tests.{eq-eqb, ne_eqb}
use Rattle.layout.specs.Bytes.{pick, num, end8}
use Rattle.layout.specs.Streams.{table, table_bytes, slots, stream, stream_bytes, wants}
use Rattle.layout.specs.Filing.{with_entry}
use Rattle.layout.specs.Calls.{reuse, new_index, described, directory_with, create_wants_in, created_in}
use Rattle.laws.proofs.Entries.{with_length}
use Rattle.laws.proofs.State.{length-table, length-stream}
use Rattle.filing.specs.Edited.{entered}
use Rattle.filing.proofs.Drawing.{entered_is}
use Rattle.layout.specs.declared.Shape.{Shape}
use Rattle.layout.specs.declared.Desc.{Desc}

module _ (c : List ℕ) (s : Shape) where
  abbrev tb : List ℕ
  tb = table_bytes c s

  -- how many descriptors there are
  pub slots-low : (n : ℕ) → n ≡ slots tb → (table c s).size < 2 ^ 61 → 25 * n < 2 ^ 61
  slots-low n e h = omega (arith, div-mul-le_self (length tb - 8) 25, length-table c s)

  -- ---- the blocks that it wants, and its entry

  module _ (k : ℕ) (name : List ℕ) (d : Desc) (e : d ≡ stream c s k) (more : ℕ) (f : more ≡ wants s d (d.size + 6 + length name)) where
    long : length (with_entry (stream_bytes c s k) (new_index tb) name) ≡ (stream c s k).size + 6 + length name
    long = rw (with_length, length-stream c s k)

    mine : more ≡ wants s (stream c s k) (length (directory_with c s k name))
    mine = rw (long, ← e) f

    abbrev others : ℕ
    others = pick (reuse tb) 0 (wants s (table c s) ((table c s).size + 25))

    pub wants-one : (first : ℕ) → first ≡ num 8 tb 0 → (first ≡ end8 → ⊥) → more ≡ create_wants_in c s k name
    wants-one first g h =
        let z : others ≡ 0 = rw (ne_eqb (num 8 tb 0) end8 (λ u. h (g ∙ u))) in
        mine ∙ sym (zero-add _) ∙ ap (λ (x : ℕ). x + wants s (stream c s k) (length (directory_with c s k name))) (sym z)

    pub wants_two : (first r : ℕ) (t : Desc) → first ≡ num 8 tb 0 → first ≡ end8 → t ≡ table c s → r ≡ wants s t (t.size + 25) → r + more ≡ create_wants_in c s k name
    wants_two first r t g h u v =
        let z : others ≡ r = rw (eq-eqb (num 8 tb 0) end8 (sym g ∙ h), v, u) in
        ap (λ (x : ℕ). x + more) (sym z) ∙ ap (λ (x : ℕ). others + x) mine

  pub made : (k : ℕ) (name c₁ c₂ : List ℕ) (index end : ℕ) → index ≡ new_index tb → end ≡ (stream c s k).size → c₁ ≡ described c s → c₂ ≡ entered c₁ s k end index name → c₂ ≡ created_in c s k name
  made k name c₁ c₂ index end e f g h = h ∙ rw (e, f, g) (entered_is (described c s) s k (stream c s k).size (new_index tb) name (stream_bytes c s k) (length-stream c s k))
