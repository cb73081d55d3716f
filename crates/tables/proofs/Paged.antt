-- The table on a page: it fits, and what is read from the page is what is read from the table.
use mathlib.Core.Path.{◌≡◌, sym, ap, ◌∙◌}
use mathlib.Core.Bool.{true, not}
use mathlib.Core.List.{List}
use Prim.Native.Nat.{ℕ, ◌+◌, ◌-◌, ◌/◌, ◌%◌, ◌≤◌}
use native.Mathlib.Nat.{div-add-mod'}
use native.Mathlib.Decide.{dec_lt}
use native.Mathlib.Omega.{arith}
use lib.ListN.{length, take, drop, replicate, length-replicate, get_or-eq_default}
use lib.Dec.{eqb}
use Rattle.layout.specs.Limits.{most_streams}
use Rattle.layout.specs.Bytes.{pick, both, num, over, end8, separate}
use Rattle.layout.specs.Streams.{data_of, contents, desc_in, desc_of, dead, live, offset, slots, table, table_bytes, table_blocks, stream}
use Rattle.layout.specs.Sound.{right_desc, live_form, free_form, good_form, rule4}
use Rattle.laws.proofs.ByteLaws.{num_agree, length_over}
use Rattle.laws.proofs.Laying.{length-contents}
use Rattle.laws.proofs.Tests.{is_both, is_leb, is_itself}
use Rattle.stream.proofs.Fields.{page-byte}
use Rattle.tables.specs.OnPage.{Reads}
use Rattle.layout.specs.declared.Shape.{Shape}
use Rattle.layout.specs.declared.Desc.{Desc}

-- a table that passed rule 4 fits
pub table-sizes : (c : List ℕ) (s : Shape) → rule4 c s ≡ true → (offset 1 ≤ (table c s).size) × ((table c s).size ≤ offset most_streams)
unfolding rule4
table-sizes c s e =
    let t = table c s in
    let b = both (right_desc s t) (separate s.count (table_blocks c s)) in
    let r = is_both (is_itself (eqb ((t.size - 8) % 25) 0)) (is_both (is_leb (offset 1) t.size) (is_both (is_leb t.size (offset most_streams)) (is_itself b))) in
    let w = r.out (rw e tt) in
    (w.1.0, w.1.1.0)

pub slots-few : (c : List ℕ) (s : Shape) (n : ℕ) → rule4 c s ≡ true → n ≡ slots (table_bytes c s) → (1 ≤ n) × (n ≤ most_streams)
unfolding table_bytes
slots-few c s n e f =
    let l = length-contents c s (table c s).top (data_of s (table c s)) (table c s).size in
    let w = table-sizes c s e in
    let g : n ≡ ((table c s).size - 8) / 25 = f ∙ rw l in
    let d = div-add-mod' ((table c s).size - 8) 25 in
    (omega arith, omega arith)

pub page-reads : (c : List ℕ) (s : Shape) (t : Desc) (page tab : List ℕ) → rule4 c s ≡ true → t ≡ table c s → page ≡ replicate 6408 0
    → tab ≡ over page 0 (take (length page) (drop 0 (contents c s t.top (data_of s t) t.size))) → Reads tab (table_bytes c s)
unfolding table_bytes
page-reads c s t page tab four e f g i =
    let l = contents c s (table c s).top (data_of s (table c s)) (table c s).size in
    let h : tab ≡ over (replicate 6408 0) 0 (take 6408 (drop 0 l)) = g ∙ rw (f, e) in
    elim (dec_lt i 6408) [
      | yes k ↦ rw h (let z : 0 + i ≡ i = omega arith in rw z at (page-byte 6408 l 0 i k))
      | no k ↦ get_or-eq_default tab 0 (rw (h, length_over) (rw length-replicate (omega arith)))
          ∙ sym (get_or-eq_default l 0 (omega (arith, length-contents c s (table c s).top (data_of s (table c s)) (table c s).size, (table-sizes c s four).1)))
    ]

-- what is read from the page is what is read from the table
module _ (tab l : List ℕ) (same : Reads tab l) where
  pub nums_same : (w : ℕ) → num w tab ≡ num w l
  nums_same w = λ i x. num_agree w tab l x (λ j a b. same j) i

  pub desc_same : (k : ℕ) → desc_of tab k ≡ desc_of l k
  unfolding desc_of desc_in
  desc_same k =
      let at = offset k in
      let a = ap (λ (g : ℕ → ℕ). g at) (nums_same 8) in
      let b = ap (λ (g : ℕ → ℕ). g (at + 8)) (nums_same 8) in
      let d = ap (λ (g : ℕ → ℕ). g (at + 16)) (nums_same 8) in
      let g = same (at + 24) in
      λ i. record { size = a i; top = b i; reserved = d i; flags = g i }

  pub stream-same : (c : List ℕ) (s : Shape) → l ≡ table_bytes c s → (k : ℕ) → desc_of tab k ≡ stream c s k
  unfolding stream
  stream-same c s e k = desc_same k ∙ rw e

  pub dead-same : dead tab ≡ dead l
  unfolding dead
  dead-same = λ i k. eqb (desc_same k i).top end8

  pub live_same : live tab ≡ live l
  unfolding live
  live_same = λ i k. not (dead-same i k)

  pub form_same : (s : Shape) → good_form s tab ≡ good_form s l
  form_same s = λ i k. pick (live_same i k) (live_form s (desc_same k i)) (free_form (desc_same k i))
