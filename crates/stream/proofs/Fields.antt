-- Descriptors: three numbers written in a row are the fields, and 25 bytes on a page are the descriptor they came from.
use mathlib.Core.Path.{◌≡◌, refl, sym, ap, ◌∙◌}
use mathlib.Core.List.{List, ◌++◌}
use Prim.Native.Nat.{ℕ, zero, suc, ◌+◌, ◌-◌, ◌*◌, ◌/◌, ◌≤◌, ◌<◌}
use native.Mathlib.Nat.{add-zero}
use native.Mathlib.Decide.{dec_lt}
use native.Mathlib.Omega.{arith}
use lib.ListN.{length, get_or, take, drop, replicate, length-append, length-take, length-drop, length-replicate, get_or-replicate, get_or-eq_default}
use lib.Seq.{get_or-take, get_or-drop}
use Rattle.layout.specs.Bytes.{num, bytes, over, put}
use Rattle.layout.specs.Streams.{desc_in, data_of, tall, fields, contents, laid, table, table_bytes, offset, slots, desc_of, stream, in_table, in_stream, desc_set}
use Rattle.laws.proofs.ByteLaws.{length-bytes, over-append, over_in, over_out}
use Rattle.laws.proofs.Descs.{length_fields}
use Rattle.laws.proofs.Laying.{length-contents}
use Rattle.memory.proofs.Parts.{over-whole}
use Rattle.layout.specs.declared.Shape.{Shape}
use Rattle.layout.specs.declared.Desc.{Desc}

pub read-fields : (l : List ℕ) (at a b d x f : ℕ) → a ≡ num 8 l at → b ≡ num 8 l (at + 8) → d ≡ num 8 l (at + 16) → x ≡ get_or l (at + 24) 0 → f ≡ x
    → ◌≡◌ {A = Desc} (record { size = a; top = b; reserved = d; flags = f }) (desc_in l at)
unfolding desc_in
read-fields l at a b d x f e₁ e₂ e₃ e₄ e₅ = let g = e₅ ∙ e₄ in λ i. record { size = e₁ i; top = e₂ i; reserved = e₃ i; flags = g i }

pub three_fields : (l l₁ l₂ l₃ : List ℕ) (s : Shape) (at size top d : ℕ) → l₁ ≡ put 8 l at size → l₂ ≡ put 8 l₁ (at + 8) top → l₃ ≡ put 8 l₂ (at + 16) (d * s.size)
    → l₃ ≡ over l at (fields s size top d)
unfolding put
three_fields l l₁ l₂ l₃ s at size top d e f g =
    let a = bytes 8 size in
    let b = bytes 8 top in
    let r = bytes 8 (d * s.size) in
    let n : length (a ++ b) ≡ 16 = simp (length-append, length-bytes) refl in
    let x : over l at (a ++ b ++ r) ≡ over (over l at (a ++ b)) (at + 16) r = rw (over-append l at (a ++ b) r, n) in
    let y : over l at (a ++ b) ≡ over (over l at a) (at + 8) b = rw (over-append l at a b, length-bytes 8 size) in
    g ∙ ap (λ (t : List ℕ). over t (at + 16) r) (f ∙ ap (λ (t : List ℕ). over t (at + 8) b) e ∙ sym y) ∙ sym x

pub num-shift : (n : ℕ) (l l' : List ℕ) (p q : ℕ) → ((i : ℕ) → i < n → get_or l (p + i) 0 ≡ get_or l' (q + i) 0) → num n l p ≡ num n l' q
unfolding num
num-shift zero l l' p q h = refl
num-shift (suc n) l l' p q h =
    let a : get_or l p 0 ≡ get_or l' q 0 = rw (add-zero p, add-zero q) at (h 0 (omega arith)) in
    let b = num-shift n l l' (p + 1) (q + 1) (λ i k. let e : p + 1 + i ≡ p + (1 + i) = omega arith in let f : q + 1 + i ≡ q + (1 + i) = omega arith in rw (e, f) (h (1 + i) (omega arith))) in
    omega (arith, a, b)

pub page-byte : (w : ℕ) (l : List ℕ) (x i : ℕ) → i < w → get_or (over (replicate w 0) 0 (take w (drop x l))) i 0 ≡ get_or l (x + i) 0
page-byte w l x i h =
    let vs = take w (drop x l) in
    let n = length-take w (drop x l) in
    let m = length-drop x l in
    elim (dec_lt (x + i) (length l)) [
      | yes k ↦ over_in (replicate w 0) 0 vs i i (omega arith) (omega arith) (rw length-replicate h) ∙ get_or-take w (drop x l) i 0 h ∙ get_or-drop x l i 0
      | no k ↦ over_out (replicate w 0) 0 vs i (λ a b. omega arith) ∙ get_or-replicate w i 0 0 h ∙ sym (get_or-eq_default l 0 (omega arith))
    ]

-- a number on a page is the number where its bytes came from
pub page-num : (w : ℕ) (l page : List ℕ) (x o n : ℕ) → o + n ≤ w → page ≡ over (replicate w 0) 0 (take w (drop x l)) → num n page o ≡ num n l (x + o)
page-num w l page x o n h e = rw e (num-shift n (over (replicate w 0) 0 (take w (drop x l))) l o (x + o) (λ i k.
    let b : x + o + i ≡ x + (o + i) = omega arith in
    rw b (page-byte w l x (o + i) (omega arith))))

pub page-start : (w : ℕ) (l page : List ℕ) (x n : ℕ) → n ≤ w → page ≡ over (replicate w 0) 0 (take w (drop x l)) → num n page 0 ≡ num n l x
page-start w l page x n h e = rw (add-zero x) at (page-num w l page x 0 n (omega arith) e)

pub page_desc : (l page : List ℕ) (x : ℕ) (r : Desc) → page ≡ over (replicate 25 0) 0 (take 25 (drop x l)) → r ≡ desc_in page 0 → r ≡ desc_in l x
unfolding desc_in
page_desc l page x r e f =
    let a = page-start 25 l page x 8 (omega arith) e in
    let b = page-num 25 l page x 8 8 (omega arith) e in
    let d = page-num 25 l page x 16 8 (omega arith) e in
    let g = ap (λ (t : List ℕ). get_or t 24 0) e ∙ page-byte 25 l x 24 (omega arith) in
    f ∙ (λ i. record { size = a i; top = b i; reserved = d i; flags = g i })

-- ---- in the table

pub stream-read : (c page : List ℕ) (s : Shape) (k o : ℕ) (t r : Desc) → t ≡ table c s → o ≡ offset k → page ≡ over (replicate 25 0) 0 (take 25 (drop o (contents c s t.top (data_of s t) t.size)))
    → r ≡ desc_in page 0 → r ≡ stream c s k
unfolding stream desc_of table_bytes
stream-read c page s k o t r e u f g = page_desc (table_bytes c s) page (offset k) r (rw (e, u) at f) g

pub stream-set : (c c₁ page page₁ : List ℕ) (s : Shape) (k size top d o : ℕ) → o ≡ offset k → page₁ ≡ over page 0 (fields s size top d) → length page ≡ 24
    → c₁ ≡ in_table c s o page₁ → c₁ ≡ desc_set c s k size top d
unfolding desc_set
stream-set c c₁ page page₁ s k size top d o u e n g =
    let x : over page 0 (fields s size top d) ≡ fields s size top d = over-whole page (fields s size top d) (length_fields s size top d ∙ sym n) in
    g ∙ rw (e, x, u)

pub table-num : (c page : List ℕ) (s : Shape) (at r : ℕ) (t : Desc) → t ≡ table c s → page ≡ over (replicate 8 0) 0 (take 8 (drop at (contents c s t.top (data_of s t) t.size))) → r ≡ num 8 page 0
    → r ≡ num 8 (table_bytes c s) at
unfolding table_bytes
table-num c page s at r t e f g = g ∙ page-start 8 (table_bytes c s) page at 8 (omega arith) (rw e at f)

pub table-laid : (c c₁ : List ℕ) (s : Shape) (p : ℕ) (vs : List ℕ) (t : Desc) → t ≡ table c s → c₁ ≡ laid c s t.top (tall s (data_of s t)) p vs → c₁ ≡ in_table c s p vs
unfolding in_table
table-laid c c₁ s p vs t a e = e ∙ rw a

pub stream-laid : (c c₁ : List ℕ) (s : Shape) (k p : ℕ) (vs : List ℕ) (t : Desc) → t ≡ stream c s k → c₁ ≡ laid c s t.top (tall s (data_of s t)) p vs → c₁ ≡ in_stream c s k p vs
unfolding in_stream
stream-laid c c₁ s k p vs t a e = e ∙ rw a

pub number-laid : (c c₁ page : List ℕ) (s : Shape) (p v : ℕ) → page ≡ put 8 (replicate 8 0) 0 v → c₁ ≡ in_table c s p page → c₁ ≡ in_table c s p (bytes 8 v)
unfolding put
number-laid c c₁ page s p v e f = f ∙ rw (e, over-whole (replicate 8 0) (bytes 8 v) (length-bytes 8 v))

-- how many descriptors the table has, by its size
pub slots_is : (c : List ℕ) (s : Shape) (t : Desc) (x : ℕ) → t ≡ table c s → x ≡ t.size - 8 → x / 25 ≡ slots (table_bytes c s)
unfolding table_bytes
slots_is c s t x e f = rw (length-contents c s (table c s).top (data_of s (table c s)) (table c s).size, f, e)
