-- A newly formatted card, byte by byte: its header, its table in block 0, and the link in each other block.
use mathlib.Core.Path.{◌≡◌, refl, sym, ap, ◌∙◌}
use mathlib.Core.Bool.{Bool, true, false}
use mathlib.Core.List.{List, ◌++◌}
use Prim.Native.Nat.{ℕ, zero, suc, ◌+◌, ◌-◌, ◌*◌, ◌/◌, ◌%◌, ◌^◌, ◌≤◌, ◌<◌}
use native.Mathlib.Nat.{pow-le-pow_right, div-mul-le_self, mul-le-mul_right}
use native.Mathlib.Decide.{ℕ_discrete, dec_lt}
use native.Mathlib.Omega.{arith}
use lib.ListN.{length, get_or, replicate, length-replicate, get_or-replicate, get_or-append}
use lib.Seq.{get_or-append-add}
use lib.Dec.{T, eqb}
use Rattle.layout.specs.Limits.{least_shift, most_shift, most_blocks}
use Rattle.layout.specs.Bytes.{pick, num, bytes, over, put, end4, end8}
use Rattle.layout.specs.Blocks.{place}
use Rattle.layout.specs.Header.{head_length, shaped, new_header, good_shape}
use Rattle.layout.specs.Calls.{links_from, formatted}
use Rattle.laws.proofs.ByteLaws.{length_over, length-put, length-bytes, over_in, over_out, put_out, num_agree, num-over, num-put-same}
use Rattle.laws.proofs.Tests.{is_both, is_leb, is_eqb}
use Rattle.layout.specs.declared.Shape.{Shape}

-- ---- links

-- what the link in block b says: the next block, or the end
abbrev pub link_of : Shape → ℕ → ℕ
link_of s b = pick (eqb (b + 1) s.count) end4 (b + 1)

link_small : (s : Shape) (b : ℕ) → b < end4 → link_of s b < 256 ^ 4
link_small s b l = go (eqb (b + 1) s.count)
  where
    go : (t : Bool) → pick t end4 (b + 1) < 256 ^ 4
    go true = omega arith
    go false = omega arith

module _ (s : Shape) (wide : 8 ≤ s.size) where
  links_length : (n b : ℕ) (c : List ℕ) → length (links_from n b s c) ≡ length c
  unfolding links_from
  links_length zero b c = refl
  links_length (suc n) b c = links_length n (b + 1) _ ∙ length-put 4 c (place s b) (link_of s b)

  links_before : (n b : ℕ) (c : List ℕ) (i : ℕ) → i < place s b → get_or (links_from n b s c) i 0 ≡ get_or c i 0
  unfolding links_from
  links_before zero b c i l = refl
  links_before (suc n) b c i l = links_before n (b + 1) _ i (omega arith) ∙ put_out 4 c (place s b) (link_of s b) i (omega arith)

  links_at : (n b : ℕ) (c : List ℕ) (x : ℕ) → b + n ≡ s.count → s.base + s.count * s.size ≤ length c → s.count < end4 → b ≤ x → x < s.count
      → num 4 (links_from n b s c) (place s x) ≡ link_of s x
  unfolding links_from
  links_at zero b c x e long few a l = absurd (omega arith)
  links_at (suc n) b c x e long few a l =
      let c₁ = put 4 c (place s b) (link_of s b) in
      elim (ℕ_discrete x b) [
        | yes u ↦ rw u (num_agree 4 _ c₁ (place s b) (λ i p q. links_before n (b + 1) c₁ i (omega arith))
            ∙ num-put-same 4 c (place s b) (link_of s b) (link_small s b (omega arith)) (omega (arith, mul-le-mul_right s.size (let h : suc b ≤ s.count = omega arith in h))))
        | no u ↦ links_at n (b + 1) c₁ x (omega arith) (rw length-put long) few (omega arith) l
      ]

-- ---- a length and a shift that suit each other

pub record Suits (len shift : ℕ) : Type 0 where
  pub least : least_shift ≤ shift
  pub most : shift ≤ most_shift
  pub long : head_length ≤ len
  pub whole : (len - head_length) % 2 ^ shift ≡ 0
  pub some : 1 ≤ (len - head_length) / 2 ^ shift
  pub few : (len - head_length) / 2 ^ shift ≤ most_blocks

pub suits : (len shift : ℕ) → T (good_shape len shift) → Suits len shift
unfolding good_shape
suits len shift t =
    let z = 2 ^ shift in
    let n = len - head_length in
    let r = (is_both (is_both (is_leb least_shift shift) (is_leb shift most_shift)) (is_both (is_leb head_length len) (is_both (is_eqb (n % z) 0) (is_both (is_leb 1 (n / z)) (is_leb (n / z) most_blocks))))).out t in
    record { least = r.0.0; most = r.0.1; long = r.1.0; whole = r.1.1.0; some = r.1.1.1.0; few = r.1.1.1.1 }

-- the table's bytes: no free descriptor, and the root's, all zero
abbrev pub new_table : List ℕ
new_table = bytes 8 end8 ++ replicate 25 0

module _ (len shift : ℕ) (fit : Suits len shift) where
  abbrev s : Shape
  s = shaped len shift

  abbrev c : List ℕ
  c = formatted len shift

  abbrev c₀ : List ℕ
  c₀ = over (replicate len 0) 0 (new_header shift s)

  abbrev c₁ : List ℕ
  c₁ = links_from (s.count - 1) 1 s c₀

  pub wide : 64 ≤ s.size
  wide = omega (arith, pow-le-pow_right {n = 2} (omega arith) fit.least)

  wide8 : 8 ≤ s.size
  wide8 = omega (arith, wide)

  pub room : s.base + s.count * s.size ≤ len
  room = omega (arith, fit.long, div-mul-le_self (len - head_length) (2 ^ shift))

  length₀ : length c₀ ≡ len
  length₀ = length_over (replicate len 0) 0 (new_header shift s) ∙ length-replicate len 0

  length₁ : length c₁ ≡ len
  length₁ = links_length s wide8 (s.count - 1) 1 c₀ ∙ length₀

  pub new_length : length c ≡ len
  unfolding formatted
  new_length = length_over c₁ (place s 0) (bytes 8 end8) ∙ length₁

  header_long : length (new_header shift s) ≡ s.base
  unfolding new_header bytes
  header_long = refl

  -- the header
  pub new_header_lem : (i : ℕ) → i < s.base → get_or c i 0 ≡ get_or (new_header shift s) i 0
  unfolding formatted
  new_header_lem i l =
      over_out c₁ (place s 0) (bytes 8 end8) i (omega arith) ∙ links_before s wide8 (s.count - 1) 1 c₀ i (omega arith)
      ∙ over_in (replicate len 0) 0 (new_header shift s) i i (omega arith) (omega (arith, header_long)) (rw length-replicate (omega (arith, fit.long)))

  -- the link in each block but the first
  pub new_link : (b : ℕ) → 1 ≤ b → b < s.count → num 4 c (place s b) ≡ link_of s b
  unfolding formatted
  new_link b some l =
      num-over 4 c₁ (place s 0) (bytes 8 end8) (place s b) (λ i p q u v. omega (arith, wide, length-bytes 8 end8, mul-le-mul_right s.size some))
      ∙ links_at s wide8 (s.count - 1) 1 c₀ b (omega (arith, fit.some)) (rw length₀ room) (omega (arith, fit.few)) some l

  -- the table, in the first
  table-rest : (q : ℕ) → 8 ≤ q → q < 33 → get_or new_table q 0 ≡ 0
  table-rest q a l =
      let e : q ≡ length (bytes 8 end8) + (q - 8) = omega (arith, length-bytes 8 end8) in
      ap (λ (x : ℕ). get_or new_table x 0) e ∙ get_or-append-add (bytes 8 end8) (replicate 25 0) (q - 8) 0 ∙ get_or-replicate 25 (q - 8) 0 0 (omega arith)

  pub new_table_lem : (q : ℕ) → q < 33 → get_or c (place s 0 + q) 0 ≡ get_or new_table q 0
  unfolding formatted
  new_table_lem q l =
      let i = place s 0 + q in
      let inside : i < len = omega (arith, room, wide, mul-le-mul_right s.size fit.some) in
      elim (dec_lt q 8) [
        | yes a ↦ over_in c₁ (place s 0) (bytes 8 end8) i q refl (rw length-bytes a) (rw length₁ inside) ∙ sym (get_or-append (bytes 8 end8) (replicate 25 0) 0 q (rw length-bytes a))
        | no a ↦ over_out c₁ (place s 0) (bytes 8 end8) i (omega (arith, length-bytes 8 end8)) ∙ links_before s wide8 (s.count - 1) 1 c₀ i (omega (arith, wide))
            ∙ over_out (replicate len 0) 0 (new_header shift s) i (omega (arith, header_long)) ∙ get_or-replicate len i 0 0 inside ∙ sym (table-rest q (omega arith) l)
      ]
