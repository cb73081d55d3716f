-- Places: one above every number of 64 bits is past the end of every card, so code may stop at the highest.
use mathlib.Core.Path.{◌≡◌, sym, ◌∙◌}
use mathlib.Core.List.{List}
use Prim.Native.Nat.{ℕ, ◌+◌, ◌*◌, ◌/◌, ◌%◌, min, ◌≤◌, ◌<◌}
use native.Mathlib.Nat.{min-eq_left, le-mul_of_pos_right, le-div_iff_mul-le, mod-lt}
use native.Mathlib.Decide.{dec_lt}
use native.Mathlib.Omega.{arith}
use lib.ListN.{length, replicate}
use Rattle.layout.specs.Bytes.{num, bytes, over, put}
use Rattle.layout.specs.Blocks.{place, slot, first_free, next, taken}
use Rattle.laws.proofs.ByteLaws.{num_past, over_past}
use Rattle.layout.specs.declared.Shape.{Shape}

-- the highest number of 64 bits
abbrev pub cap : ℕ
cap = 18446744073709551615

-- ---- stopped there

module _ (c : List ℕ) (whole : length c ≤ cap) (x m : ℕ) (e : m ≡ min x cap) where
  pub num-near : (n : ℕ) → num n c m ≡ num n c x
  num-near n = elim (dec_lt x cap) [
    | yes k ↦ rw (e, min-eq_left {n = x} {m = cap} (omega arith))
    | no k ↦ num_past n c m (omega arith) ∙ sym (num_past n c x (omega arith))
  ]

  pub over-near : (vs : List ℕ) → over c m vs ≡ over c x vs
  over-near vs = elim (dec_lt x cap) [
    | yes k ↦ rw (e, min-eq_left {n = x} {m = cap} (omega arith))
    | no k ↦ over_past vs c m (omega arith) ∙ sym (over_past vs c x (omega arith))
  ]

  pub put-near : (n v : ℕ) → put n c m v ≡ put n c x v
  unfolding put
  put-near n v = over-near (bytes n v)

pub slot-near : (c : List ℕ) → length c ≤ cap → (s : Shape) (b at j : ℕ) → at ≡ min (place s b) cap → num 4 c (at + 4 * j) ≡ slot c s b j
slot-near c whole s b at j e = elim (dec_lt (place s b) cap) [
  | yes k ↦ rw (e, min-eq_left {n = place s b} {m = cap} (omega arith))
  | no k ↦ num_past 4 c (at + 4 * j) (omega arith) ∙ sym (num_past 4 c (place s b + 4 * j) (omega arith))
]

pub taken_is : (c : List ℕ) (s : Shape) → length c ≤ cap → {b n p : ℕ} {c₁ c₂ : List ℕ} → b ≡ first_free c s → n ≡ next c s b → p ≡ min (place s b) cap → c₁ ≡ over c p (replicate s.size 0)
    → c₂ ≡ put 8 c₁ s.first n → c₂ ≡ taken c s
unfolding taken
taken_is c s whole {b = b} {p = p} e₁ e₂ e₃ e₄ e₅ = e₅ ∙ rw (e₄, over-near c whole (place s b) p e₃ (replicate s.size 0), e₂, e₁)

-- a block whose number 4 bytes do not hold is past the end of a card of 2^32 bytes
pub far : (c : List ℕ) (base size : ℕ) (whole : length c ≤ 4294967296) (some : 1 ≤ size) (b j : ℕ) → 4294967296 ≤ b → length c ≤ base + b * size + j
far c base size whole some b j k = omega (arith, le-mul_of_pos_right {m = size} b some)

-- ---- the fan

module _ (size : ℕ) (least : 64 ≤ size) where
  pub fan_four : 4 ≤ size / 4
  fan_four = (le-div_iff_mul-le {k = 4} (omega arith)).1 (omega arith)

  pub fan_pos : 0 < size / 4
  fan_pos = omega (arith, fan_four)

  pub fan_two : 2 ≤ size / 4
  fan_two = omega (arith, fan_four)

  pub slot_small : (j : ℕ) → size ≤ 4096 → j % (size / 4) ≤ 4096
  slot_small j most = omega (arith, mod-lt j fan_pos)
