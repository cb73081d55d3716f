-- Streams made longer and shorter: the steps of the work give the definition.
use mathlib.Core.Path.{◌≡◌, ◌∙◌}
use mathlib.Core.List.{List}
use Prim.Native.Nat.{ℕ, ◌+◌, ◌-◌, ◌*◌, ◌/◌, ◌^◌, ◌≤◌, ◌<◌}
use native.Mathlib.Nat.{div-lt_iff_lt-mul, div-add-mod', mul-le-mul_left}
use native.Mathlib.Omega.{arith}
use Rattle.layout.specs.Pyramid.{up}
use Rattle.layout.specs.Blocks.{released, surplus, lowered_top}
use Rattle.layout.specs.Streams.{data_of, data_at, grown_for, table, table_set, table_lengthened, stream, desc_set, lengthened, shortened}
use Rattle.layout.specs.declared.Shape.{Shape}
use Rattle.layout.specs.declared.Desc.{Desc}

-- ---- numbers that fit

module _ (s : Shape) (least : 64 ≤ s.size) (most : s.size ≤ 4096) where
  big : 0 < s.size
  big = omega arith

  wide : (k : ℕ) → k * 64 ≤ k * s.size
  wide k = mul-le-mul_left k least

  -- the data blocks that a descriptor names
  pub data_fits : (r : ℕ) → r < 2 ^ 64 → r / s.size < 2 ^ 58
  data_fits r h = (div-lt_iff_lt-mul {k = s.size} big).1 (omega (arith, wide (2 ^ 58)))

  -- the data blocks that n bytes want, and their bytes
  pub up_fits : (n : ℕ) → n < 2 ^ 62 → (up s.size n < 2 ^ 58) × (up s.size n * s.size < 2 ^ 63)
  up_fits n h =
      let x = n + (s.size - 1) in
      let e = div-add-mod' x s.size in
      ((div-lt_iff_lt-mul {k = s.size} big).1 (omega (arith, wide (2 ^ 58))), omega arith)

-- ---- longer

module _ (c c₁ c₂ : List ℕ) (s : Shape) (t : Desc) (n top d : ℕ) (g : c₁ ≡ (grown_for c s t n).card) (g' : top ≡ (grown_for c s t n).top) (e : d ≡ data_at s t n) where
  pub stream-longer : (k : ℕ) → t ≡ stream c s k → c₂ ≡ desc_set c₁ s k n top d → c₂ ≡ lengthened c s k n
  unfolding lengthened
  stream-longer k a b = b ∙ rw (g, g', e, a)

  pub table-longer : t ≡ table c s → n ≡ t.size + 25 → c₂ ≡ table_set c₁ s n top d → c₂ ≡ table_lengthened c s
  unfolding table_lengthened
  table-longer a z b = b ∙ rw (g, g', e, z, a)

-- ---- shorter

pub stream-shorter : (c c₁ c₂ : List ℕ) (s : Shape) (t : Desc) (k n d' top : ℕ) → t ≡ stream c s k → d' ≡ up s.size n → top ≡ lowered_top c s t.top (data_of s t) d'
    → c₁ ≡ released c s (surplus c s t.top (data_of s t) d') → c₂ ≡ desc_set c₁ s k n top d' → c₂ ≡ shortened c s k n
unfolding shortened
stream-shorter c c₁ c₂ s t k n d' top a e g g' b = b ∙ rw (g, g', e, a)
