-- How many blocks a pyramid has, and how many are given back.
use mathlib.Core.Path.{◌≡◌, refl, ap, ap₂, ◌∙◌}
use mathlib.Core.Logic.{inl, inr}
use mathlib.Core.Bool.{Bool, true, false}
use mathlib.Core.List.{List, [], ◌∷◌}
use Prim.Native.Nat.{ℕ, zero, suc, ◌+◌, ◌-◌, ◌≤◌, ◌<◌}
use native.Mathlib.Decide.{ℕ_discrete, dec_le}
use native.Mathlib.Omega.{arith}
use lib.ListN.{length, length-append, length-map}
use Rattle.layout.specs.Bytes.{pick, holds}
use Rattle.layout.specs.Pyramid.{up, level, height, P}
use Rattle.layout.specs.Blocks.{fan, at, kept, cells, surplus, pyramid, rising}
use Rattle.layout.specs.declared.Shape.{Shape}
use Rattle.laws.proofs.Picks.{leb_yes, leb_no, eqb_yes, eqb_no, is_false}
use Rattle.laws.proofs.Lists.{In, Distinct, length_run, holds_read}
use Rattle.laws.proofs.Levels.{upward, level-up, height-low, height-high, P-low, P-high, level_mono, height_mono}

-- ---- sums

-- g 0 + g 1 + .. + g k
unfoldable pub sum : (ℕ → ℕ) → ℕ → ℕ
sum g zero = g 0
sum g (suc k) = g (suc k) + sum g k

pub sum_agree : (g g' : ℕ → ℕ) (K : ℕ) → ((k : ℕ) → k ≤ K → g k ≡ g' k) → sum g K ≡ sum g' K
unfolding sum
sum_agree g g' zero e = e 0 (omega arith)
sum_agree g g' (suc K) e = ap₂ ◌+◌ (e (suc K) (omega arith)) (sum_agree g g' K (λ k l. e k (omega arith)))

-- the first one apart
pub sum-shift : (g : ℕ → ℕ) (K : ℕ) → sum g (suc K) ≡ g 0 + sum (λ k. g (suc k)) K
unfolding sum
sum-shift g zero = omega arith
sum-shift g (suc K) = omega (arith, sum-shift g K)

pub sum_less : (g l : ℕ → ℕ) (K : ℕ) → ((k : ℕ) → k ≤ K → l k ≤ g k) → sum (λ k. g k - l k) K + sum l K ≡ sum g K
unfolding sum
sum_less g l zero h = omega (arith, h 0 (omega arith))
sum_less g l (suc K) h = omega (arith, h (suc K) (omega arith), sum_less g l K (λ k i. h k (omega arith)))

-- ---- the cells of all levels, and those that are kept

module _ (f : ℕ) (two : 2 ≤ f) where
  pub length-cells : (d d' K : ℕ) → length (cells f d d' K) ≡ sum (λ k. level f k d - kept f k d') K
  unfolding cells sum
  length-cells d d' zero = rw (length-map, length_run)
  length-cells d d' (suc K) = rw (length-append, length-map, length_run, length-cells d d' K)

  -- P is the sum of the levels
  pub sum_levels : (d : ℕ) → sum (λ k. level f k d) (height f d) ≡ P f d
  sum_levels = upward f two (λ d. sum (λ k. level f k d) (height f d) ≡ P f d)
      (λ d l. rw (height-low f two d l, P-low f two d l) (unfold sum level in refl))
      (λ d l e. rw (height-high f two d l, P-high f two d l, sum-shift (λ k. level f k d) (height f (up f d)), ← e)
      (unfold level in ap (λ (x : ℕ). d + x)
      (sum_agree (λ k. level f (suc k) d) (λ k. level f k (up f d)) (height f (up f d)) (λ k i. level-up f two k d))))

  kept-all : (d' K : ℕ) → height f d' ≡ K → sum (λ k. kept f k d') K ≡ P f d'
  unfolding kept
  kept-all d' K e =
      sum_agree (λ k. kept f k d') (λ k. level f k d') K (λ k i. rw (leb_yes {a = k} {b = height f d'} (omega arith)))
      ∙ rw (← e) (sum_levels d')

  pub sum_kept : (d' K : ℕ) → height f d' ≤ K → sum (λ k. kept f k d') K ≡ P f d'
  unfolding sum kept
  sum_kept d' zero h = kept-all d' 0 (omega arith)
  sum_kept d' (suc K) h = elim (ℕ_discrete (height f d') (suc K)) [
    | yes e ↦ kept-all d' (suc K) e
    | no n ↦ rw (leb_no {a = suc K} {b = height f d'} (omega arith)) (omega (arith, sum_kept d' K (omega arith)))
  ]

  pub kept_le : (d d' k : ℕ) → d' ≤ d → kept f k d' ≤ level f k d
  unfolding kept
  kept_le d d' k l = elim (dec_le k (height f d')) [
    | yes a ↦ rw (leb_yes a) (level_mono f two k d' d l)
    | no a ↦ rw (leb_no {a = k} {b = height f d'} (omega arith)) (omega arith)
  ]

  -- the cells that d' data blocks do not keep are as many as P falls by
  pub cells_fall : (d d' : ℕ) → d' ≤ d → length (cells f d d' (height f d)) + P f d' ≡ P f d
  cells_fall d d' l =
      let h = height f d in
      let b = length-cells d d' h in
      let e = sum_less (λ k. level f k d) (λ k. kept f k d') h (λ k i. kept_le d d' k l) in
      let k = sum_kept d' h (height_mono f two d' d l) in
      omega (arith, sum_levels d)

-- ---- the blocks in them

module _ (s : Shape) (two : 2 ≤ fan s) (c : List ℕ) (top d : ℕ) where
  -- the blocks given back are as many as P falls by
  pub length-surplus : (d' : ℕ) → d' ≤ d → length (surplus c s top d d') + P (fan s) d' ≡ P (fan s) d
  unfolding surplus
  length-surplus d' l = rw (length-map (cells (fan s) d d' (height (fan s) d)) (at c s top (height (fan s) d))) (cells_fall (fan s) two d d' l)

  pub length-pyramid : length (pyramid c s top d) ≡ P (fan s) d
  length-pyramid = omega (arith, length-surplus 0 (omega arith), P-low (fan s) two 0 (omega arith))

-- ---- sorted, they are as many

length-pick : (t : Bool) (m : ℕ) (xs : List ℕ) → length (pick t (m ∷ xs) xs) ≡ pick t 1 0 + length xs
length-pick true m xs = omega arith
length-pick false m xs = omega arith

module _ (x : ℕ) (bs : List ℕ) where
  -- x is none of the places, and makes no difference
  pub rising_out : (n m : ℕ) → (m ≤ x → x < m + n → ⊥) → length (rising n m (x ∷ bs)) ≡ length (rising n m bs)
  unfolding rising holds
  rising_out zero m o = refl
  rising_out (suc n) m o =
      rw (
        eqb_no {a = m} {b = x} (λ e. o (omega arith) (omega arith)),
        length-pick (holds m bs) m (rising n (suc m) (x ∷ bs)),
        length-pick (holds m bs) m (rising n (suc m) bs),
        rising_out n (suc m) (λ p q. o (omega arith) (omega arith)),
      )

  -- x is one of them, and new
  pub rising-one : (n m : ℕ) → (In x bs → ⊥) → m ≤ x → x < m + n → length (rising n m (x ∷ bs)) ≡ suc (length (rising n m bs))
  unfolding rising holds
  rising-one zero m o p q = absurd (omega arith)
  rising-one (suc n) m o p q = elim (ℕ_discrete m x) [
    | yes e ↦ rw (eqb_yes e, is_false (holds m bs) (λ t. o (rw (← e) (holds_read m bs t)))) (ap suc (rising_out n (suc m) (omega arith)))
    | no u ↦ rw (eqb_no u, length-pick (holds m bs) m (rising n (suc m) (x ∷ bs)), length-pick (holds m bs) m (rising n (suc m) bs))
        (omega (arith, rising-one n (suc m) o (omega arith) (omega arith)))
  ]

pub rising_none : (n m : ℕ) → length (rising n m []) ≡ 0
unfolding rising holds
rising_none zero m = refl
rising_none (suc n) m = rising_none n (suc m)

pub rising-few : (n m : ℕ) (xs : List ℕ) → length (rising n m xs) ≤ n
unfolding rising
rising-few zero m xs = omega arith
rising-few (suc n) m xs = go (holds m xs) (rising n (suc m) xs) (rising-few n (suc m) xs)
  where
    go : (t : Bool) (r : List ℕ) → length r ≤ n → length (pick t (m ∷ r) r) ≤ suc n
    go true r h = omega arith
    go false r h = omega arith

pub length-rising : (n : ℕ) (bs : List ℕ) → Distinct bs → ((b : ℕ) → In b bs → b < n) → length (rising n 0 bs) ≡ length bs
length-rising n [] d l = rising_none n 0
length-rising n (x ∷ bs) d l =
    rising-one x bs n 0 d.0 (omega arith) (omega (arith, l x (inl refl))) ∙ ap suc (length-rising n bs d.1 (λ b i. l b (inr i)))
