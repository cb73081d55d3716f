-- The loops over levels: one turn of each, and where it ends.
use mathlib.Core.Path.{◌≡◌, refl, sym, ap, ◌∙◌}
use Prim.Native.Nat.{ℕ, zero, suc, ◌+◌, ◌-◌, ◌*◌, ◌/◌, ◌%◌, ◌≤◌, ◌<◌}
use native.Mathlib.Nat.{add-div_right, div-lt_iff_lt-mul, mul-le-mul_left, mul-le-mul_right}
use native.Mathlib.Numerals.{add-one}
use native.Mathlib.Decide.{ℕ_discrete}
use native.Mathlib.Omega.{arith}
use borrow.Author.Tests.{eq-eqb, ne_eqb}
use Rattle.layout.specs.Pyramid.{up, level, above, missing}

-- ---- rounding up

pub up_pos : (f n : ℕ) → 0 < f → 1 ≤ n → (n - 1) / f + 1 ≡ up f n
up_pos f n h k = let e : n + (f - 1) ≡ (n - 1) + f = omega arith in rw e (sym (add-div_right (n - 1) h))

grow4 : (f m : ℕ) → 4 ≤ f → 1 ≤ m → m + m + 1 + (f - 1) < (m + 1) * f
grow4 f m h k = omega (arith, mul-le-mul_left {m = 4} {n = f} (m + 1) h, mul-le-mul_right {m = 2} {n = m + 1} f (omega arith))

-- with a fan of 4 a level has at most half the blocks of the one below
pub up_half : (f n : ℕ) → 4 ≤ f → 1 < n → 2 * up f n ≤ n
up_half f n h k =
    let low : up f n < n / 2 + 1 = (div-lt_iff_lt-mul {k = f} {x = n + (f - 1)} {y = n / 2 + 1} (omega arith)).1 (omega (arith, grow4 f (n / 2) h (omega arith))) in
    omega arith

-- ---- levels

pub level-step : (f k d n : ℕ) → n ≡ level f k d → up f n ≡ level f (k + 1) d
unfolding level
level-step f k d n e = rw (add-one k, e)

pub level-zero : (f d : ℕ) → d ≡ level f 0 d
unfolding level
level-zero f d = refl

pub above_step : (f k j n : ℕ) → n ≡ above f k j → n / f ≡ above f (k + 1) j
unfolding above
above_step f k j n e = rw (add-one k, e)

pub above_zero : (f j : ℕ) → j ≡ above f 0 j
unfolding above
above_zero f j = refl

-- ---- the stem

-- m - 1 levels up from the data block d is the first below its block; i and q are its slot and its block one level further up
pub record Climbing (f h d m i q : ℕ) : Type 0 where
  pub some : 1 ≤ m
  pub within : m ≤ h
  pub slot : i ≡ above f (m - 1) d % f
  pub block : q ≡ above f m d
  pub first : (m - 1) + missing f (h - (m - 1)) (above f (m - 1) d) ≡ missing f h d

pub climb-start : (f h d : ℕ) → 0 < h → Climbing f h d 1 (d % f) (d / f)
unfolding above
climb-start f h d p = record { some = omega arith; within = p; slot = refl; block = refl; first = let e : h - (1 - 1) ≡ h = omega arith in rw e (omega arith) }

missing-first : (f k x : ℕ) → x % f ≡ 0 → missing f (suc k) x ≡ suc (missing f k (x / f))
unfolding missing
missing-first f k x e = rw (eq-eqb (x % f) 0 e)

missing_other : (f k x : ℕ) → (x % f ≡ 0 → ⊥) → missing f (suc k) x ≡ 1
unfolding missing
missing_other f k x e = rw (ne_eqb (x % f) 0 e)

-- one level up
pub climb-next : (f h d m i q : ℕ) → Climbing f h d m i q → m < h → i ≡ 0 → Climbing f h d (m + 1) (q % f) (q / f)
unfolding above
climb-next f h d zero i q c l z = absurd (omega (arith, c.some))
climb-next f h d (suc a) i q c l z =
    let e₁ : suc a - 1 ≡ a = omega arith in
    let e₂ : suc a + 1 - 1 ≡ suc a = omega arith in
    let e₃ : h - a ≡ suc (h - suc a) = omega arith in
    let e₄ : suc a + 1 ≡ suc (suc a) = omega arith in
    let x = above f a d in
    let zero-slot : x % f ≡ 0 = sym (rw e₁ at c.slot) ∙ z in
    let was : a + missing f (h - a) x ≡ missing f h d = rw e₁ at c.first in
    let more : missing f (h - a) x ≡ suc (missing f (h - suc a) (x / f)) = rw e₃ (missing-first f (h - suc a) x zero-slot) in
    record {
      some = omega arith;
      within = omega arith;
      slot = rw e₂ (ap (λ (y : ℕ). y % f) c.block);
      block = rw e₄ (ap (λ (y : ℕ). y / f) c.block);
      first = rw e₂ (omega arith);
    }

-- where it ends: a slot that is not the first, or the top
pub climb_stop : (f h d m i q : ℕ) → Climbing f h d m i q → ((i ≡ 0) → h ≤ m) → (m ≡ missing f h d) × (q ≡ above f (missing f h d) d) × (i ≡ above f (missing f h d - 1) d % f)
unfolding above missing
climb_stop f h d zero i q c l = absurd (omega (arith, c.some))
climb_stop f h d (suc a) i q c l =
    let e₁ : suc a - 1 ≡ a = omega arith in
    let e₃ : h - a ≡ suc (h - suc a) = omega (arith, c.within) in
    let x = above f a d in
    let was : a + missing f (h - a) x ≡ missing f h d = rw e₁ at c.first in
    let slot_is : i ≡ x % f = rw e₁ at c.slot in
    let one : missing f (h - a) x ≡ 1 = elim (ℕ_discrete (x % f) 0) [
      | yes z ↦ (let e : h - suc a ≡ 0 = omega (arith, l (slot_is ∙ z)) in rw (e₃, missing-first f (h - suc a) x z, e))
      | no n ↦ rw e₃ (missing_other f (h - suc a) x n)
    ] in
    let m-is : suc a ≡ missing f h d = omega arith in
    (m-is, rw (← m-is) c.block, rw (← m-is, e₁) slot_is)
