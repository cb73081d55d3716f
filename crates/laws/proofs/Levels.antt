-- The laws of levels, heights and P, for any f of at least 2.
use mathlib.Core.Path.{◌≡◌, refl, sym, ap, ◌∙◌}
use mathlib.Core.Logic.{◌≢◌, ◌⊎◌, inl, inr}
use Prim.Native.Nat.{ℕ, zero, suc, ◌+◌, ◌-◌, ◌*◌, ◌/◌, ◌%◌, ◌≤◌, ◌<◌}
use native.Mathlib.Nat.{zero-add, suc-add, mod-lt, div-add-mod', div-lt_self, div-lt_iff_lt-mul, zero-div, eq-zero-or-pos, div-eq_of_lt, mod-eq_of_lt, le-div_iff_mul-le, div-mul-le_self}
use native.Mathlib.Decide.{ℕ_discrete, dec_le, dec_lt}
use native.Mathlib.Omega.{arith}
use lib.Arith.{digits_div, digits_mod}
use Rattle.laws.proofs.Picks.{leb_yes, leb_no, eqb_yes, eqb_no}
use Rattle.layout.specs.Pyramid.{up, level, above, climb, height, P, missing}

pub div_is : {a f q r : ℕ} → a ≡ q * f + r → r < f → a / f ≡ q
div_is {a} {f} {q} {r} e h = rw e (digits_div q h)

pub mod_is : {a f r : ℕ} (q : ℕ) → a ≡ q * f + r → r < f → a % f ≡ r
mod_is {a} {f} {r} q e h = rw e (digits_mod q h)

module _ (f : ℕ) (two : 2 ≤ f) where
  pub up_suc : (q : ℕ) → up f (suc q) ≡ suc (q / f)
  up_suc q = let m : q % f < f = mod-lt q (omega arith) in div_is {r = q % f} (omega (arith, div-add-mod' q f)) m

  pub up-zero : up f 0 ≡ 0
  up-zero = div_is {r = f - 1} (omega arith) (omega arith)

  pub up-whole : (d : ℕ) → d % f ≡ 0 → up f d ≡ d / f
  up-whole d e = div_is {r = f - 1} (omega (arith, div-add-mod' d f)) (omega arith)

  pub up_part : (d : ℕ) → d % f ≢ 0 → up f d ≡ suc (d / f)
  up_part d n = let m : d % f < f = mod-lt d (omega arith) in div_is {r = d % f - 1} (omega (arith, div-add-mod' d f)) (omega arith)

  pub up_less : (d : ℕ) → 1 < d → up f d < d
  up_less zero h = omega arith
  up_less (suc q) h = rw (up_suc q) (omega (arith, div-lt_self {n = q} {k = f} (omega arith) (omega arith)))

  pub up_one : (d : ℕ) → 1 ≤ d → 1 ≤ up f d
  up_one zero h = omega arith
  up_one (suc q) h = rw (up_suc q) (omega arith)

  pub up_covers : (n : ℕ) → n ≤ up f n * f
  up_covers zero = omega arith
  up_covers (suc q) = let m : q % f < f = mod-lt q (omega arith) in rw (up_suc q) (omega (arith, div-add-mod' q f))

  pub up-holds : (n j : ℕ) → j < n → j / f < up f n
  up-holds n j h = (div-lt_iff_lt-mul {k = f} (omega arith)).1 (omega (arith, up_covers n))

  -- ---- levels

  pub level-up : (k d : ℕ) → level f (suc k) d ≡ level f k (up f d)
  unfolding level
  level-up zero d = refl
  level-up (suc k) d = ap (up f) (level-up k d)

  pub above-div : (k j : ℕ) → above f (suc k) j ≡ above f k (j / f)
  unfolding above
  above-div zero j = refl
  above-div (suc k) j = ap (λ (x : ℕ). x / f) (above-div k j)

  pub level-suc : (k d : ℕ) → level f k (suc d) ≡ suc (above f k d)
  unfolding level above
  level-suc zero d = refl
  level-suc (suc k) d = ap (up f) (level-suc k d) ∙ up_suc (above f k d)

  pub level_holds : (k d j : ℕ) → j < level f k d → j / f < level f (suc k) d
  unfolding level
  level_holds k d j h = up-holds (level f k d) j h

  -- ---- climbing: how much fuel there is does not matter

  module _ (last : ℕ → ℕ) (more : ℕ → ℕ → ℕ) where
    climb_fuel : (g g' n : ℕ) → n ≤ g → n ≤ g' → climb last more g f n ≡ climb last more g' f n
    unfolding climb
    climb_fuel zero zero n h h' = refl
    climb_fuel zero (suc g') n h h' = rw (leb_yes {a = n} {b = 1} (omega arith))
    climb_fuel (suc g) zero n h h' = rw (leb_yes {a = n} {b = 1} (omega arith))
    climb_fuel (suc g) (suc g') n h h' = elim (dec_le n 1) [
      | yes p ↦ rw (leb_yes p)
      | no p ↦ let u : up f n < n = up_less n (omega arith) in
          rw (leb_no {a = n} {b = 1} (omega arith), climb_fuel g g' (up f n) (omega arith) (omega arith))
    ]

    climb-low : (d : ℕ) → d ≤ 1 → climb last more d f d ≡ last d
    unfolding climb
    climb-low zero h = refl
    climb-low (suc d) h = rw (leb_yes h)

    climb-high : (d : ℕ) → 1 < d → climb last more d f d ≡ more d (climb last more (up f d) f (up f d))
    unfolding climb
    climb-high zero h = omega arith
    climb-high (suc d) h =
        let u : up f (suc d) < suc d = up_less (suc d) h in
        rw (leb_no h, climb_fuel d (up f (suc d)) (up f (suc d)) (omega arith) (omega arith))

  pub height-low : (d : ℕ) → d ≤ 1 → height f d ≡ 0
  unfolding height
  height-low d h = climb-low (λ n. 0) (λ n r. suc r) d h

  pub height-high : (d : ℕ) → 1 < d → height f d ≡ suc (height f (up f d))
  unfolding height
  height-high d h = climb-high (λ n. 0) (λ n r. suc r) d h

  pub P-low : (d : ℕ) → d ≤ 1 → P f d ≡ d
  unfolding P
  P-low d h = climb-low (λ n. n) (λ n r. n + r) d h

  pub P-high : (d : ℕ) → 1 < d → P f d ≡ d + P f (up f d)
  unfolding P
  P-high d h = climb-high (λ n. n) (λ n r. n + r) d h

  -- what holds up to one block, and of d where it does of the level above d, holds of all
  pub upward : (Q : ℕ → Type 0) → ((d : ℕ) → d ≤ 1 → Q d) → ((d : ℕ) → 1 < d → Q (up f d) → Q d) → (d : ℕ) → Q d
  upward Q low high d = go d d (omega arith)
    where
      go : (g d : ℕ) → d ≤ g → Q d
      go zero d h = low d (omega arith)
      go (suc g) d h = elim (dec_le d 1) [
        | yes p ↦ low d p
        | no p ↦ high d (omega arith) (go g (up f d) (omega (arith, up_less d (omega arith))))
      ]

  pub one-top : (d : ℕ) → 1 ≤ d → level f (height f d) d ≡ 1
  unfolding level
  one-top = upward (λ d. 1 ≤ d → level f (height f d) d ≡ 1)
      (λ d h p. rw (height-low d h) (omega arith))
      (λ d h r p. rw (height-high d h, level-up) (r (up_one d p)))

  -- ---- one data block more

  pub height-suc : (d : ℕ) → 1 ≤ d → height f (suc d) ≡ suc (height f (suc (d / f)))
  height-suc d p = rw (height-high (suc d) (omega arith), up_suc d)

  pub P-suc : (d : ℕ) → 1 ≤ d → P f (suc d) ≡ suc d + P f (suc (d / f))
  P-suc d p = rw (P-high (suc d) (omega arith), up_suc d)

  -- d, where its step upward is whole or not
  missing-whole : (k d : ℕ) → d % f ≡ 0 → missing f (suc k) d ≡ suc (missing f k (d / f))
  unfolding missing
  missing-whole k d e = rw (eqb_yes e)

  missing_part : (k d : ℕ) → d % f ≢ 0 → missing f (suc k) d ≡ 1
  unfolding missing
  missing_part k d n = rw (eqb_no n)

  -- what holds of d = 1, of d where it does of d / f and this is whole, and of each other d, holds of all
  pub downward : (Q : ℕ → Type 0) → Q 1 → ((d : ℕ) → 1 < d → d % f ≡ 0 → 1 ≤ d / f → Q (d / f) → Q d) → ((d : ℕ) → 1 < d → d % f ≢ 0 → Q d) → (d : ℕ) → 1 ≤ d → Q d
  downward Q one whole part d p = go d d (omega arith) p
    where
      some : (d : ℕ) → 1 ≤ d → d % f ≡ 0 → 1 ≤ d / f
      some d p e = elim (eq-zero-or-pos (d / f)) [ inl z ↦ omega (arith, rw z at (div-add-mod' d f)) | inr q ↦ q ]

      go : (g d : ℕ) → d ≤ g → 1 ≤ d → Q d
      go zero d h p = absurd (omega arith)
      go (suc g) d h p = elim (dec_le d 1) [
        | yes l ↦ (let e : 1 ≡ d = omega arith in rw e at one)
        | no l ↦ elim (ℕ_discrete (d % f) 0) [
          | yes e ↦ whole d (omega arith) e (some d p e) (go g (d / f) (omega (arith, div-lt_self {n = d} {k = f} (omega arith) (omega arith))) (some d p e))
          | no n ↦ part d (omega arith) n
        ]
      ]

  -- the height stays, or it rises by one: then a block is missing in each level below the top, and d fill the old height
  pub data Next (d : ℕ) : Type 0 where
    stays : height f (suc d) ≡ height f d → Next d
    rises : height f (suc d) ≡ suc (height f d) → missing f (height f (suc d)) d ≡ height f (suc d) → above f (height f d) d ≡ 1 → Next d

  one-next : height f 2 ≡ 1
  one-next = rw (height-suc 1 (omega arith), div-eq_of_lt {n = 1} {m = f} (omega arith), height-low 1 (omega arith))

  one_part : 1 % f ≢ 0
  one_part e = omega (arith, mod-eq_of_lt {n = 1} {m = f} (omega arith))

  height-one : height f 1 ≡ 0
  height-one = height-low 1 (omega arith)

  whole-height : (d : ℕ) → 1 < d → d % f ≡ 0 → height f d ≡ suc (height f (d / f))
  whole-height d h e = rw (height-high d h, up-whole d e)

  part_height : (d : ℕ) → 1 < d → d % f ≢ 0 → height f d ≡ height f (suc d)
  part_height d h n = rw (height-suc d (omega arith), height-high d h, up_part d n)

  -- what is missing below, with d's step whole
  missing-next : (d : ℕ) → 1 < d → d % f ≡ 0 → missing f (height f (suc d)) d ≡ suc (missing f (height f (suc (d / f))) (d / f))
  missing-next d h e = rw (height-suc d (omega arith)) (missing-whole (height f (suc (d / f))) d e)

  missing-one : (d : ℕ) → 1 ≤ d → d % f ≢ 0 → missing f (height f (suc d)) d ≡ 1
  missing-one d h n = rw (height-suc d h) (missing_part (height f (suc (d / f))) d n)

  pub grows : (d : ℕ) → 1 ≤ d → Next d
  grows = downward Next
      (rises (rw (one-next, height-one)) (rw (missing-one 1 (omega arith) one_part, one-next)) (rw height-one (unfold above in refl)))
      whole
      (λ d h n. stays (sym (part_height d h n)))
    where
      whole : (d : ℕ) → 1 < d → d % f ≡ 0 → 1 ≤ d / f → Next (d / f) → Next d
      whole d h e q (stays a) = stays (rw (height-suc d (omega arith), whole-height d h e, a))
      whole d h e q (rises a b c) =
          rises (rw (height-suc d (omega arith), whole-height d h e, a))
          (missing-next d h e ∙ ap suc b ∙ sym (height-suc d (omega arith)))
          (rw (whole-height d h e, above-div (height f (d / f)) d) c)

  pub P-next : (d : ℕ) → 1 ≤ d → P f (suc d) + height f d ≡ P f d + missing f (height f (suc d)) d + height f (suc d)
  P-next = downward (λ d. P f (suc d) + height f d ≡ P f d + missing f (height f (suc d)) d + height f (suc d))
      (rw (missing-one 1 (omega arith) one_part, one-next, height-one, P-suc 1 (omega arith), div-eq_of_lt {n = 1} {m = f} (omega arith), P-low 1 (omega arith)))
      (λ d h e q r. rw (missing-next d h e, height-suc d (omega arith), whole-height d h e, P-suc d (omega arith), P-high d h, up-whole d e) (omega arith))
      (λ d h n. rw (missing-one d (omega arith) n, part_height d h n, P-suc d (omega arith), P-high d h, up_part d n) (omega arith))

  pub missing_pos : (d : ℕ) → 1 ≤ d → 1 ≤ missing f (height f (suc d)) d
  missing_pos = downward (λ d. 1 ≤ missing f (height f (suc d)) d)
      (rw (missing-one 1 (omega arith) one_part) (omega arith))
      (λ d h e q r. rw (missing-next d h e) (omega arith))
      (λ d h n. rw (missing-one d (omega arith) n) (omega arith))

  pub P-rises : (d : ℕ) → P f d < P f (suc d)
  P-rises zero = rw (P-low 1 (omega arith), P-low 0 (omega arith)) (omega arith)
  P-rises (suc d) = go (grows (suc d) (omega arith))
    where
      go : Next (suc d) → P f (suc d) < P f (suc (suc d))
      go (stays a) = omega (arith, P-next (suc d) (omega arith), missing_pos (suc d) (omega arith))
      go (rises a b c) = omega (arith, P-next (suc d) (omega arith), missing_pos (suc d) (omega arith))

  pub P-mono : (a b : ℕ) → a ≤ b → P f a ≤ P f b
  P-mono a zero h = rw (let e : a ≡ 0 = omega arith in e) (omega arith)
  P-mono a (suc b) h = elim (dec_le a b) [
    | yes l ↦ omega (arith, P-mono a b l, P-rises b)
    | no l ↦ (let e : a ≡ suc b = omega arith in rw e (omega arith))
  ]

  -- ---- the levels where a block is missing, and the others

  pub missing_le : (K d : ℕ) → missing f K d ≤ K
  unfolding missing
  missing_le zero d = omega arith
  missing_le (suc K) d = elim (ℕ_discrete (d % f) 0) [
    | yes e ↦ rw (eqb_yes e) (omega (arith, missing_le K (d / f)))
    | no n ↦ rw (eqb_no n) (omega arith)
  ]

  -- below, data block d would be in the first block that there is not
  pub missing-level : (K k d : ℕ) → k < missing f K d → level f k d ≡ above f k d
  unfolding level above missing
  missing-level zero k d h = absurd (omega arith)
  missing-level (suc K) zero d h = refl
  missing-level (suc K) (suc k) d h = elim (ℕ_discrete (d % f) 0) [
    | yes e ↦ level-up k d ∙ rw (up-whole d e) (missing-level K k (d / f) (omega (arith, rw (eqb_yes e) at h))) ∙ sym (above-div k d)
    | no n ↦ absurd (omega (arith, rw (eqb_no n) at h))
  ]

  -- above, in the last that there is
  pub present_level : (K k d : ℕ) → missing f K d ≤ k → k < K → level f k d ≡ suc (above f k d)
  unfolding level above missing
  present_level zero k d h l = absurd (omega arith)
  present_level (suc K) zero d h l = elim (ℕ_discrete (d % f) 0) [
    | yes e ↦ absurd (omega (arith, rw (eqb_yes e) at h))
    | no n ↦ absurd (omega (arith, rw (eqb_no n) at h))
  ]
  present_level (suc K) (suc k) d h l = elim (ℕ_discrete (d % f) 0) [
    | yes e ↦ level-up k d ∙ rw (up-whole d e) (present_level K k (d / f) (omega (arith, rw (eqb_yes e) at h)) (omega arith)) ∙ ap suc (sym (above-div k d))
    | no n ↦ level-up k d ∙ rw (up_part d n) (level-suc k (d / f)) ∙ ap suc (sym (above-div k d))
  ]

  -- a missing block below another is its first
  pub missing-slot : (K k d : ℕ) → suc k < missing f K d → above f k d % f ≡ 0
  unfolding above missing
  missing-slot zero k d h = absurd (omega arith)
  missing-slot (suc K) zero d h = elim (ℕ_discrete (d % f) 0) [
    | yes e ↦ e
    | no n ↦ absurd (omega (arith, rw (eqb_no n) at h))
  ]
  missing-slot (suc K) (suc k) d h = elim (ℕ_discrete (d % f) 0) [
    | yes e ↦ rw (above-div k d) (missing-slot K k (d / f) (omega (arith, rw (eqb_yes e) at h)))
    | no n ↦ absurd (omega (arith, rw (eqb_no n) at h))
  ]

  -- d lies below the one top that d + 1 blocks have
  pub above-top : (d : ℕ) → above f (height f (suc d)) d ≡ 0
  above-top d = let e = level-suc (height f (suc d)) d in omega (arith, one-top (suc d) (omega arith))

  pub above-level : (e k d j : ℕ) → j < level f k d → above f e j < level f (e + k) d
  unfolding above
  above-level zero k d j h = rw zero-add h
  above-level (suc e) k d j h = rw (suc-add e k) (level_holds (e + k) d (above f e j) (above-level e k d j h))

  -- one more level above one block has one block
  pub one_more : (k d : ℕ) → level f k d ≡ 1 → level f (suc k) d ≡ 1
  unfolding level
  one_more k d e = rw (e, up_suc 0, zero-div f)

  -- a cell of d + 1 data blocks is one of d's, or lies above data block d in one of the n levels that have a block more
  abbrev Cut : ℕ → ℕ → ℕ → ℕ → Type 0
  Cut d k j n = ((k ≤ height f d) × (j < level f k d)) ⊎ ((j ≡ above f k d) × (k < n))

  stays_cut : (d k j n : ℕ) → 1 ≤ d → height f (suc d) ≡ height f d → n ≡ missing f (height f (suc d)) d → k ≤ height f (suc d) → j < suc (above f k d) → Cut d k j n
  stays_cut d k j n o e m l h = elim (dec_lt j (level f k d)) [
    | yes a ↦ inl (omega arith, a)
    | no b ↦ elim (dec_lt k n) [
      | yes q ↦ inr (omega (arith, missing-level (height f (suc d)) k d (omega arith)), q)
      | no q ↦ elim (dec_lt k (height f (suc d))) [
        | yes r ↦ absurd (omega (arith, present_level (height f (suc d)) k d (omega arith) r))
        | no r ↦ (let t : k ≡ height f (suc d) = omega arith in absurd (omega (arith, rw (t, e) at b, one-top d o, rw t at h, above-top d)))
      ]
    ]
  ]

  rises_cut : (d k j n : ℕ) → height f (suc d) ≡ suc (height f d) → missing f (height f (suc d)) d ≡ height f (suc d) → n ≡ suc (height f (suc d)) → k ≤ height f (suc d) → j < suc (above f k d) → Cut d k j n
  rises_cut d k j n e m t l h = elim (dec_le k (height f d)) [
    | yes a ↦ elim (dec_lt j (level f k d)) [
      | yes b ↦ inl (a, b)
      | no b ↦ inr (omega (arith, missing-level (height f (suc d)) k d (omega arith)), omega arith)
    ]
    | no a ↦ (let q : k ≡ height f (suc d) = omega arith in let z : above f k d ≡ 0 = rw q (above-top d) in inr (omega arith, omega arith))
  ]

  pub split : (d k j n : ℕ) → P f (suc d) ≡ P f d + n → k ≤ height f (suc d) → j < level f k (suc d) → ((k ≤ height f d) × (j < level f k d)) ⊎ ((j ≡ above f k d) × (k < n))
  unfolding level above
  split zero k j n p l h =
      let z : k ≡ 0 = omega (arith, height-one) in
      inr (rw z (omega (arith, rw z at h)), omega (arith, P-low 0 (omega arith), P-low 1 (omega arith)))
  split (suc d) k j n p l h = go (grows (suc d) (omega arith))
    where
      go : Next (suc d) → Cut (suc d) k j n
      go (stays a) = stays_cut (suc d) k j n (omega arith) a (omega (arith, P-next (suc d) (omega arith))) l (rw (level-suc k (suc d)) at h)
      go (rises a b c) = rises_cut (suc d) k j n a b (omega (arith, P-next (suc d) (omega arith))) l (rw (level-suc k (suc d)) at h)

  -- ---- fewer data blocks

  pub level_mono : (k a b : ℕ) → a ≤ b → level f k a ≤ level f k b
  unfolding level
  level_mono zero a b h = h
  level_mono (suc k) a b h =
      let x = level f k a + (f - 1) in
      (le-div_iff_mul-le {k = f} (omega arith)).1 (omega (arith, div-mul-le_self x f, level_mono k a b h))

  height_rises : (d : ℕ) → height f d ≤ height f (suc d)
  height_rises zero = omega (arith, height-low 0 (omega arith))
  height_rises (suc d) = elim (grows (suc d) (omega arith)) [ stays a ↦ omega arith | rises a b c ↦ omega arith ]

  pub height_mono : (a b : ℕ) → a ≤ b → height f a ≤ height f b
  height_mono a zero h = rw (let e : a ≡ 0 = omega arith in e) (omega arith)
  height_mono a (suc b) h = elim (dec_le a b) [
    | yes l ↦ omega (arith, height_mono a b l, height_rises b)
    | no l ↦ (let e : a ≡ suc b = omega arith in rw e (omega arith))
  ]
