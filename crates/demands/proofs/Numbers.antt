-- Lists of tests: when two of them give the same number, and what a call that is not refused has passed.
use mathlib.Core.Path.{◌≡◌, refl, sym, ap, ◌∙◌}
use mathlib.Core.Logic.{◌≢◌}
use mathlib.Core.Bool.{Bool, true, false, not}
use mathlib.Core.List.{List, [], ◌∷◌}
use Prim.Native.Nat.{ℕ}
use native.Mathlib.Decide.{ℕ_discrete}
use native.Mathlib.Omega.{arith}
use lib.Dec.{T, eqb}
use Rattle.layout.specs.Bytes.{pick}
use Rattle.layout.specs.Sound.{broken}
use Rattle.layout.specs.Answers.{Outcome}
use Rattle.layout.specs.Calls.{Test, first_no, unless, damaged}
use Rattle.laws.proofs.Picks.{eqb_yes, eqb_no}
use Rattle.laws.proofs.Tests.{Is, is_eqb}
use Rattle.laws.proofs.State.{Whole}
use Rattle.laws.proofs.Soundness.{sound, whole}
use Rattle.demands.specs.Plain.{Plain, Plainly, or_no}

-- ---- two lists, test by test

-- the same answers, as long as no test is met
pub data Alike : List Test → List Test → Type 0 where
  nothing : Alike [] []
  test : {b b' : Bool} {n : ℕ} {x y : List Test} → b ≡ b' → (b ≡ false → Alike x y) → Alike ((b, n) ∷ x) ((b', n) ∷ y)

pub alike_no : {x y : List Test} → Alike x y → first_no x ≡ first_no y
unfolding first_no
alike_no nothing = refl
alike_no (test {b} {b'} {n} {x} {y} e r) = ap (λ (a : Bool). pick a n (first_no x)) e ∙ go b' (λ u. alike_no (r (e ∙ u)))
  where
    go : (a : Bool) → (a ≡ false → first_no x ≡ first_no y) → pick a n (first_no x) ≡ pick a n (first_no y)
    go true f = refl
    go false f = f refl

-- ---- the number of a call is that of its tests

-- o where the number n is 0, else r, whose number is n: so it is on a card, and on a plain list
module _ {A : Type 0} (number : A → ℕ) (n : ℕ) (o r : A) (own : number r ≡ n) where
  chosen_number : number o ≡ 0 → number (pick (eqb n 0) o r) ≡ n
  chosen_number z = elim (ℕ_discrete n 0) [ yes e ↦ rw (eqb_yes e) (z ∙ sym e) | no u ↦ rw (eqb_no u) own ]

  chosen : number (pick (eqb n 0) o r) ≡ 0 → (n ≡ 0) × (pick (eqb n 0) o r ≡ o)
  chosen z = elim (ℕ_discrete n 0) [ yes e ↦ (e, rw (eqb_yes e)) | no u ↦ absurd (u (sym own ∙ (rw (eqb_no u) at z))) ]

module _ (tests : List Test) where
  pub number_is : (c t : List ℕ) (o : Outcome) → o.number ≡ 0 → (unless tests c t o).number ≡ first_no tests
  number_is c t o = chosen_number (λ (o : Outcome). o.number) (first_no tests) o _ refl

  pub plain-number_is : (p : Plain) (t : List ℕ) (q : Plainly) → q.number ≡ 0 → (or_no tests p t q).number ≡ first_no tests
  plain-number_is p t q = chosen_number (λ (q : Plainly). q.number) (first_no tests) q _ refl

  -- a call that is not refused does what it does
  pub accepted : (c t : List ℕ) (o : Outcome) → (unless tests c t o).number ≡ 0 → (first_no tests ≡ 0) × (unless tests c t o ≡ o)
  accepted c t o = chosen (λ (o : Outcome). o.number) (first_no tests) o _ refl

  pub plain_accepted : (p : Plain) (t : List ℕ) (q : Plainly) → (or_no tests p t q).number ≡ 0 → or_no tests p t q ≡ q
  plain_accepted p t q z = (chosen (λ (q : Plainly). q.number) (first_no tests) q _ refl z).1

-- on a whole card no call is refused for damage
pub not_damaged : (c : List ℕ) → Whole c → (tests : List Test) → first_no (damaged c ∷ tests) ≡ first_no tests
unfolding first_no
not_damaged c w tests = rw (eqb_yes (whole c w))

-- ---- what a call that is not refused has passed

abbrev Passed : List Test → Type 0
Passed [] = Unit
Passed ((b, n) ∷ more) = (b ≡ false) × Passed more

-- no test has the number 0
abbrev sure : List Test → Bool
sure [] = true
sure ((b, n) ∷ more) = pick (eqb n 0) false (sure more)

pub passed : (tests : List Test) → T (sure tests) → first_no tests ≡ 0 → Passed tests
unfolding first_no
passed [] s e = tt
passed ((b, n) ∷ more) s e = elim (ℕ_discrete n 0) [
  | yes z ↦ absurd (rw (eqb_yes z) at s)
  | no z ↦ go b e (passed more (rw (eqb_no z) at s)) z
]
  where
    go : (b : Bool) → pick b n (first_no more) ≡ 0 → (first_no more ≡ 0 → Passed more) → n ≢ 0 → (b ≡ false) × Passed more
    go true e f z = absurd (z e)
    go false e f z = (refl, f e)

-- a test that failed, and a test that had to hold
pub fails : {b : Bool} {A : Type 0} → Is b A → b ≡ false → A → ⊥
fails i e a = rw e at (i.back a)

pub holds : {b : Bool} {A : Type 0} → Is b A → not b ≡ false → A
holds {b} {A} i e = go b i e
  where
    go : (b : Bool) → Is b A → not b ≡ false → A
    go true i e = i.out tt
    go false i e = let z : ◌≡◌ {A = ℕ} 0 1 = cc in absurd (omega arith)

-- it began with a whole card
pub was_whole : (c : List ℕ) → not (eqb (broken c) 0) ≡ false → Whole c
was_whole c e = sound c (holds (is_eqb (broken c) 0) e)
