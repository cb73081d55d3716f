-- Of situations with rising numbers, the first that is there is the lowest, and the other way round.
use mathlib.Core.Path.{◌≡◌, refl, sym, ◌∙◌}
use mathlib.Core.Logic.{inl, inr, ◌↔◌}
use mathlib.Core.Bool.{Bool, true, false}
use mathlib.Core.List.{List, [], ◌∷◌, ◌++◌}
use Prim.Native.Nat.{ℕ, ◌≤◌, ◌<◌}
use native.Mathlib.Decide.{ℕ_discrete}
use native.Mathlib.Omega.{arith}
use lib.Dec.{T, eqb}
use Rattle.layout.specs.Bytes.{pick}
use Rattle.layout.specs.Calls.{Test, first_no}
use Rattle.laws.proofs.Picks.{eqb_yes, eqb_no}
use Rattle.demands.specs.Demand2.{Given, Lowest}

-- each number is above the one before, the first above n
abbrev pub Rising : ℕ → List Test → Type 0
Rising n [] = Unit
Rising n ((b, m) ∷ more) = (n < m) × Rising m more

given_above : (n : ℕ) (tests : List Test) → Rising n tests → (m : ℕ) → Given tests m → n < m
given_above n [] r m g = absurd g
given_above n ((b, i) ∷ more) r m (inl g) = omega (arith, g.1, r.0)
given_above n ((b, i) ∷ more) r m (inr g) = omega (arith, r.0, given_above i more r.1 m g)

first_lowest : (n : ℕ) (tests : List Test) → Rising n tests → (m : ℕ) → 1 ≤ m → first_no tests ≡ m → Lowest tests m
unfolding first_no
first_lowest n [] r m o e = absurd (omega arith)
first_lowest n ((true, i) ∷ more) r m o e = (inl (tt, e), lower)
  where
    lower : (m' : ℕ) → m' < m → Given ((true, i) ∷ more) m' → ⊥
    lower m' l (inl g) = omega (arith, g.1)
    lower m' l (inr g) = omega (arith, given_above i more r.1 m' g)
first_lowest n ((false, i) ∷ more) r m o e = rest (first_lowest i more r.1 m o e)
  where
    lower : Lowest more m → (m' : ℕ) → m' < m → Given ((false, i) ∷ more) m' → ⊥
    lower h m' l (inl g) = g.0
    lower h m' l (inr g) = h.1 m' l g

    rest : Lowest more m → Lowest ((false, i) ∷ more) m
    rest h = (inr h.0, lower h)

lowest_first : (n : ℕ) (tests : List Test) → Rising n tests → (m : ℕ) → Given tests m → ((m' : ℕ) → m' < m → Given tests m' → ⊥) → first_no tests ≡ m
unfolding first_no
lowest_first n [] r m g low = absurd g
lowest_first n ((true, i) ∷ more) r m (inl g) low = g.1
lowest_first n ((true, i) ∷ more) r m (inr g) low = absurd (low i (given_above i more r.1 m g) (inl (tt, refl)))
lowest_first n ((false, i) ∷ more) r m (inl g) low = absurd g.0
lowest_first n ((false, i) ∷ more) r m (inr g) low = lowest_first i more r.1 m g (λ m' l h. low m' l (inr h))

-- a number that is the first's is given exactly where it is the lowest
pub exactly : (tests : List Test) → Rising 0 tests → (x : ℕ) → x ≡ first_no tests → (m : ℕ) → 1 ≤ m → (x ≡ m) ↔ Lowest tests m
exactly tests r x e m o = (λ u. first_lowest 0 tests r m o (sym e ∙ u), λ l. e ∙ lowest_first 0 tests r m l.0 l.1)

-- ---- a number that few situations have

-- no situation has the number n
abbrev pub absent : ℕ → List Test → Bool
absent n [] = true
absent n ((b, m) ∷ more) = pick (eqb m n) false (absent n more)

pub never_given : (n : ℕ) (tests : List Test) → T (absent n tests) → Given tests n → ⊥
never_given n [] t g = g
never_given n ((b, m) ∷ more) t (inl g) = rw (eqb_yes g.1) at t
never_given n ((b, m) ∷ more) t (inr g) = elim (ℕ_discrete m n) [
  | yes e ↦ rw (eqb_yes e) at t
  | no u ↦ never_given n more (rw (eqb_no u) at t) g
]

-- the last alone has it
pub last_given : (n : ℕ) (tests : List Test) (b : Bool) → T (absent n tests) → Given (tests ++ ((b, n) ∷ [])) n → T b
last_given n [] b t (inl g) = g.0
last_given n [] b t (inr g) = absurd g
last_given n ((a, m) ∷ more) b t (inl g) = absurd (rw (eqb_yes g.1) at t)
last_given n ((a, m) ∷ more) b t (inr g) = elim (ℕ_discrete m n) [
  | yes e ↦ absurd (rw (eqb_yes e) at t)
  | no u ↦ last_given n more b (rw (eqb_no u) at t) g
]
