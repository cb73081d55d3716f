-- The live and the free descriptors of a table's bytes.
use mathlib.Core.Path.{◌≡◌, refl}
use mathlib.Core.Logic.{◌≢◌, inl, inr}
use mathlib.Core.Bool.{Bool, true, false}
use mathlib.Core.List.{List, [], ◌∷◌}
use Prim.Native.Nat.{ℕ, suc, ◌≤◌, ◌<◌}
use native.Mathlib.Omega.{arith}
use lib.ListN.{length, length-map}
use lib.Dec.{T}
use Rattle.layout.specs.Bytes.{pick, end8, run, those}
use Rattle.layout.specs.Streams.{offset, slots, desc_of, dead, live, lives, frees}
use Rattle.laws.proofs.Lists.{In, Distinct, in_run, run_in, length_run, run-distinct, in_map, map_in, map-distinct}
use Rattle.laws.proofs.Tests.{Is, is_not, is_eqb}

-- ---- those that pass a test

module _ (p : ℕ → Bool) where
  pub those_in : (xs : List ℕ) (x : ℕ) → In x (those p xs) → In x xs × T (p x)
  unfolding those
  those_in [] x i = absurd i
  those_in (y ∷ xs) x i = go (p y) refl i (those_in xs x)
    where
      go : (t : Bool) → p y ≡ t → In x (pick t (y ∷ those p xs) (those p xs)) → (In x (those p xs) → In x xs × T (p x)) → In x (y ∷ xs) × T (p x)
      go true e (inl u) f = (inl u, rw (u, e) tt)
      go true e (inr u) f = (inr (f u).0, (f u).1)
      go false e u f = (inr (f u).0, (f u).1)

  pub in_those : (xs : List ℕ) (x : ℕ) → In x xs → T (p x) → In x (those p xs)
  unfolding those
  in_those [] x x4 t = elim x4 [ ]
  in_those (y ∷ xs) x (inl e) t = rw (← e) (go (p x) t)
    where
      go : (b : Bool) → T b → In x (pick b (x ∷ those p xs) (those p xs))
      go true t = inl refl
      go false t = absurd t
  in_those (y ∷ xs) x (inr i) t = go (p y) (in_those xs x i t)
    where
      go : (b : Bool) → In x (those p xs) → In x (pick b (y ∷ those p xs) (those p xs))
      go true u = inr u
      go false u = u

  pub those-distinct : (xs : List ℕ) → Distinct xs → Distinct (those p xs)
  unfolding those
  those-distinct [] d = tt
  those-distinct (y ∷ xs) d = go (p y) (λ i. d.0 (those_in xs y i).0) (those-distinct xs d.1)
    where
      go : (b : Bool) → (In y (those p xs) → ⊥) → Distinct (those p xs) → Distinct (pick b (y ∷ those p xs) (those p xs))
      go true n e = (n, e)
      go false n e = e

  pub those-few : (xs : List ℕ) → length (those p xs) ≤ length xs
  unfolding those
  those-few [] = omega arith
  those-few (y ∷ xs) = go (p y) (those-few xs)
    where
      go : (b : Bool) → length (those p xs) ≤ length xs → length (pick b (y ∷ those p xs) (those p xs)) ≤ suc (length xs)
      go true h = omega arith
      go false h = omega arith

-- the same answers, the same numbers
pub those_agree : (p p' : ℕ → Bool) (xs : List ℕ) → ((x : ℕ) → In x xs → p' x ≡ p x) → those p' xs ≡ those p xs
unfolding those
those_agree p p' [] e = refl
those_agree p p' (x ∷ xs) e = rw (e x (inl refl), those_agree p p' xs (λ y i. e y (inr i)))

-- ---- descriptors

module _ (t : List ℕ) where
  pub is_dead : (k : ℕ) → Is (dead t k) ((desc_of t k).top ≡ end8)
  unfolding dead
  is_dead k = is_eqb (desc_of t k).top end8

  pub is_live : (k : ℕ) → Is (live t k) ((desc_of t k).top ≢ end8)
  unfolding live
  is_live k = is_not (is_dead k)

  pub lives_in : (k : ℕ) → In k (lives t) → (k < slots t) × ((desc_of t k).top ≢ end8)
  unfolding lives
  lives_in k i = let r = those_in (live t) (run 0 (slots t)) k i in (omega (arith, run_in 0 (slots t) k r.0), (is_live k).out r.1)

  pub in_lives : (k : ℕ) → k < slots t → (desc_of t k).top ≢ end8 → In k (lives t)
  unfolding lives
  in_lives k l n = in_those (live t) (run 0 (slots t)) k (in_run 0 (slots t) k (omega arith) (omega arith)) ((is_live k).back n)

  pub lives-distinct : Distinct (lives t)
  unfolding lives
  lives-distinct = those-distinct (live t) (run 0 (slots t)) (run-distinct 0 (slots t))

  pub frees_in : (o : ℕ) → In o (frees t) → (k : ℕ) × (k < slots t) × ((desc_of t k).top ≡ end8) × (o ≡ offset k)
  unfolding frees
  frees_in o i =
      let m = map_in offset o (those (dead t) (run 0 (slots t))) i in
      let r = those_in (dead t) (run 0 (slots t)) m.0 m.1 in
      (m.0, omega (arith, run_in 0 (slots t) m.0 r.0), (is_dead m.0).out r.1, m.2)

  pub in_frees : (k : ℕ) → k < slots t → (desc_of t k).top ≡ end8 → In (offset k) (frees t)
  unfolding frees
  in_frees k l e = in_map offset k (those (dead t) (run 0 (slots t))) (in_those (dead t) (run 0 (slots t)) k (in_run 0 (slots t) k (omega arith) (omega arith)) ((is_dead k).back e))

  pub frees-distinct : Distinct (frees t)
  unfolding frees
  frees-distinct = map-distinct offset (those (dead t) (run 0 (slots t))) (those-distinct (dead t) (run 0 (slots t)) (run-distinct 0 (slots t))) (λ x y i j e. omega arith)

  pub frees-few : length (frees t) ≤ slots t
  unfolding frees
  frees-few = omega (arith, length-map (those (dead t) (run 0 (slots t))) offset, those-few (dead t) (run 0 (slots t)), length_run 0 (slots t))
