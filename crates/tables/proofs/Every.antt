-- Tests of all: of a list, and of the numbers from k on, as std tests them.
use mathlib.Core.Path.{◌≡◌, refl}
use mathlib.Core.Bool.{Bool, true, false, ◌&&◌}
use mathlib.Core.List.{List, [], ◌∷◌}
use mathlib.Core.Logic.{inl, inr}
use Prim.Native.Nat.{ℕ, zero, suc, ◌+◌}
use Rattle.std.specs.List.{list_all, range_with_len}
use Rattle.layout.specs.Bytes.{both, run, all_b}
use Rattle.laws.proofs.Lists.{In}
use Rattle.laws.proofs.Tests.{Is, is_both}

-- a test of all of a list, by what it says of those that stand there
pub is_all_in : {A : Type 0} (p : A → Bool) (Q : A → Type 0) (xs : List A) → ((x : A) → In x xs → Is (p x) (Q x)) → Is (all_b p xs) ((x : A) → In x xs → Q x)
unfolding all_b
is_all_in p Q [] h = record { out = λ t x i. absurd i; back = λ f. tt }
is_all_in {A} p Q (y ∷ xs) h =
    let r = is_both (h y (inl refl)) (is_all_in p Q xs (λ x i. h x (inr i))) in
    record { out = λ t. each (r.out t).0 (r.out t).1; back = λ f. r.back (f y (inl refl), λ x i. f x (inr i)) }
  where
    each : Q y → ((x : A) → In x xs → Q x) → (x : A) → In x (y ∷ xs) → Q x
    each a f x (inl e) = rw e a
    each a f x (inr i) = f x i

-- ---- the numbers from k on

-- std's test of all of a range is the definition's
pub every_is : (p : ℕ → Bool) (k n : ℕ) → list_all p (range_with_len k n) ≡ all_b p (run k n)
unfolding all_b run
every_is p k zero = refl
every_is p k (suc n) = rw (every_is p (k + 1) n) (by (p k) (all_b p (run (k + 1) n)))
  where
    by : (a b : Bool) → (a && b) ≡ both a b
    by true b = refl
    by false b = refl
