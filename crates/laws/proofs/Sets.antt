-- Lists of numbers with the same elements, each once.
use mathlib.Core.Path.{◌≡◌, refl, ap}
use mathlib.Core.Logic.{◌⊎◌, inl, inr}
use mathlib.Core.Bool.{Bool, true, false}
use mathlib.Core.List.{List, [], ◌∷◌, ◌++◌}
use Prim.Native.Nat.{ℕ, ◌≤◌}
use native.Mathlib.Omega.{arith}
use lib.ListN.{length, length-append}
use Rattle.layout.specs.Bytes.{holds}
use Rattle.layout.specs.Sound.{same_set}
use Rattle.laws.proofs.Lists.{In, Distinct, holds_in, holds_read}
use Rattle.laws.proofs.Joins.{in_split, without}
use Rattle.laws.proofs.Tests.{Is, is_both, is_eqb, is_all, is_holds, is_distinct}

-- the numbers of ys, each once
pub record Same (xs ys : List ℕ) : Type 0 where
  pub once : Distinct xs
  pub many : length xs ≡ length ys
  pub all : (x : ℕ) → In x xs → In x ys

pub distinct_le : {A : Type 0} (xs ys : List A) → Distinct xs → ((x : A) → In x xs → In x ys) → length xs ≤ length ys
distinct_le [] ys d h = omega arith
distinct_le {A} (x ∷ xs) ys d h =
    let r = in_split x ys (h x (inl refl)) in
    let l = length-append r.0 (x ∷ r.1) in
    let l' = length-append r.0 r.1 in
    let n = distinct_le xs (r.0 ++ r.1) d.1 (λ z i. without x z r.0 r.1 (λ e. d.0 (rw (← e) i)) (rw r.2 at (h z (inr i)))) in
    omega (arith, ap length r.2)

pub same_many : {A : Type 0} (xs ys : List A) → Distinct xs → Distinct ys → ((x : A) → In x xs → In x ys) → ((x : A) → In x ys → In x xs) → length xs ≡ length ys
same_many xs ys d e f g = omega (arith, distinct_le xs ys d f, distinct_le ys xs e g)

pub in_dec : (x : ℕ) (xs : List ℕ) → In x xs ⊎ (In x xs → ⊥)
in_dec x xs = go (holds x xs) refl
  where
    go : (t : Bool) → holds x xs ≡ t → In x xs ⊎ (In x xs → ⊥)
    go true e = inl (holds_read x xs (rw e tt))
    go false e = inr (λ i. rw e at (holds_in x xs i))

-- all of ys stand in xs too
pub same_back : (xs ys : List ℕ) → Same xs ys → (y : ℕ) → In y ys → In y xs
same_back xs ys s y i = elim (in_dec y xs) [
  | inl a ↦ a
  | inr n ↦ absurd (omega (arith, s.many, distinct_le (y ∷ xs) ys (n, s.once) both))
]
  where
    both : (x : ℕ) → In x (y ∷ xs) → In x ys
    both x (inl e) = rw e i
    both x (inr j) = s.all x j

pub same_of : (xs ys : List ℕ) → Distinct xs → Distinct ys → ((x : ℕ) → In x xs → In x ys) → ((x : ℕ) → In x ys → In x xs) → Same xs ys
same_of xs ys d e f g = record { once = d; many = same_many xs ys d e f g; all = f }

-- ---- as the rules test it

pub is_same-set : (xs ys : List ℕ) → Is (same_set xs ys) (Same xs ys)
is_same-set xs ys =
    let r = is_both (is_distinct xs) (is_both (is_eqb (length xs) (length ys)) (is_all (λ x. holds x ys) (λ x. In x ys) xs (λ x. is_holds x ys))) in
    record { out = λ t. (let a = r.out t in record { once = a.0; many = a.1.0; all = a.1.1 }); back = λ w. r.back (w.once, (w.many, w.all)) }
