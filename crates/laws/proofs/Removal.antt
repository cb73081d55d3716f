-- One taken out of a list.
use mathlib.Core.Path.{◌≡◌, refl, ap}
use mathlib.Core.Logic.{inl, inr}
use mathlib.Core.List.{List, [], ◌∷◌, ◌++◌, map}
use Prim.Native.Nat.{ℕ, zero, suc, ◌<◌}
use native.Mathlib.Omega.{arith}
use lib.ListN.{length, get_or, take, drop}
use Rattle.laws.proofs.Lists.{In, Distinct, in_left, in_right, in_either}

module _ {A : Type 0} where
  pub in_at : (xs : List A) (i : ℕ) (d : A) → i < length xs → In (get_or xs i d) xs
  in_at [] i d h = absurd (omega arith)
  in_at (x ∷ xs) zero d h = inl refl
  in_at (x ∷ xs) (suc i) d h = inr (in_at xs i d (omega arith))

  -- the others stand there with x too
  pub in_more : (w : A) (xs : List A) (x : A) (ys : List A) → In w (xs ++ ys) → In w (xs ++ x ∷ ys)
  in_more w xs x ys i = elim (in_either w xs ys i) [ inl a ↦ in_left w xs (x ∷ ys) a | inr b ↦ in_right w xs (x ∷ ys) (inr b) ]

  -- without x nothing stands twice, and x does not stand there
  pub distinct_remove : (xs : List A) (x : A) (ys : List A) → Distinct (xs ++ x ∷ ys) → Distinct (xs ++ ys) × (In x (xs ++ ys) → ⊥)
  distinct_remove [] x ys d = (d.1, d.0)
  distinct_remove (z ∷ xs) x ys d =
      let r = distinct_remove xs x ys d.1 in
      ((λ i. d.0 (in_more z xs x ys i), r.0), out r.1 (λ e. d.0 (rw (← e) (in_right x xs (x ∷ ys) (inl refl)))))
    where
      out : (In x (xs ++ ys) → ⊥) → (x ≡ z → ⊥) → In x ((z ∷ xs) ++ ys) → ⊥
      out f n (inl e) = n e
      out f n (inr i) = f i

module _ {A B : Type 0} (g : A → B) where
  pub map-take : (i : ℕ) (xs : List A) → map g (take i xs) ≡ take i (map g xs)
  map-take zero xs = refl
  map-take (suc i) [] = refl
  map-take (suc i) (x ∷ xs) = ap {B = List B} (λ l. g x ∷ l) (map-take i xs)

  pub map-drop : (i : ℕ) (xs : List A) → map g (drop i xs) ≡ drop i (map g xs)
  map-drop zero xs = refl
  map-drop (suc i) [] = refl
  map-drop (suc i) (x ∷ xs) = map-drop i xs
