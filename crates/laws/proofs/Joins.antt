-- Lists made of lists: where nothing stands twice, how long they are, and that all numbers stand there.
use mathlib.Core.Path.{◌≡◌, refl, sym, ap, ap₂, ◌∙◌}
use mathlib.Core.Logic.{◌≢◌, inl, inr}
use mathlib.Core.Bool.{Bool, true, false}
use mathlib.Core.List.{List, [], ◌∷◌, ◌++◌, map}
use Prim.Native.Nat.{ℕ, ◌+◌, ◌≤◌, ◌<◌}
use native.Mathlib.Omega.{arith}
use lib.ListN.{length, length-append}
use Rattle.layout.specs.Bytes.{holds, join}
use Rattle.laws.proofs.Lists.{In, Distinct, in_left, in_right, in_either, distinct_left, distinct_right, distinct_apart, distinct-both, holds_read, holds_in}
use Rattle.laws.proofs.Counting.{length-rising, rising-few}

-- ---- a number for each, and their sum

unfoldable pub total : {A : Type 0} → (A → ℕ) → List A → ℕ
total g [] = 0
total g (k ∷ ks) = g k + total g ks

module _ {A : Type 0} where
  pub total_append : (g : A → ℕ) (xs ys : List A) → total g (xs ++ ys) ≡ total g xs + total g ys
  unfolding total
  total_append g [] ys = omega arith
  total_append g (x ∷ xs) ys = omega (arith, total_append g xs ys)

  pub total_agree : (g g' : A → ℕ) (ks : List A) → ((k : A) → In k ks → g' k ≡ g k) → total g' ks ≡ total g ks
  unfolding total
  total_agree g g' [] e = refl
  total_agree g g' (k ∷ ks) e = ap₂ ◌+◌ (e k (inl refl)) (total_agree g g' ks (λ j i. e j (inr i)))

  pub total_has : (g : A → ℕ) (k : A) (ks : List A) → In k ks → g k ≤ total g ks
  unfolding total
  total_has g k [] x' = elim x' [ ]
  total_has g k (x ∷ ks) (inl e) = rw e (omega arith)
  total_has g k (x ∷ ks) (inr i) = omega (arith, total_has g k ks i)

  pub total_insert : (g : A → ℕ) (xs : List A) (x : A) (ys : List A) → total g (xs ++ x ∷ ys) ≡ g x + total g (xs ++ ys)
  unfolding total
  total_insert g [] x ys = refl
  total_insert g (z ∷ xs) x ys = omega (arith, total_insert g xs x ys)

  -- what stands in a list stands between two parts of it
  pub in_split : (x : A) (ys : List A) → In x ys → (us bs : List A) × (ys ≡ us ++ x ∷ bs)
  in_split x [] x'' = elim x'' [ ]
  in_split x (y ∷ ys) (inl e) = ([], ys, rw e)
  in_split x (y ∷ ys) (inr i) = let r = in_split x ys i in (y ∷ r.0, r.1, ap {B = List A} (λ l. y ∷ l) r.2)

  -- and what is not x stands there without x too
  pub without : (x z : A) (us bs : List A) → (z ≡ x → ⊥) → In z (us ++ x ∷ bs) → In z (us ++ bs)
  without x z [] bs n (inl e) = absurd (n e)
  without x z [] bs n (inr i) = i
  without x z (a ∷ us) bs n (inl e) = inl e
  without x z (a ∷ us) bs n (inr i) = inr (without x z us bs n i)

  -- the same elements, each once, the same sum
  pub total_same : (g : A → ℕ) (xs ys : List A) → Distinct xs → length xs ≡ length ys → ((x : A) → In x xs → In x ys) → total g xs ≡ total g ys
  unfolding total
  total_same g [] [] d n all = refl
  total_same g [] (y ∷ ys) d n all = absurd (omega arith)
  total_same g (x ∷ xs) ys d n all =
      let r = in_split x ys (all x (inl refl)) in
      let l = length-append r.0 (x ∷ r.1) in
      let l' = length-append r.0 r.1 in
      rw (r.2, total_insert g r.0 x r.1)
      (ap (λ (t : ℕ). g x + t) (total_same g xs (r.0 ++ r.1) d.1 (omega (arith, ap length r.2))
      (λ z i. without x z r.0 r.1 (λ e. d.0 (rw (← e) i)) (rw r.2 at (all z (inr i))))))

pub total_map : {A B : Type 0} (g : B → ℕ) (h : A → B) (ks : List A) → total g (map h ks) ≡ total (λ k. g (h k)) ks
unfolding total
total_map g h [] = refl
total_map g h (k ∷ ks) = ap (λ (x : ℕ). g (h k) + x) (total_map g h ks)

-- one of them changes
pub total_change : (g g' : ℕ → ℕ) (k : ℕ) (ks : List ℕ) → Distinct ks → In k ks → ((j : ℕ) → In j ks → j ≢ k → g' j ≡ g j)
    → total g' ks + g k ≡ total g ks + g' k
unfolding total
total_change g g' k [] d x3 h = elim x3 [ ]
total_change g g' k (x ∷ ks) d (inl e) h =
    let t = total_agree g g' ks (λ j i. h j (inr i) (λ u. d.0 (rw (← e, ← u) i))) in
    rw e (omega arith)
total_change g g' k (x ∷ ks) d (inr i) h =
    let n : x ≢ k = λ u. d.0 (rw u i) in
    omega (arith, h x (inl refl) n, total_change g g' k ks d.1 i (λ j l. h j (inr l)))

-- ---- a list for each, one after the other

module _ (f : ℕ → List ℕ) where
  pub in_join : (k b : ℕ) (ks : List ℕ) → In k ks → In b (f k) → In b (join f ks)
  unfolding join
  in_join k b [] x'' i = elim x'' [ ]
  in_join k b (x ∷ ks) (inl e) i = in_left b (f x) (join f ks) (rw (← e) i)
  in_join k b (x ∷ ks) (inr h) i = in_right b (f x) (join f ks) (in_join k b ks h i)

  pub join_in : (b : ℕ) (ks : List ℕ) → In b (join f ks) → (k : ℕ) × (In k ks) × (In b (f k))
  unfolding join
  join_in b [] i = absurd i
  join_in b (x ∷ ks) i = elim (in_either b (f x) (join f ks) i) [
    | inl p ↦ (x, inl refl, p)
    | inr q ↦ (let r = join_in b ks q in (r.0, inr r.1, r.2))
  ]

  -- each list has nothing twice, and no two of them share: nothing stands twice in all
  pub distinct-join : (ks : List ℕ) → Distinct ks → ((k : ℕ) → In k ks → Distinct (f k))
      → ((k k' : ℕ) → In k ks → In k' ks → k ≢ k' → (b : ℕ) → In b (f k) → In b (f k') → ⊥) → Distinct (join f ks)
  unfolding join
  distinct-join [] d e a = tt
  distinct-join (x ∷ ks) d e a =
      distinct-both (f x) (join f ks) (e x (inl refl)) (distinct-join ks d.1 (λ k i. e k (inr i)) (λ k k' i i'. a k k' (inr i) (inr i')))
      (λ b p q. let r = join_in b ks q in a x r.0 (inl refl) (inr r.1) (λ u. d.0 (rw u r.1)) b p r.2)

  -- and back
  pub join-distinct : (ks : List ℕ) → Distinct (join f ks) → (k : ℕ) → In k ks → Distinct (f k)
  unfolding join
  join-distinct [] d k x'' = elim x'' [ ]
  join-distinct (x ∷ ks) d k (inl e) = rw e (distinct_left (f x) (join f ks) d)
  join-distinct (x ∷ ks) d k (inr i) = join-distinct ks (distinct_right (f x) (join f ks) d) k i

  pub join_apart : (ks : List ℕ) → Distinct (join f ks) → (k k' : ℕ) → In k ks → In k' ks → k ≢ k' → (b : ℕ) → In b (f k) → In b (f k') → ⊥
  unfolding join
  join_apart [] d k k' x6 _ n b p q = elim x6 [ ]
  join_apart (x ∷ ks) d k k' (inl e) (inl e') n b p q = n (e ∙ sym e')
  join_apart (x ∷ ks) d k k' (inl e) (inr i') n b p q = distinct_apart (f x) (join f ks) d b (rw (← e) p) (in_join k' b ks i' q)
  join_apart (x ∷ ks) d k k' (inr i) (inl e') n b p q = distinct_apart (f x) (join f ks) d b (rw (← e') q) (in_join k b ks i p)
  join_apart (x ∷ ks) d k k' (inr i) (inr i') n b p q = join_apart ks (distinct_right (f x) (join f ks) d) k k' i i' n b p q

  pub length-join : (ks : List ℕ) → length (join f ks) ≡ total (λ k. length (f k)) ks
  unfolding join total
  length-join [] = refl
  length-join (x ∷ ks) = rw (length-append, length-join ks)

  pub join-map : (g : ℕ → ℕ) (ks : List ℕ) → join f (map g ks) ≡ join (λ k. f (g k)) ks
  unfolding join
  join-map g [] = refl
  join-map g (k ∷ ks) = ap (λ (l : List ℕ). f (g k) ++ l) (join-map g ks)

-- ---- all numbers below n

-- n numbers below n, none twice, are all of them
pub all_of : (n : ℕ) (xs : List ℕ) → Distinct xs → ((x : ℕ) → In x xs → x < n) → length xs ≡ n → (b : ℕ) → b < n → In b xs
all_of n xs d low e b h = go (holds b xs) refl
  where
    below : (x : ℕ) → In x (b ∷ xs) → x < n
    below x (inl u) = rw u h
    below x (inr i) = low x i

    -- were b not there, it would make n + 1 of them
    go : (t : Bool) → holds b xs ≡ t → In b xs
    go true u = holds_read b xs (rw u tt)
    go false u =
        let out : In b xs → ⊥ = λ i. rw u at (holds_in b xs i) in
        absurd (omega (arith, length-rising n (b ∷ xs) (out, d) below, rising-few n 0 (b ∷ xs)))
