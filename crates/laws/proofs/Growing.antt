-- Growth by one data block, whole.
use mathlib.Core.Path.{◌≡◌, refl, ◌∙◌}
use mathlib.Core.Logic.{inl, inr}
use mathlib.Core.List.{List, [], ◌∷◌, ◌++◌}
use Prim.Native.Nat.{ℕ, zero, suc, ◌+◌, ◌≤◌, ◌<◌}
use native.Mathlib.Omega.{arith}
use lib.ListN.{length, get_or}
use Rattle.laws.proofs.Picks.{leb_yes, leb_no}
use Rattle.layout.specs.Pyramid.{level, above, height, missing, P}
use Rattle.laws.proofs.Levels.{Next, stays, rises, grows, missing_pos, P-low, P-next, above-top, one-top, one_more, height-low}
use Rattle.layout.specs.Blocks.{fan, node, first_free, taken, rooted, raised, grown_one, Grown}
use Rattle.laws.proofs.Frame.{Inside}
use Rattle.laws.proofs.Cells.{level_none}
use Rattle.laws.proofs.Chain.{Good, Room, taken_else, taken-zero, taken-room}
use Rattle.laws.proofs.Hanging.{NotField, Beyond, two}
use Rattle.laws.proofs.Growth.{Skeleton, rooted-room, rooted-rest, rooted_old, rooted_new, rooted-zero}
use Rattle.laws.proofs.Raising.{crowned, crowned_room, crowned_else, crowned_old, crowned_skeleton}
use Rattle.layout.specs.declared.Shape.{Shape}

-- what one data block more makes of a card: xs are the blocks taken
pub record Grew (s : Shape) (c : List ℕ) (top d : ℕ) (xs rest : List ℕ) (g : Grown) : Type 0 where
  pub room : Room g.card s rest
  pub old : (e e' k j : ℕ) → e + k ≡ height (fan s) d → e' + k ≡ height (fan s) (suc d) → j < level (fan s) k d → node g.card s g.top e' j ≡ node c s top e j
  pub new : (e k i : ℕ) → e + k ≡ height (fan s) (suc d) → k + suc i ≡ length xs → node g.card s g.top e (above (fan s) k d) ≡ get_or xs i 0
  pub rest-same : (i : ℕ) → NotField s i → Beyond s xs i → ((e k j : ℕ) → 1 ≤ k → e + k ≡ height (fan s) d → j < level (fan s) k d → Inside s (node c s top e j) i → ⊥) → get_or g.card i 0 ≡ get_or c i 0
  pub zeros : (i : ℕ) → Inside s (node g.card s g.top (height (fan s) (suc d)) d) i → get_or g.card i 0 ≡ 0

module _ (s : Shape) (good : Good s) where
  first_grew : (c : List ℕ) (top x : ℕ) (rest : List ℕ) → Room c s (x ∷ rest) → Grew s c top 0 (x ∷ []) rest (record { card = taken c s; top = first_free c s })
  unfolding node above
  first_grew c top x rest r = record {
    room = taken-room s good c x rest r;
    old = λ e e' k j p q l. absurd (omega (arith, level_none (fan s) (two s good) k));
    new = λ e k i p q. (let a : k ≡ 0 = omega arith in let b : i ≡ 0 = omega arith in let t : e ≡ 0 = omega (arith, flat) in rw (a, b, t) r.links.0);
    rest-same = λ i a b n. taken_else s good c x rest r i a (b x (inl refl));
    zeros = λ i a. taken-zero s good c x rest r i (rw (flat, r.links.0) at a);
  }
    where
      flat : height (fan s) 1 ≡ 0
      flat = height-low (fan s) (two s good) 1 (omega arith)

  stays_grew : (c : List ℕ) (top d : ℕ) (xs rest : List ℕ) → 1 ≤ d → Room c s (xs ++ rest) → Skeleton c s top (height (fan s) d) d (xs ++ rest)
      → height (fan s) (suc d) ≡ height (fan s) d → length xs ≡ missing (fan s) (height (fan s) (suc d)) d
      → Grew s c top d xs rest (record { card = rooted c s top (height (fan s) (suc d)) d; top = top })
  stays_grew c top d xs rest p r sk e m =
      let sk' = rw (← e) at sk in
      let some : 1 ≤ length xs = rw m (missing_pos (fan s) (two s good) d p) in
      let single : level (fan s) (height (fan s) (suc d)) d ≡ 1 = rw e (one-top (fan s) (two s good) d p) in
      let first = above-top (fan s) (two s good) d in
      let h = height (fan s) (suc d) in
      record {
        room = rooted-room s good c top h d xs rest r sk' m some first single;
        old = λ e₁ e₂ k j u v l. (let t : e₁ ≡ e₂ = omega arith in rw t (rooted_old s good c top h d xs rest r sk' m some first single e₂ k j v l));
        new = rooted_new s good c top h d xs rest r sk' m some first single;
        rest-same = λ i a b n. rooted-rest s good c top h d xs rest r sk' m some first single i a b (λ e₁ k j o u. n e₁ k j o (omega arith));
        zeros = rooted-zero s good c top h d xs rest r sk' m some first single;
      }

  rises_grew : (c : List ℕ) (top d x : ℕ) (xs rest : List ℕ) → 1 ≤ d → Room c s (x ∷ xs ++ rest) → Skeleton c s top (height (fan s) d) d (x ∷ xs ++ rest)
      → height (fan s) (suc d) ≡ suc (height (fan s) d) → length xs ≡ missing (fan s) (height (fan s) (suc d)) d → length xs ≡ height (fan s) (suc d)
      → Grew s c top d (x ∷ xs) rest (record { card = rooted (crowned c s top x) s x (height (fan s) (suc d)) d; top = x })
  unfolding node
  rises_grew c top d x xs rest p r sk e m t =
      let one = one-top (fan s) (two s good) d p in
      let c₁ = crowned c s top x in
      let h = height (fan s) (suc d) in
      let r₁ = crowned_room s good c top (height (fan s) d) d x (xs ++ rest) r sk one in
      let sk₁ : Skeleton c₁ s x h d (xs ++ rest) = rw e (crowned_skeleton s good c top (height (fan s) d) d x (xs ++ rest) r sk one) in
      let some : 1 ≤ length xs = rw m (missing_pos (fan s) (two s good) d p) in
      let single : level (fan s) h d ≡ 1 = rw e (one_more (fan s) (two s good) (height (fan s) d) d one) in
      let first = above-top (fan s) (two s good) d in
      record {
        room = rooted-room s good c₁ x h d xs rest r₁ sk₁ m some first single;
        old = λ e₁ e₂ k j u v l. (let w : e₂ ≡ suc e₁ = omega arith in
            rw w (rooted_old s good c₁ x h d xs rest r₁ sk₁ m some first single (suc e₁) k j (omega arith) l ∙ crowned_old s good c top (height (fan s) d) d x (xs ++ rest) r sk one e₁ k j u l));
        new = λ e₁ k. elim [
          | zero ↦ (λ u v. let w : e₁ ≡ 0 = omega arith in rw w)
          | suc i ↦ (λ u v. rooted_new s good c₁ x h d xs rest r₁ sk₁ m some first single e₁ k i u (omega arith))
        ];
        rest-same = λ i a b n. rooted-rest s good c₁ x h d xs rest r₁ sk₁ m some first single i a (λ y k. b y (inr k))
            (elim [
              | zero ↦ (λ k j o u l w. b x (inl refl) w)
              | suc e₁ ↦ (λ k j o u l w. n e₁ k j o (omega arith) l (rw (crowned_old s good c top (height (fan s) d) d x (xs ++ rest) r sk one e₁ k j (omega arith) l) at w))
            ])
            ∙ crowned_else s good c top (height (fan s) d) d x (xs ++ rest) r sk one i a (b x (inl refl));
        zeros = rooted-zero s good c₁ x h d xs rest r₁ sk₁ m some first single;
      }

  rises_one : (c : List ℕ) (top n : ℕ) (xs rest : List ℕ) → Room c s (xs ++ rest) → Skeleton c s top (height (fan s) (suc n)) (suc n) (xs ++ rest)
      → length xs ≡ suc (height (fan s) (suc (suc n))) → height (fan s) (suc (suc n)) ≡ suc (height (fan s) (suc n)) → missing (fan s) (height (fan s) (suc (suc n))) (suc n) ≡ height (fan s) (suc (suc n))
      → Grew s c top (suc n) xs rest (grown_one c s top (suc n))
  unfolding grown_one raised
  rises_one c top n [] rest r sk l e m = absurd (omega arith)
  rises_one c top n (x ∷ xs) rest r sk l e m =
      rw (leb_yes {a = suc (height (fan s) (suc n))} {b = height (fan s) (suc (suc n))} (omega arith), r.links.0)
      (rises_grew c top (suc n) x xs rest (omega arith) r sk e (omega arith) (omega arith))

  stays_one : (c : List ℕ) (top n : ℕ) (xs rest : List ℕ) → Room c s (xs ++ rest) → Skeleton c s top (height (fan s) (suc n)) (suc n) (xs ++ rest)
      → length xs ≡ missing (fan s) (height (fan s) (suc (suc n))) (suc n) → height (fan s) (suc (suc n)) ≡ height (fan s) (suc n)
      → Grew s c top (suc n) xs rest (grown_one c s top (suc n))
  unfolding grown_one raised
  stays_one c top n xs rest r sk l e =
      rw (leb_no {a = suc (height (fan s) (suc n))} {b = height (fan s) (suc (suc n))} (omega arith))
      (stays_grew c top (suc n) xs rest (omega arith) r sk e l)

  first_one : (c : List ℕ) (top : ℕ) (xs rest : List ℕ) → Room c s (xs ++ rest) → length xs ≡ 1 → Grew s c top 0 xs rest (grown_one c s top 0)
  unfolding grown_one
  first_one c top [] rest r n = absurd (omega arith)
  first_one c top (x ∷ []) rest r n = first_grew c top x rest r
  first_one c top (x ∷ (y ∷ ys)) rest r n = absurd (omega arith)

  -- the blocks that it takes are as many as P says, and they are the chain's first
  pub grew : (c : List ℕ) (top d : ℕ) (xs rest : List ℕ) → Room c s (xs ++ rest) → Skeleton c s top (height (fan s) d) d (xs ++ rest)
      → P (fan s) (suc d) ≡ P (fan s) d + length xs → Grew s c top d xs rest (grown_one c s top d)
  grew c top zero xs rest r sk n = first_one c top xs rest r (omega (arith, P-low (fan s) (two s good) 0 (omega arith), P-low (fan s) (two s good) 1 (omega arith)))
  grew c top (suc d) xs rest r sk n = go (grows (fan s) (two s good) (suc d) (omega arith))
    where
      go : Next (fan s) (two s good) (suc d) → Grew s c top (suc d) xs rest (grown_one c s top (suc d))
      go (stays a) = stays_one c top d xs rest r sk (omega (arith, P-next (fan s) (two s good) (suc d) (omega arith))) a
      go (rises a b z) = rises_one c top d xs rest r sk (omega (arith, P-next (fan s) (two s good) (suc d) (omega arith))) a b
