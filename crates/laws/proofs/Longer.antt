-- Growth by any number of data blocks.
use mathlib.Core.Path.{◌≡◌, refl, sym, ap, ◌∙◌}
use mathlib.Core.Logic.{◌⊎◌, inl, inr}
use mathlib.Core.List.{List, [], ◌∷◌, ◌++◌, append_assoc}
use Prim.Native.Nat.{ℕ, zero, suc, ◌+◌, ◌-◌, ◌≤◌, ◌<◌}
use native.Mathlib.Decide.{dec_lt}
use native.Mathlib.Omega.{arith}
use lib.ListN.{length, get_or, take, drop, take-append-drop, length-take, length-drop}
use Rattle.laws.proofs.Lists.{In, in_left, in_right, in-get_or}
use Rattle.layout.specs.Pyramid.{level, height, P}
use Rattle.laws.proofs.Levels.{P-rises, P-mono}
use Rattle.layout.specs.Blocks.{fan, node, pyramid, grown_one, grown, Grown}
use Rattle.laws.proofs.Frame.{Inside, SameIn, in_pyramid, pyramid_in}
use Rattle.laws.proofs.Chain.{Good, Room}
use Rattle.laws.proofs.Hanging.{NotField, Beyond, two}
use Rattle.laws.proofs.Growth.{Skeleton}
use Rattle.laws.proofs.Growing.{Grew, grew}
use Rattle.laws.proofs.OneMore.{Which, was, is_new, which, grown_data, grown_skeleton}
use Rattle.layout.specs.declared.Shape.{Shape}

-- d data blocks have become D: xs are the blocks taken
pub record Longer (s : Shape) (c : List ℕ) (top d D : ℕ) (xs rest : List ℕ) (g : Grown) : Type 0 where
  pub room : Room g.card s rest
  pub bones : Skeleton g.card s g.top (height (fan s) D) D rest
  pub stay : (j : ℕ) → j < d → node g.card s g.top (height (fan s) D) j ≡ node c s top (height (fan s) d) j
  pub same : (j : ℕ) → j < d → SameIn s c g.card (node c s top (height (fan s) d) j)
  pub zeros : (j : ℕ) → d ≤ j → j < D → (i : ℕ) → Inside s (node g.card s g.top (height (fan s) D) j) i → get_or g.card i 0 ≡ 0
  pub rest-same : (i : ℕ) → NotField s i → Beyond s xs i → Beyond s (pyramid c s top d) i → get_or g.card i 0 ≡ get_or c i 0
  pub from : (b : ℕ) → In b (pyramid g.card s g.top D) → In b (pyramid c s top d) ⊎ In b xs

beyond_left : (s : Shape) (xs ys : List ℕ) (i : ℕ) → Beyond s (xs ++ ys) i → Beyond s xs i
beyond_left s xs ys i b x k = b x (in_left x xs ys k)

beyond_right : (s : Shape) (xs ys : List ℕ) (i : ℕ) → Beyond s (xs ++ ys) i → Beyond s ys i
beyond_right s xs ys i b x k = b x (in_right x xs ys k)

module _ (s : Shape) (good : Good s) where
  none_longer : (c : List ℕ) (top d : ℕ) (rest : List ℕ) → Room c s rest → Skeleton c s top (height (fan s) d) d rest → Longer s c top d d [] rest (record { card = c; top = top })
  none_longer c top d rest r sk = record {
    room = r;
    bones = sk;
    stay = λ j l. refl;
    same = λ j l i p q. refl;
    zeros = λ j a b. absurd (omega arith);
    rest-same = λ i a b n. refl;
    from = λ b i. inl i;
  }

  -- a step, and then what follows
  module _ (c : List ℕ) (top d D : ℕ) (xs ys rest : List ℕ) (room : Room c s (xs ++ (ys ++ rest))) (sk : Skeleton c s top (height (fan s) d) d (xs ++ (ys ++ rest)))
      (many : P (fan s) (suc d) ≡ P (fan s) d + length xs) (g : Grown)
      (on : Longer s (grown_one c s top d).card (grown_one c s top d).top (suc d) D ys rest g) (big : suc d ≤ D) where
    abbrev one : Grown
    one = grown_one c s top d

    all : Grew s c top d xs (ys ++ rest) one
    all = grew s good c top d xs (ys ++ rest) room sk many

    -- a block of the next pyramid is an old one or a taken one
    one_from : (b : ℕ) → In b (pyramid one.card s one.top (suc d)) → In b (pyramid c s top d) ⊎ In b xs
    one_from b i =
        let t = pyramid_in s (two s good) one.card one.top (suc d) b i in
        go t.0 t.1 t.2 t.5 (which s good c top d xs (ys ++ rest) room sk many t.0 t.1 t.2 t.3 t.4)
      where
        go : (e k j : ℕ) → b ≡ node one.card s one.top e j → Which s good c top d xs (ys ++ rest) room sk many e k j → In b (pyramid c s top d) ⊎ In b xs
        go e k j w (was e' p q m) = inl (rw (w ∙ m) (in_pyramid s (two s good) c top d e' k j p q))
        go e k j w (is_new u l v z m) = inr (rw (w ∙ m) (in-get_or xs u l))

    next-beyond : (i : ℕ) → Beyond s xs i → Beyond s (pyramid c s top d) i → Beyond s (pyramid one.card s one.top (suc d)) i
    next-beyond i b n x k a = elim (one_from x k) [ inl p ↦ n x p a | inr q ↦ b x q a ]

    step-longer : Longer s c top d D (xs ++ ys) rest g
    unfolding level
    step-longer = record {
      room = on.room;
      bones = on.bones;
      stay = λ j l. on.stay j (omega arith) ∙ all.old (height (fan s) d) (height (fan s) (suc d)) 0 j (omega arith) (omega arith) l;
      same = λ j l i p q. (let w = all.old (height (fan s) d) (height (fan s) (suc d)) 0 j (omega arith) (omega arith) l in
          rw w at (on.same j (omega arith)) i p q ∙ grown_data s good c top d xs (ys ++ rest) room sk many j l i p q);
      zeros = λ j a b i w. elim (dec_lt d j) [
        | yes l ↦ on.zeros j l b i w
        | no l ↦ (let t : j ≡ d = omega arith in
            let w' = rw (t, on.stay d (omega arith)) at w in
            on.same d (omega arith) i w'.0 w'.1 ∙ all.zeros i w')
      ];
      rest-same = λ i a b n. on.rest-same i a (beyond_right s xs ys i b) (next-beyond i (beyond_left s xs ys i b) n)
          ∙ all.rest-same i a (beyond_left s xs ys i b) (λ e k j o p q w. n _ (in_pyramid s (two s good) c top d e k j p q) w);
      from = λ b i. elim (on.from b i) [
        | inl p ↦ elim (one_from b p) [ inl q ↦ inl q | inr q ↦ inr (in_left b xs ys q) ]
        | inr p ↦ inr (in_right b xs ys p)
      ];
    }

  pub longer : (n : ℕ) (c : List ℕ) (top d D : ℕ) (xs rest : List ℕ) → D ≡ d + n → Room c s (xs ++ rest) → Skeleton c s top (height (fan s) d) d (xs ++ rest)
      → P (fan s) D ≡ P (fan s) d + length xs → Longer s c top d D xs rest (grown c s top d n)
  unfolding grown
  longer zero c top d D [] rest e r sk m = let t : D ≡ d = omega arith in rw t (none_longer c top d rest r sk)
  longer zero c top d D (x ∷ xs) rest e r sk m = let t : D ≡ d = omega arith in absurd (omega (arith, rw t at m))
  longer (suc n) c top d D xs rest e r sk m =
      let a = P (fan s) (suc d) - P (fan s) d in
      let one = grown_one c s top d in
      let e₁ : xs ≡ take a xs ++ drop a xs = sym (take-append-drop a xs) in
      let e₂ : xs ++ rest ≡ take a xs ++ (drop a xs ++ rest) = ap (λ (l : List ℕ). l ++ rest) e₁ ∙ append_assoc (take a xs) (drop a xs) rest in
      let r' : Room c s (take a xs ++ (drop a xs ++ rest)) = rw e₂ at r in
      let sk' : Skeleton c s top (height (fan s) d) d (take a xs ++ (drop a xs ++ rest)) = rw e₂ at sk in
      let up₁ = P-rises (fan s) (two s good) d in
      let up₂ = P-mono (fan s) (two s good) (suc d) D (omega arith) in
      let m₁ : P (fan s) (suc d) ≡ P (fan s) d + length (take a xs) = rw length-take (omega arith) in
      let m₂ : P (fan s) D ≡ P (fan s) (suc d) + length (drop a xs) = rw length-drop (omega arith) in
      rw e₁ (step-longer c top d D (take a xs) (drop a xs) rest r' sk' m₁ (grown one.card s one.top (suc d) n)
      (longer n one.card one.top (suc d) D (drop a xs) rest (omega arith)
      (grew s good c top d (take a xs) (drop a xs ++ rest) r' sk' m₁).room
      (grown_skeleton s good c top d (take a xs) (drop a xs ++ rest) r' sk' m₁) m₂) (omega arith))
