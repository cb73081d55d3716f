-- Blocks given back: the chain and the bytes.
use mathlib.Core.Path.{◌≡◌, refl, ap, ◌∙◌}
use mathlib.Core.Logic.{◌≢◌, ◌⊎◌, inl, inr}
use mathlib.Core.Bool.{Bool, true, false}
use mathlib.Core.List.{List, [], ◌∷◌, ◌++◌}
use Prim.Native.Nat.{ℕ, zero, suc, ◌+◌, ◌*◌, ◌^◌, ◌≤◌, ◌<◌}
use native.Mathlib.Nat.{zero-add, add-zero, mul-le-mul_right}
use native.Mathlib.Decide.{ℕ_discrete}
use native.Mathlib.Omega.{arith}
use lib.ListN.{length, get_or}
use lib.Dec.{T}
use Rattle.layout.specs.Bytes.{pick, num, put, holds, end4, end8}
use Rattle.laws.proofs.Picks.{eqb_no}
use Rattle.laws.proofs.ByteLaws.{length-put, put_out, num-put-same}
use Rattle.laws.proofs.Lists.{In, Distinct, holds_in, holds_read}
use Rattle.layout.specs.Blocks.{place, first_free, next, wide, narrow, freed, linked, rising, falling, given_back}
use Rattle.laws.proofs.Frame.{SameIn}
use Rattle.laws.proofs.Links.{Links, links_same}
use Rattle.laws.proofs.Chain.{Good, Room, links_lt, one_block, same_next}
use Rattle.laws.proofs.Hanging.{NotField}
use Rattle.layout.specs.declared.Shape.{Shape}

abbrev pub onto : List ℕ → List ℕ → List ℕ
onto [] xs = xs
onto (b ∷ bs) xs = onto bs (b ∷ xs)

-- a chain that starts at `head`, which the field does not name yet
pub record Loose (c : List ℕ) (s : Shape) (head : ℕ) (xs : List ℕ) : Type 0 where
  pub long : s.base + s.count * s.size ≤ length c
  pub links : Links (next c s) head xs
  pub low : (x : ℕ) → In x xs → x < s.count
  pub apart : Distinct xs

-- byte i names the next block of none of bs
abbrev pub NotLink : Shape → List ℕ → ℕ → Type 0
NotLink s bs i = (b : ℕ) → In b bs → place s b ≤ i → i < place s b + 4 → ⊥

module _ (s : Shape) where
  pub length-freed : (c : List ℕ) (b after : ℕ) → length (freed c s b after) ≡ length c
  unfolding freed
  length-freed c b after = length-put 4 c (place s b) (narrow after)

  -- a freed block changes in its first 4 bytes alone
  pub freed_else : (c : List ℕ) (b after i : ℕ) → (place s b ≤ i → i < place s b + 4 → ⊥) → get_or (freed c s b after) i 0 ≡ get_or c i 0
  unfolding freed
  freed_else c b after i h = put_out 4 c (place s b) (narrow after) i h

module _ (s : Shape) (good : Good s) where
  there_back : (c : List ℕ) (head : ℕ) (xs : List ℕ) → Loose c s head xs → (narrow head < 256 ^ 4) × (wide (narrow head) ≡ head)
  there_back c head [] l = rw l.links (omega arith, refl)
  there_back c head (x ∷ xs) l =
      let h : head < s.count = rw l.links.0 (l.low x (inl refl)) in
      rw (eqb_no {a = head} {b = end8} (omega (arith, good.few)), eqb_no {a = head} {b = end4} (omega (arith, good.few))) (omega (arith, good.few), refl)

  module _ (c : List ℕ) (head b : ℕ) (xs : List ℕ) (l : Loose c s head xs) (low : b < s.count) (out : In b xs → ⊥) where
    -- a block but b keeps its bytes
    freed-same : (b' : ℕ) → b' ≢ b → SameIn s c (freed c s b head) b'
    freed-same b' n i p q = freed_else s c b head i (λ u v. n (one_block s good b' b i (p, q) (u, omega (arith, good.wide))))

    freed-next : next (freed c s b head) s b ≡ head
    unfolding next freed
    freed-next =
        let w = good.wide in
        let t = there_back c head xs l in
        let n : num 4 (put 4 c (place s b) (narrow head)) (place s b) ≡ narrow head = num-put-same 4 c (place s b) (narrow head) t.0 (omega (arith, l.long, mul-le-mul_right s.size low)) in
        rw n t.1

    freed_loose : Loose (freed c s b head) s b (b ∷ xs)
    freed_loose = record {
      long = rw length-freed l.long;
      links = (refl, omega (arith, good.few), rw freed-next (links_same (next c s) (next (freed c s b head) s) head xs l.links (λ y i. same_next s good c (freed c s b head) y (freed-same y (λ e. out (rw (← e) i))))));
      low = below;
      apart = (out, l.apart);
    }
      where
        below : (x : ℕ) → In x (b ∷ xs) → x < s.count
        below x (inl e) = rw e low
        below x (inr i) = l.low x i

  -- bs, one after the other, are put before the chain
  pub linked-room : (bs c : List ℕ) (head : ℕ) (xs : List ℕ) → Loose c s head xs → ((b : ℕ) → In b bs → b < s.count) → Distinct bs → ((b : ℕ) → In b bs → In b xs → ⊥) → Room (linked c s head bs) s (onto bs xs)
  unfolding linked
  linked-room [] c head xs l low dis out =
      let f : num 8 (put 8 c s.first head) s.first ≡ head = num-put-same 8 c s.first head (links_lt s good c head xs l.links l.low) (omega (arith, good.header, l.long)) in
      record {
        long = rw length-put l.long;
        links = rw f (links_same (next c s) (next (put 8 c s.first head) s) head xs l.links (λ y i. same_next s good c _ y (λ j p q. put_out 8 c s.first head j (omega (arith, good.header)))));
        low = l.low;
        apart = l.apart;
      }
  linked-room (b ∷ bs) c head xs l low dis out =
      linked-room bs _ b (b ∷ xs) (freed_loose c head b xs l (low b (inl refl)) (out b (inl refl))) (λ x i. low x (inr i)) dis.1 apart
    where
      apart : (x : ℕ) → In x bs → In x (b ∷ xs) → ⊥
      apart x i (inl e) = dis.0 (rw (← e) i)
      apart x i (inr k) = out x (inr i) k

  pub linked_else : (bs c : List ℕ) (head : ℕ) (i : ℕ) → NotField s i → NotLink s bs i → get_or (linked c s head bs) i 0 ≡ get_or c i 0
  unfolding linked
  linked_else [] c head i a n = put_out 8 c s.first head i a
  linked_else (b ∷ bs) c head i a n = linked_else bs _ b i a (λ x k. n x (inr k)) ∙ freed_else s c b head i (n b (inl refl))

-- ---- in order

pick_in : (t : Bool) (b n : ℕ) (xs : List ℕ) → In b (pick t (n ∷ xs) xs) → (T t × (b ≡ n)) ⊎ In b xs
pick_in true b n xs (inl e) = inl (tt, e)
pick_in true b n xs (inr i) = inr i
pick_in false b n xs i = inr i

in_pick : (t : Bool) (b n : ℕ) (xs : List ℕ) → (T t × (b ≡ n)) ⊎ In b xs → In b (pick t (n ∷ xs) xs)
in_pick true b n xs (inl e) = inl e.1
in_pick true b n xs (inr i) = inr i
in_pick false b n xs (inl e) = absurd e.0
in_pick false b n xs (inr i) = i

pick-distinct : (t : Bool) (n : ℕ) (xs : List ℕ) → (In n xs → ⊥) → Distinct xs → Distinct (pick t (n ∷ xs) xs)
pick-distinct true n xs o d = (o, d)
pick-distinct false n xs o d = d

onto_pick : (t : Bool) (n : ℕ) (bs xs ys : List ℕ) → pick t (n ∷ xs) xs ≡ ys → onto (pick t (n ∷ bs) bs) xs ≡ onto bs ys
onto_pick true n bs xs ys e = ap (onto bs) e
onto_pick false n bs xs ys e = ap (onto bs) e

pick-append : (t : Bool) (n : ℕ) (xs ys : List ℕ) → pick t (n ∷ (xs ++ ys)) (xs ++ ys) ≡ pick t (n ∷ xs) xs ++ ys
pick-append true n xs ys = refl
pick-append false n xs ys = refl

module _ (bs : List ℕ) where
  pub falling_in_lem : (n b : ℕ) → In b (falling n bs) → (b < n) × In b bs
  unfolding falling
  falling_in_lem zero b i = absurd i
  falling_in_lem (suc n) b i = elim (pick_in (holds n bs) b n (falling n bs) i) [
    | inl a ↦ (omega (arith, a.1), rw a.1 (holds_read n bs a.0))
    | inr k ↦ (let r = falling_in_lem n b k in (omega arith, r.1))
  ]

  pub in_falling : (n b : ℕ) → b < n → In b bs → In b (falling n bs)
  unfolding falling
  in_falling zero b h i = absurd (omega arith)
  in_falling (suc n) b h i = in_pick (holds n bs) b n (falling n bs) (elim (ℕ_discrete b n) [
    | yes e ↦ inl (rw (← e) (holds_in b bs i), e)
    | no m ↦ inr (in_falling n b (omega arith) i)
  ])

  pub falling-distinct : (n : ℕ) → Distinct (falling n bs)
  unfolding falling
  falling-distinct zero = tt
  falling-distinct (suc n) = pick-distinct (holds n bs) n (falling n bs) (λ i. omega (arith, (falling_in_lem n n i).0)) (falling-distinct n)

  -- linked from the highest down, they stand rising
  rising_onto : (n m : ℕ) (xs : List ℕ) → onto (falling n bs) (rising m n bs ++ xs) ≡ rising (n + m) 0 bs ++ xs
  unfolding falling rising
  rising_onto zero m xs = rw zero-add
  rising_onto (suc n) m xs =
      let e : suc n + m ≡ n + suc m = omega arith in
      onto_pick (holds n bs) n (falling n bs) (rising m (suc n) bs ++ xs) (rising (suc m) n bs ++ xs) (pick-append (holds n bs) n (rising m (suc n) bs) xs)
      ∙ rising_onto n (suc m) xs ∙ rw e

  pub rising_in : (n m b : ℕ) → In b (rising n m bs) → In b bs
  unfolding rising
  rising_in zero m b i = absurd i
  rising_in (suc n) m b i = elim (pick_in (holds m bs) b m (rising n (suc m) bs) i) [
    | inl a ↦ rw a.1 (holds_read m bs a.0)
    | inr k ↦ rising_in n (suc m) b k
  ]

  pub in_rising : (n m b : ℕ) → m ≤ b → b < m + n → In b bs → In b (rising n m bs)
  unfolding rising
  in_rising zero m b l h i = absurd (omega arith)
  in_rising (suc n) m b l h i = in_pick (holds m bs) b m (rising n (suc m) bs) (elim (ℕ_discrete b m) [
    | yes e ↦ inl (rw (← e) (holds_in b bs i), e)
    | no u ↦ inr (in_rising n (suc m) b (omega arith) (omega arith) i)
  ])

  rising-all : (n : ℕ) (xs : List ℕ) → onto (falling n bs) xs ≡ rising n 0 bs ++ xs
  unfolding rising
  rising-all n xs = rw (add-zero n) at (rising_onto n 0 xs)

-- the chain of a card to which bs were given back
module _ (s : Shape) (good : Good s) (c : List ℕ) (free bs : List ℕ) (room : Room c s free) (low : (b : ℕ) → In b bs → b < s.count) (out : (b : ℕ) → In b bs → In b free → ⊥) where
  pub given_room : Room (given_back c s bs) s (rising s.count 0 bs ++ free)
  unfolding given_back
  given_room = rw (← rising-all bs s.count free)
      (linked-room s good (falling s.count bs) c (first_free c s) free (record { long = room.long; links = room.links; low = room.low; apart = room.apart })
      (λ b i. (falling_in_lem bs s.count b i).0) (falling-distinct bs s.count) (λ b i. out b (falling_in_lem bs s.count b i).1))

  -- only the first 4 bytes of each, and the field, change
  pub given_else : (i : ℕ) → NotField s i → NotLink s bs i → get_or (given_back c s bs) i 0 ≡ get_or c i 0
  unfolding given_back
  given_else i a n = linked_else s good (falling s.count bs) c (first_free c s) i a (λ b k. n b (falling_in_lem bs s.count b k).1)
