-- The free chain as a list, and what taking its head does.
use mathlib.Core.Path.{◌≡◌, refl, ◌∙◌}
use mathlib.Core.Logic.{◌≢◌, inl, inr}
use mathlib.Core.List.{List, [], ◌∷◌}
use Prim.Native.Nat.{ℕ, ◌+◌, ◌-◌, ◌*◌, ◌^◌, ◌≤◌, ◌<◌}
use native.Mathlib.Nat.{mul-le-mul_right}
use native.Mathlib.Decide.{dec_lt}
use native.Mathlib.Omega.{arith}
use lib.ListN.{length, get_or, replicate, length-replicate, get_or-replicate}
use Rattle.layout.specs.Bytes.{put, over, end4}
use Rattle.laws.proofs.ByteLaws.{length_over, length-put, over_out, over_in, put_out, num_agree, num-put, num-put-same}
use Rattle.laws.proofs.Lists.{In, Distinct}
use Rattle.layout.specs.Blocks.{fan, place, slot_place, slot, first_free, next, chain, taken}
use Rattle.laws.proofs.Links.{Links, walk_links, links_walk, links_same}
use Rattle.laws.proofs.Frame.{Inside, SameIn}
use Rattle.layout.specs.declared.Shape.{Shape}

-- a shape that a card can have
pub record Good (s : Shape) : Type 0 where
  pub field : s.first + 8 ≤ s.table
  pub desc : s.table + 25 ≤ s.filing
  pub header : s.filing ≤ s.base
  pub wide : 8 ≤ s.size
  pub few : s.count < end4

-- a card of that shape whose free chain is xs
pub record Room (c : List ℕ) (s : Shape) (xs : List ℕ) : Type 0 where
  pub long : s.base + s.count * s.size ≤ length c
  pub links : Links (next c s) (first_free c s) xs
  pub low : (x : ℕ) → In x xs → x < s.count
  pub apart : Distinct xs

-- the chain of a card is what its links go through
pub room-chain : (c : List ℕ) (s : Shape) (xs : List ℕ) → Room c s xs → length xs ≤ s.count → chain c s ≡ xs
unfolding chain
room-chain c s xs r h = walk_links (s.count + 1) (next c s) (first_free c s) xs r.links (omega arith)

pub chain-room : (c : List ℕ) (s : Shape) → s.base + s.count * s.size ≤ length c → length (chain c s) ≤ s.count → ((x : ℕ) → In x (chain c s) → x < s.count) → Distinct (chain c s) → Room c s (chain c s)
unfolding chain
chain-room c s l h b d = record { long = l; links = links_walk (s.count + 1) (next c s) (first_free c s) (omega arith); low = b; apart = d }

module _ (s : Shape) (good : Good s) where
  -- a byte is in one block at most
  pub one_block : (b b' i : ℕ) → Inside s b i → Inside s b' i → b ≡ b'
  one_block b b' i p q = elim (dec_lt b b') [
    | yes l ↦ absurd (omega (arith, mul-le-mul_right s.size l))
    | no n ↦ elim (dec_lt b' b) [
      | yes l ↦ absurd (omega (arith, mul-le-mul_right s.size l))
      | no n' ↦ omega arith
    ]
  ]

  pub same_next : (c c' : List ℕ) (b : ℕ) → SameIn s c c' b → next c' s b ≡ next c s b
  unfolding next
  same_next c c' b e = let h = good.wide in rw (num_agree 4 c' c (place s b) (λ i p q. e i p (omega arith)))

  pub links_lt : (c : List ℕ) (b : ℕ) (xs : List ℕ) → Links (next c s) b xs → ((x : ℕ) → In x xs → x < s.count) → b < 256 ^ 8
  links_lt c b [] l h = omega arith
  links_lt c b (x ∷ xs) l h = omega (arith, good.few, h x (inl refl))

  -- a block lies within the card
  pub within : (c : List ℕ) (xs : List ℕ) → Room c s xs → (b i : ℕ) → b < s.count → i < s.size → place s b + i < length c
  within c xs r b i h k = omega (arith, r.long, mul-le-mul_right s.size h)

  module _ (c : List ℕ) (x : ℕ) (xs : List ℕ) (r : Room c s (x ∷ xs)) where
    pub head : first_free c s ≡ x
    head = r.links.0

    -- the card with block x zeroed
    abbrev zeroed : List ℕ
    zeroed = over c (place s x) (replicate s.size 0)

    taken_is : taken c s ≡ put 8 zeroed s.first (next c s x)
    unfolding taken
    taken_is = rw head

    pub taken-long : length (taken c s) ≡ length c
    taken-long = rw taken_is (length-put 8 zeroed s.first (next c s x) ∙ length_over c (place s x) (replicate s.size 0))

    -- nothing else changes
    pub taken_else : (i : ℕ) → (s.first ≤ i → i < s.first + 8 → ⊥) → (Inside s x i → ⊥) → get_or (taken c s) i 0 ≡ get_or c i 0
    taken_else i a b =
        rw (taken_is, put_out 8 zeroed s.first (next c s x) i a) (over_out c (place s x) (replicate s.size 0) i (λ p q. b (p, rw length-replicate at q)))

    pub taken-zero : (i : ℕ) → Inside s x i → get_or (taken c s) i 0 ≡ 0
    taken-zero i a =
        let h = good.header in
        let k = i - place s x in
        let l : k < length (replicate s.size (let z : ℕ = 0 in z)) = rw length-replicate (omega arith) in
        rw (taken_is, put_out 8 zeroed s.first (next c s x) i (omega arith), over_in c (place s x) (replicate s.size 0) i k (omega arith) l (omega (arith, within c (x ∷ xs) r x k (r.low x (inl refl)) (omega arith))))
        (get_or-replicate s.size k 0 0 (omega arith))

    -- a block other than x keeps its bytes
    pub taken-same : (b : ℕ) → b ≢ x → SameIn s c (taken c s) b
    taken-same b n i p q = let h = good.header in taken_else i (omega arith) (λ a. n (one_block b x i (p, q) a))

    pub taken_next : first_free (taken c s) s ≡ next c s x
    taken_next = rw taken_is (num-put-same 8 zeroed s.first (next c s x) (links_lt c (next c s x) xs r.links.2 (λ y i. r.low y (inr i)))
        (rw length_over (omega (arith, good.header, r.long))))

    pub taken-room : Room (taken c s) s xs
    taken-room = record {
      long = rw taken-long r.long;
      links = rw taken_next (links_same (next c s) (next (taken c s) s) (next c s x) xs r.links.2 (λ y i. same_next c (taken c s) y (taken-same y (λ e. r.apart.0 (rw (← e) i)))));
      low = λ y i. r.low y (inr i);
      apart = r.apart.1;
    }

  -- a slot of a block that is not free is set
  module _ (c : List ℕ) (xs : List ℕ) (r : Room c s xs) (b j v : ℕ) (low : b < s.count) (fits : j < fan s) where
    abbrev slotted : List ℕ
    slotted = put 4 c (slot_place s b j) v

    pub slotted_else : (i : ℕ) → (slot_place s b j ≤ i → i < slot_place s b j + 4 → ⊥) → get_or slotted i 0 ≡ get_or c i 0
    slotted_else i h = put_out 4 c (slot_place s b j) v i h

    pub slotted_same : (b' : ℕ) → b' ≢ b → SameIn s c slotted b'
    slotted_same b' n i p q = slotted_else i (λ u w. n (one_block b' b i (p, q) (omega arith, omega arith)))

    pub slotted_slot : v < s.count → slot slotted s b j ≡ v
    slotted_slot h = num-put-same 4 c (slot_place s b j) v (omega (arith, good.few)) (omega (arith, within c xs r b (4 * j + 3) low (omega arith)))

    pub slotted_room : (In b xs → ⊥) → Room slotted s xs
    slotted_room n = record {
      long = rw length-put r.long;
      links = rw (num-put 4 c (slot_place s b j) v 8 s.first (omega (arith, good.header))) (links_same (next c s) (next slotted s) (first_free c s) xs r.links (λ y i. same_next c slotted y (slotted_same y (λ e. n (rw (← e) i)))));
      low = r.low;
      apart = r.apart;
    }
