-- Blocks taken and hung one below the other.
use mathlib.Core.Path.{◌≡◌, refl, sym, ap, ◌∙◌, subst}
use mathlib.Core.Logic.{◌≢◌, inl, inr}
use mathlib.Core.List.{List, [], ◌∷◌, ◌++◌}
use Prim.Native.Nat.{ℕ, suc, ◌+◌, ◌≤◌, ◌<◌}
use native.Mathlib.Omega.{arith}
use lib.ListN.{length, get_or}
use Rattle.layout.specs.Bytes.{put}
use Rattle.laws.proofs.ByteLaws.{num_agree}
use Rattle.laws.proofs.Lists.{In, in_left}
use Rattle.layout.specs.Blocks.{fan, slot_place, slot, taken, hooked, hung}
use Rattle.laws.proofs.Frame.{Inside}
use Rattle.laws.proofs.Chain.{Good, Room, one_block, taken_else, taken-zero, taken-room, slotted_else, slotted_same, slotted_slot, slotted_room}
use Rattle.layout.specs.declared.Shape.{Shape}

-- slot j of block b names the first of xs, and slot 0 of each the next
abbrev pub Hangs : List ℕ → Shape → ℕ → ℕ → List ℕ → Type 0
Hangs c s b j [] = Unit
Hangs c s b j (x ∷ xs) = (slot c s b j ≡ x) × Hangs c s x 0 xs

abbrev pub last_of : ℕ → List ℕ → ℕ
last_of x [] = x
last_of x (y ∷ ys) = last_of y ys

-- byte i is not in the first-free field
abbrev pub NotField : Shape → ℕ → Type 0
NotField s i = s.first ≤ i → i < s.first + 8 → ⊥

-- byte i is not in slot j of block b
abbrev pub NotSlot : Shape → ℕ → ℕ → ℕ → Type 0
NotSlot s b j i = slot_place s b j ≤ i → i < slot_place s b j + 4 → ⊥

-- byte i is in none of the blocks xs
abbrev pub Beyond : Shape → List ℕ → ℕ → Type 0
Beyond s xs i = (x : ℕ) → In x xs → Inside s x i → ⊥

-- no block holds a byte of the header
pub header_beyond : (s : Shape) (xs : List ℕ) (i : ℕ) → i < s.base → Beyond s xs i
header_beyond s xs i h x k a = omega arith

-- block b is not free, and its slot j can be set
pub record Ready (c : List ℕ) (s : Shape) (b j : ℕ) (free : List ℕ) : Type 0 where
  pub room : Room c s free
  pub low : b < s.count
  pub fits : j < fan s
  pub out : In b free → ⊥

module _ (s : Shape) (good : Good s) where
  pub two : 2 ≤ fan s
  two = omega (arith, good.wide)

  module _ (c : List ℕ) (x : ℕ) (xs : List ℕ) (b j : ℕ) (r : Ready c s b j (x ∷ xs)) where
    hooked_is : hooked c s b j ≡ put 4 (taken c s) (slot_place s b j) x
    unfolding hooked
    hooked_is = rw r.room.links.0

    t_room : Room (taken c s) s xs
    t_room = taken-room s good c x xs r.room

    pub hooked_ready : Ready (hooked c s b j) s x 0 xs
    hooked_ready = record {
      room = rw hooked_is (slotted_room s good (taken c s) xs t_room b j x r.low r.fits (λ i. r.out (inr i)));
      low = r.room.low x (inl refl);
      fits = omega (arith, two);
      out = r.room.apart.0;
    }

    pub hooked_else : (i : ℕ) → NotField s i → NotSlot s b j i → (Inside s x i → ⊥) → get_or (hooked c s b j) i 0 ≡ get_or c i 0
    hooked_else i a h n = rw hooked_is (slotted_else s good (taken c s) xs t_room b j x r.low r.fits i h ∙ taken_else s good c x xs r.room i a n)

    pub hooked-slot : slot (hooked c s b j) s b j ≡ x
    hooked-slot = rw hooked_is (slotted_slot s good (taken c s) xs t_room b j x r.low r.fits (r.room.low x (inl refl)))

    pub hooked-zero : (i : ℕ) → Inside s x i → get_or (hooked c s b j) i 0 ≡ 0
    hooked-zero i a =
        rw hooked_is (slotted_same s good (taken c s) xs t_room b j x r.low r.fits x (λ e. r.out (inl (sym e))) i a.0 a.1 ∙ taken-zero s good c x xs r.room i a)

    pub hung-step : (m : ℕ) → hung (suc m) c s b j ≡ hung m (hooked c s b j) s x 0
    unfolding hung
    hung-step m = ap (λ (y : ℕ). hung m (hooked c s b j) s y 0) r.room.links.0

  -- a slot of a block is no part of the field, and lies within the block
  pub block_field : (b i : ℕ) → Inside s b i → NotField s i
  block_field b i p = omega (arith, good.field, good.desc, good.header)

  pub slot-inside : (b j i : ℕ) → j < fan s → slot_place s b j ≤ i → i < slot_place s b j + 4 → Inside s b i
  slot-inside b j i f p q = omega arith

  -- a byte of another block is in no slot of b
  pub slot_apart : (b j b' i : ℕ) → j < fan s → Inside s b' i → b' ≢ b → NotSlot s b j i
  slot_apart b j b' i f a n p q = n (one_block s good b' b i a (slot-inside b j i f p q))

  pub beyond : (b : ℕ) (xs : List ℕ) (i : ℕ) → (In b xs → ⊥) → Inside s b i → Beyond s xs i
  beyond b xs i n a x k a' = n (rw (one_block s good b x i a a') k)

  pub hung-room : (xs rest c : List ℕ) (b j : ℕ) → Ready c s b j (xs ++ rest) → Room (hung (length xs) c s b j) s rest
  unfolding hung
  hung-room [] rest c b j r = r.room
  hung-room (x ∷ xs) rest c b j r =
      rw (hung-step c x (xs ++ rest) b j r (length xs)) (hung-room xs rest (hooked c s b j) x 0 (hooked_ready c x (xs ++ rest) b j r))

  pub hung_else : (xs rest c : List ℕ) (b j : ℕ) → Ready c s b j (xs ++ rest)
      → (i : ℕ) → NotField s i → NotSlot s b j i → Beyond s xs i → get_or (hung (length xs) c s b j) i 0 ≡ get_or c i 0
  unfolding hung
  hung_else [] rest c b j r i a h n = refl
  hung_else (x ∷ xs) rest c b j r i a h n =
      let q = hooked_ready c x (xs ++ rest) b j r in
      rw (hung-step c x (xs ++ rest) b j r (length xs))
      (hung_else xs rest (hooked c s b j) x 0 q i a (λ u v. n x (inl refl) (slot-inside x 0 i q.fits u v)) (λ y k. n y (inr k))
      ∙ hooked_else c x (xs ++ rest) b j r i a h (n x (inl refl)))

  pub hung_hangs : (xs rest c : List ℕ) (b j : ℕ) → Ready c s b j (xs ++ rest) → Hangs (hung (length xs) c s b j) s b j xs
  unfolding hung
  hung_hangs [] rest c b j r = tt
  hung_hangs (x ∷ xs) rest c b j r =
      let q = hooked_ready c x (xs ++ rest) b j r in
      subst (λ (c' : List ℕ). Hangs c' s b j (x ∷ xs)) (sym (hung-step c x (xs ++ rest) b j r (length xs))) (
        num_agree 4 _ (hooked c s b j) (slot_place s b j) (λ i u v.
            let a = slot-inside b j i r.fits u v in
            hung_else xs rest (hooked c s b j) x 0 q i (block_field b i a) (slot_apart x 0 b i q.fits a (λ e. r.out (inl e)))
            (beyond b xs i (λ k. r.out (inr (in_left b xs rest k))) a))
            ∙ hooked-slot c x (xs ++ rest) b j r,
        hung_hangs xs rest (hooked c s b j) x 0 q,
      )

  -- the new blocks hold zeros, but for slot 0 of each but the last
  pub hung_blank : (xs rest c : List ℕ) (b j : ℕ) → Ready c s b j (xs ++ rest)
      → (y : ℕ) → In y xs → (i : ℕ) → Inside s y i → NotSlot s y 0 i → get_or (hung (length xs) c s b j) i 0 ≡ 0
  unfolding hung
  hung_blank [] rest c b j r y x4 i a h = elim x4 [ ]
  hung_blank (x ∷ xs) rest c b j r y (inl e) i a h =
      let q = hooked_ready c x (xs ++ rest) b j r in
      rw (hung-step c x (xs ++ rest) b j r (length xs))
      (hung_else xs rest (hooked c s b j) x 0 q i (block_field y i a) (rw (← e) h) (beyond x xs i (λ k. q.out (in_left x xs rest k)) (rw (← e) a))
      ∙ hooked-zero c x (xs ++ rest) b j r i (rw (← e) a))
  hung_blank (x ∷ xs) rest c b j r y (inr k) i a h =
      rw (hung-step c x (xs ++ rest) b j r (length xs)) (hung_blank xs rest (hooked c s b j) x 0 (hooked_ready c x (xs ++ rest) b j r) y k i a h)

  pub hung-last : (x : ℕ) (xs rest c : List ℕ) (b j : ℕ) → Ready c s b j (x ∷ xs ++ rest)
      → (i : ℕ) → Inside s (last_of x xs) i → get_or (hung (suc (length xs)) c s b j) i 0 ≡ 0
  unfolding hung
  hung-last x [] rest c b j r i a = hooked-zero c x rest b j r i a
  hung-last x (y ∷ ys) rest c b j r i a =
      rw (hung-step c x (y ∷ ys ++ rest) b j r (suc (length ys))) (hung-last y ys rest (hooked c s b j) x 0 (hooked_ready c x (y ∷ ys ++ rest) b j r) i a)

  last-get_or : (x : ℕ) (xs : List ℕ) → get_or (x ∷ xs) (length xs) 0 ≡ last_of x xs
  last-get_or x [] = refl
  last-get_or x (y ∷ ys) = last-get_or y ys

  pub hung_end : (xs rest c : List ℕ) (b j : ℕ) → Ready c s b j (xs ++ rest)
      → (n i : ℕ) → suc n ≡ length xs → Inside s (get_or xs n 0) i → get_or (hung (length xs) c s b j) i 0 ≡ 0
  hung_end [] rest c b j r n i e a = absurd (omega arith)
  hung_end (x ∷ xs) rest c b j r n i e a =
      let t : n ≡ length xs = omega arith in
      hung-last x xs rest c b j r i (rw (t, last-get_or x xs) at a)
