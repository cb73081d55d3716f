-- Growth by one data block: what the new card's pyramid and chain are.
use mathlib.Core.Path.{◌≡◌, refl, sym, ap}
use mathlib.Core.Logic.{inl, inr}
use mathlib.Core.List.{List, [], ◌∷◌, ◌++◌}
use Prim.Native.Nat.{ℕ, zero, suc, ◌+◌, ◌-◌, ◌*◌, ◌/◌, ◌%◌, ◌≤◌, ◌<◌}
use native.Mathlib.Nat.{mod-lt, eq-or-lt_of_le, div-add-mod'}
use native.Mathlib.Omega.{arith}
use lib.ListN.{length, get_or}
use Rattle.laws.proofs.ByteLaws.{num_agree}
use Rattle.laws.proofs.Lists.{In, in_left}
use Rattle.layout.specs.Pyramid.{level, above, missing}
use Rattle.laws.proofs.Levels.{level_holds, missing_le, missing-level, present_level, missing-slot}
use Rattle.layout.specs.Blocks.{fan, slot_place, node, hung, rooted}
use Rattle.laws.proofs.Frame.{Inside, same-node}
use Rattle.laws.proofs.Chain.{Good, Room, one_block}
use Rattle.laws.proofs.Hanging.{Hangs, NotField, NotSlot, Beyond, Ready, two, slot-inside, block_field, beyond, hung-room, hung_else, hung_hangs, hung_end}
use Rattle.layout.specs.declared.Shape.{Shape}

-- the pyramid of height h over d data blocks: its blocks are in range, none stands twice and none is free
pub record Skeleton (c : List ℕ) (s : Shape) (top h d : ℕ) (free : List ℕ) : Type 0 where
  pub low : (e k j : ℕ) → e + k ≡ h → j < level (fan s) k d → node c s top e j < s.count
  pub apart : (e k j e' k' j' : ℕ) → e + k ≡ h → j < level (fan s) k d → e' + k' ≡ h → j' < level (fan s) k' d → node c s top e j ≡ node c s top e' j' → (k ≡ k') × (j ≡ j')
  pub out : (e k j : ℕ) → e + k ≡ h → j < level (fan s) k d → In (node c s top e j) free → ⊥

-- along a row of hung blocks the nodes are those blocks
module _ (c : List ℕ) (s : Shape) (top d : ℕ) where
  hangs_head : (x : ℕ) (xs : List ℕ) (b j e : ℕ) → Hangs c s b j (x ∷ xs) → b ≡ node c s top e (above (fan s) (suc (length xs)) d)
      → j ≡ above (fan s) (length xs) d % fan s → node c s top (suc e) (above (fan s) (length xs) d) ≡ x
  unfolding node above
  hangs_head x xs b j e h p q = rw (← p, ← q) h.0

  hangs_nodes : (xs : List ℕ) (b j e : ℕ) → Hangs c s b j xs → b ≡ node c s top e (above (fan s) (length xs) d)
      → j ≡ above (fan s) (length xs - 1) d % fan s → ((k : ℕ) → suc k < length xs → above (fan s) k d % fan s ≡ 0)
      → (e' k i : ℕ) → e' ≡ e + suc i → k + suc i ≡ length xs → node c s top e' (above (fan s) k d) ≡ get_or xs i 0
  hangs_nodes [] b j e h p q z e' k i u v = absurd (omega arith)
  hangs_nodes (x ∷ xs) b j e h p q z e' k zero u v =
      let n : suc (length xs) - 1 ≡ length xs = omega arith in
      let a : e' ≡ suc e = omega arith in
      let t : k ≡ length xs = omega arith in
      rw (a, t) (hangs_head x xs b j e h p (rw n at q))
  hangs_nodes (x ∷ xs) b j e h p q z e' k (suc i) u v =
      let n : suc (length xs) - 1 ≡ length xs = omega arith in
      hangs_nodes xs x 0 (suc e) h.1 (sym (hangs_head x xs b j e h p (rw n at q))) (sym (z (length xs - 1) (omega arith))) (λ k l. z k (omega arith)) e' k i (omega arith) (omega arith)

module _ (s : Shape) (good : Good s) (c : List ℕ) (top h d : ℕ) (xs rest : List ℕ)
    (room : Room c s (xs ++ rest)) (sk : Skeleton c s top h d (xs ++ rest))
    (many : length xs ≡ missing (fan s) h d) (some : 1 ≤ length xs) (first : above (fan s) h d ≡ 0) (single : level (fan s) h d ≡ 1) where
  -- the lowest block there is above data block d, and the slot in it
  stem : ℕ
  stem = node c s top (h - length xs) (above (fan s) (length xs) d)

  nook : ℕ
  nook = above (fan s) (length xs - 1) d % fan s

  rooted_is : rooted c s top h d ≡ hung (length xs) c s stem nook
  unfolding rooted stem nook
  rooted_is = rw many

  small : length xs ≤ h
  small = rw many (missing_le (fan s) (two s good) h d)

  stem_cell : above (fan s) (length xs) d < level (fan s) (length xs) d
  stem_cell = elim (eq-or-lt_of_le small) [
    | inl e ↦ rw (e, first, single) (omega arith)
    | inr l ↦ omega (arith, present_level (fan s) (two s good) h (length xs) d (omega arith) l)
  ]

  ready : Ready c s stem nook (xs ++ rest)
  unfolding stem nook
  ready = record {
    room = room;
    low = sk.low (h - length xs) (length xs) (above (fan s) (length xs) d) (omega (arith, small)) stem_cell;
    fits = mod-lt _ (omega (arith, two s good));
    out = sk.out (h - length xs) (length xs) (above (fan s) (length xs) d) (omega (arith, small)) stem_cell;
  }

  pub rooted-room : Room (rooted c s top h d) s rest
  rooted-room = rw rooted_is (hung-room s good xs rest c stem nook ready)

  rooted_else : (i : ℕ) → NotField s i → NotSlot s stem nook i → Beyond s xs i → get_or (rooted c s top h d) i 0 ≡ get_or c i 0
  rooted_else i a n b = rw rooted_is (hung_else s good xs rest c stem nook ready i a n b)

  -- what is not in the field, a block taken or a redirector stays
  pub rooted-rest : (i : ℕ) → NotField s i → Beyond s xs i → ((e k j : ℕ) → 1 ≤ k → e + k ≡ h → j < level (fan s) k d → Inside s (node c s top e j) i → ⊥) → get_or (rooted c s top h d) i 0 ≡ get_or c i 0
  unfolding stem
  rooted-rest i a b n =
      rooted_else i a (λ u v. n (h - length xs) (length xs) (above (fan s) (length xs) d) some (omega (arith, small)) stem_cell (slot-inside s good stem nook i ready.fits u v)) b

  -- the slot that is set is not in use
  unused : (e k j i : ℕ) → e + suc k ≡ h → j < level (fan s) k d → slot_place s (node c s top e (j / fan s)) (j % fan s) ≤ i → i < slot_place s (node c s top e (j / fan s)) (j % fan s) + 4 → NotSlot s stem nook i
  unfolding stem nook above
  unused e k j i p q u v u' v' =
      let b = node c s top e (j / fan s) in
      let f : j % fan s < fan s = mod-lt j (omega (arith, two s good)) in
      let same : b ≡ stem = one_block s good b stem i (slot-inside s good b (j % fan s) i f u v) (slot-inside s good stem nook i ready.fits u' v') in
      let cell = sk.apart e (suc k) (j / fan s) (h - length xs) (length xs) (above (fan s) (length xs) d) p (level_holds (fan s) (two s good) k d j q) (omega (arith, small)) stem_cell same in
      let mk : length xs ≡ suc k = omega (arith, cell.0) in
      let mk' : length xs - 1 ≡ k = omega arith in
      let quot : j / fan s ≡ above (fan s) k d / fan s = rw mk at cell.1 in
      let slots : j % fan s ≡ above (fan s) (length xs - 1) d % fan s = omega (arith, ap (λ (x : ℕ). x * s.size) same) in
      let rem : j % fan s ≡ above (fan s) k d % fan s = rw mk' at slots in
      omega (arith, rw quot at (div-add-mod' j (fan s)), rem, div-add-mod' (above (fan s) k d) (fan s), missing-level (fan s) (two s good) h k d (omega arith))

  -- every block that was there is where it was
  pub rooted_old : (e k j : ℕ) → e + k ≡ h → j < level (fan s) k d → node (rooted c s top h d) s top e j ≡ node c s top e j
  rooted_old = same-node s (two s good) c (rooted c s top h d) top h d (λ e k j p q.
      let b = node c s top e (j / fan s) in
      num_agree 4 (rooted c s top h d) c (slot_place s b (j % fan s)) (λ i u v.
      let a = slot-inside s good b (j % fan s) i (mod-lt j (omega (arith, two s good))) u v in
      rooted_else i (block_field s good b i a) (unused e k j i p q u v)
      (beyond s good b xs i (λ n. sk.out e (suc k) (j / fan s) p (level_holds (fan s) (two s good) k d j q) (in_left b xs rest n)) a)))

  -- the new ones are the blocks taken, in order
  pub rooted_new : (e k i : ℕ) → e + k ≡ h → k + suc i ≡ length xs → node (rooted c s top h d) s top e (above (fan s) k d) ≡ get_or xs i 0
  unfolding stem nook
  rooted_new e k i p q =
      hangs_nodes (rooted c s top h d) s top d xs stem nook (h - length xs) (rw rooted_is (hung_hangs s good xs rest c stem nook ready))
      (sym (rooted_old (h - length xs) (length xs) (above (fan s) (length xs) d) (omega (arith, small)) stem_cell)) refl
      (λ k l. missing-slot (fan s) (two s good) h k d (omega arith)) e k i (omega (arith, small)) q

  -- the new data block holds zeros
  pub rooted-zero : (i : ℕ) → Inside s (node (rooted c s top h d) s top h d) i → get_or (rooted c s top h d) i 0 ≡ 0
  unfolding above
  rooted-zero i a =
      rw rooted_is (hung_end s good xs rest c stem nook ready (length xs - 1) i (omega arith)
      (rw (rooted_new h 0 (length xs - 1) (omega arith) (omega arith)) at a))
