-- A new top over the old one.
use mathlib.Core.Path.{◌≡◌, refl, sym, ◌∙◌}
use mathlib.Core.Logic.{◌≢◌, inl, inr}
use mathlib.Core.List.{List, ◌∷◌}
use Prim.Native.Nat.{ℕ, zero, suc, ◌+◌, ◌/◌, ◌%◌, ◌≤◌, ◌<◌}
use native.Mathlib.Nat.{mod-lt, zero-mod}
use native.Mathlib.Omega.{arith}
use lib.ListN.{get_or}
use Rattle.layout.specs.Bytes.{put}
use Rattle.laws.proofs.Lists.{In}
use Rattle.layout.specs.Pyramid.{level, above}
use Rattle.laws.proofs.Levels.{level_holds, above-div, above-level, one_more}
use Rattle.layout.specs.Blocks.{fan, slot_place, slot, node, taken}
use Rattle.laws.proofs.Frame.{Inside, SameIn, same-slot, same-node}
use Rattle.laws.proofs.Chain.{Good, Room, one_block, taken_else, taken-room, slotted_else, slotted_slot, slotted_room}
use Rattle.laws.proofs.Hanging.{NotField, two, slot-inside, block_field}
use Rattle.laws.proofs.Growth.{Skeleton}
use Rattle.layout.specs.declared.Shape.{Shape}

-- from the second level on, a pyramid is one of those below its top's slots
pub node-below : (c : List ℕ) (s : Shape) (two : 2 ≤ fan s) (x e j : ℕ) → node c s x (suc e) j ≡ node c s (slot c s x (above (fan s) e j % fan s)) e j
unfolding node above
node-below c s two x zero j = refl
node-below c s two x (suc e) j =
    rw (node-below c s two x e (j / fan s), ← above-div (fan s) two e j)

-- block x is taken, and its slot 0 names the top
abbrev pub crowned : List ℕ → Shape → ℕ → ℕ → List ℕ
crowned c s top x = put 4 (taken c s) (slot_place s x 0) top

module _ (s : Shape) (good : Good s) (c : List ℕ) (top h d x : ℕ) (free : List ℕ)
    (room : Room c s (x ∷ free)) (sk : Skeleton c s top h d (x ∷ free)) (single : level (fan s) h d ≡ 1) where
  t_room : Room (taken c s) s free
  t_room = taken-room s good c x free room

  x_low : x < s.count
  x_low = room.low x (inl refl)

  zero_fits : 0 < fan s
  zero_fits = omega (arith, two s good)

  top-low : top < s.count
  unfolding node
  top-low = sk.low 0 h 0 (omega arith) (omega arith)

  pub crowned_room : Room (crowned c s top x) s free
  crowned_room = slotted_room s good (taken c s) free t_room x 0 top x_low zero_fits room.apart.0

  pub crowned_else : (i : ℕ) → NotField s i → (Inside s x i → ⊥) → get_or (crowned c s top x) i 0 ≡ get_or c i 0
  crowned_else i a n =
      slotted_else s good (taken c s) free t_room x 0 top x_low zero_fits i (λ u v. n (slot-inside s good x 0 i zero_fits u v)) ∙ taken_else s good c x free room i a n

  pub crowned_same : (b : ℕ) → b ≢ x → SameIn s c (crowned c s top x) b
  crowned_same b n i p q = crowned_else i (block_field s good b i (p, q)) (λ a. n (one_block s good b x i (p, q) a))

  pub crowned_slot : slot (crowned c s top x) s x 0 ≡ top
  crowned_slot = slotted_slot s good (taken c s) free t_room x 0 top x_low zero_fits top-low

  not_x : (e k j : ℕ) → e + k ≡ h → j < level (fan s) k d → node c s top e j ≢ x
  not_x e k j p q n = sk.out e k j p q (inl n)

  pub crowned_old : (e k j : ℕ) → e + k ≡ h → j < level (fan s) k d → node (crowned c s top x) s x (suc e) j ≡ node c s top e j
  crowned_old e k j p q =
      let z : above (fan s) e j ≡ 0 = omega (arith, rw p at (above-level (fan s) (two s good) e k d j q)) in
      rw (node-below (crowned c s top x) s (two s good) x e j, z, zero-mod (fan s), crowned_slot)
      (same-node s (two s good) c (crowned c s top x) top h d (λ e k j p q. same-slot s (two s good) c (crowned c s top x) _ _ (mod-lt j zero_fits)
      (crowned_same _ (not_x e (suc k) (j / fan s) p (level_holds (fan s) (two s good) k d j q)))) e k j p q)

  pub crowned_skeleton : Skeleton (crowned c s top x) s x (suc h) d free
  unfolding node
  crowned_skeleton = record { low = low; apart = apart; out = out }
    where
      low : (e k j : ℕ) → e + k ≡ suc h → j < level (fan s) k d → node (crowned c s top x) s x e j < s.count
      low zero k j p q = x_low
      low (suc e) k j p q = rw (crowned_old e k j (omega arith) q) (sk.low e k j (omega arith) q)

      out : (e k j : ℕ) → e + k ≡ suc h → j < level (fan s) k d → In (node (crowned c s top x) s x e j) free → ⊥
      out zero k j p q i = room.apart.0 i
      out (suc e) k j p q i = sk.out e k j (omega arith) q (inr (rw (crowned_old e k j (omega arith) q) at i))

      only : (k j : ℕ) → 0 + k ≡ suc h → j < level (fan s) k d → j ≡ 0
      only k j p q = let e : k ≡ suc h = omega arith in omega (arith, rw e at q, one_more (fan s) (two s good) h d single)

      apart : (e k j e' k' j' : ℕ) → e + k ≡ suc h → j < level (fan s) k d → e' + k' ≡ suc h → j' < level (fan s) k' d → node (crowned c s top x) s x e j ≡ node (crowned c s top x) s x e' j' → (k ≡ k') × (j ≡ j')
      apart zero k j zero k' j' p q p' q' n = (omega arith, omega (arith, only k j p q, only k' j' p' q'))
      apart zero k j (suc e') k' j' p q p' q' n = absurd (not_x e' k' j' (omega arith) q' (sym (n ∙ crowned_old e' k' j' (omega arith) q')))
      apart (suc e) k j zero k' j' p q p' q' n = absurd (not_x e k j (omega arith) q (sym (crowned_old e k j (omega arith) q) ∙ n))
      apart (suc e) k j (suc e') k' j' p q p' q' n =
          sk.apart e k j e' k' j' (omega arith) q (omega arith) q' (sym (crowned_old e k j (omega arith) q) ∙ n ∙ crowned_old e' k' j' (omega arith) q')
