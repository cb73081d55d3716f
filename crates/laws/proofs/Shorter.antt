-- Fewer data blocks: what is kept, and what is free then.
use mathlib.Core.Path.{◌≡◌, sym, ◌∙◌}
use mathlib.Core.Logic.{inl, inr}
use mathlib.Core.List.{List, ◌++◌}
use Prim.Native.Nat.{ℕ, zero, suc, ◌+◌, ◌-◌, ◌/◌, ◌≤◌, ◌<◌}
use native.Mathlib.Nat.{mod-lt, add-zero, add-suc}
use native.Mathlib.Omega.{arith}
use Rattle.laws.proofs.Picks.{leb_yes, eqb_no}
use Rattle.laws.proofs.Lists.{In, in_either, map_in}
use Rattle.layout.specs.Pyramid.{level, above, height}
use Rattle.laws.proofs.Levels.{level_holds, above-div, above-level, one-top, level_mono, height_mono}
use Rattle.layout.specs.Blocks.{fan, node, at, kept, cells, surplus, rising, given_back, lowered_top}
use Rattle.laws.proofs.Frame.{SameIn, same-slot, same-node}
use Rattle.laws.proofs.Cells.{cells_in}
use Rattle.laws.proofs.Chain.{Good, Room, one_block}
use Rattle.laws.proofs.Hanging.{two, block_field}
use Rattle.laws.proofs.Growth.{Skeleton}
use Rattle.laws.proofs.GiveBack.{given_room, given_else, rising_in}
use Rattle.layout.specs.declared.Shape.{Shape}

-- a pyramid below a node
pub node_deep : (c : List ℕ) (s : Shape) (two : 2 ≤ fan s) (top a e j : ℕ) → node c s top (a + e) j ≡ node c s (node c s top a (above (fan s) e j)) e j
unfolding node above
node_deep c s two top a zero j = rw add-zero
node_deep c s two top a (suc e) j = rw (add-suc a e, node_deep c s two top a e (j / fan s), ← above-div (fan s) two e j)

module _ (s : Shape) (good : Good s) (c : List ℕ) (top d d' : ℕ) (free : List ℕ) (room : Room c s free) (sk : Skeleton c s top (height (fan s) d) d free) (less : d' ≤ d) where
  abbrev h : ℕ
  h = height (fan s) d

  abbrev h' : ℕ
  h' = height (fan s) d'

  abbrev gone : List ℕ
  gone = surplus c s top d d'

  abbrev card : List ℕ
  card = given_back c s gone

  pub surplus_in : (b : ℕ) → In b gone → (e k j : ℕ) × (e + k ≡ h) × (kept (fan s) k d' ≤ j) × (j < level (fan s) k d) × (b ≡ node c s top e j)
  unfolding surplus
  surplus_in b i =
      let r = map_in (at c s top h) b (cells (fan s) d d' h) i in
      let p = cells_in (fan s) d d' h r.0 r.1 in
      (h - r.0.k, r.0.k, r.0.j, omega arith, p.1, p.2, r.2)

  pub gone_low : (b : ℕ) → In b gone → b < s.count
  gone_low b i = let r = surplus_in b i in rw r.6 (sk.low r.0 r.1 r.2 r.3 r.5)

  pub gone_out : (b : ℕ) → In b gone → In b free → ⊥
  gone_out b i k = let r = surplus_in b i in sk.out r.0 r.1 r.2 r.3 r.5 (rw r.6 at k)

  -- what d' data blocks need is not given back
  pub stays : (e k j : ℕ) → e + k ≡ h → k ≤ h' → j < level (fan s) k d' → In (node c s top e j) gone → ⊥
  unfolding kept
  stays e k j p l q i =
      let r = surplus_in (node c s top e j) i in
      let m = level_mono (fan s) (two s good) k d' d less in
      let z = sk.apart e k j r.0 r.1 r.2 p (omega arith) r.3 r.5 r.6 in
      let n : level (fan s) k d' ≤ r.2 = rw (← z.0, leb_yes l) at r.4 in
      omega arith

  pub shorter-room : Room card s (rising s.count 0 gone ++ free)
  shorter-room = given_room s good c free gone room gone_low gone_out

  -- a block that is not given back keeps its bytes
  pub shorter-same : (b : ℕ) → (In b gone → ⊥) → SameIn s c card b
  shorter-same b n i p q =
      given_else s good c free gone room gone_low gone_out i (block_field s good b i (p, q))
      (λ x k u v. let w = good.wide in n (rw (one_block s good b x i (p, q) (u, omega arith)) k))

  module _ (some : 1 ≤ d') where
    top_is : lowered_top c s top d d' ≡ node c s top (h - h') 0
    unfolding lowered_top
    top_is = rw (eqb_no {a = d'} {b = 0} (omega arith))

    -- the kept pyramid, in the old card
    below : (e k j : ℕ) → e + k ≡ h' → j < level (fan s) k d' → node c s (lowered_top c s top d d') e j ≡ node c s top (h - h' + e) j
    below e k j p q =
        let z : above (fan s) e j ≡ 0 = omega (arith, rw p at (above-level (fan s) (two s good) e k d' j q), one-top (fan s) (two s good) d' some) in
        rw (top_is, node_deep c s (two s good) top (h - h') e j, z)

    pub low-enough : h' ≤ h
    low-enough = height_mono (fan s) (two s good) d' d less

    kept_stays : (e k j : ℕ) → e + k ≡ h' → j < level (fan s) k d' → In (node c s (lowered_top c s top d d') e j) gone → ⊥
    kept_stays e k j p q i = stays (h - h' + e) k j (omega (arith, low-enough)) (omega arith) q (rw (below e k j p q) at i)

    -- and in the new
    pub shorter-node : (e k j : ℕ) → e + k ≡ h' → j < level (fan s) k d' → node card s (lowered_top c s top d d') e j ≡ node c s top (h - h' + e) j
    shorter-node e k j p q =
        same-node s (two s good) c card (lowered_top c s top d d') h' d' (λ e k j p q. same-slot s (two s good) c card _ _ (mod-lt j (omega (arith, two s good)))
        (shorter-same _ (kept_stays e (suc k) (j / fan s) p (level_holds (fan s) (two s good) k d' j q)))) e k j p q
        ∙ below e k j p q

    pub shorter_skeleton : Skeleton card s (lowered_top c s top d d') h' d' (rising s.count 0 gone ++ free)
    shorter_skeleton = record {
      low = λ e k j p q. rw (shorter-node e k j p q) (sk.low (h - h' + e) k j (omega (arith, low-enough)) (in_old k j q));
      apart = λ e k j e₁ k₁ j₁ p q p₁ q₁ n. sk.apart (h - h' + e) k j (h - h' + e₁) k₁ j₁ (omega (arith, low-enough)) (in_old k j q) (omega (arith, low-enough)) (in_old k₁ j₁ q₁)
          (sym (shorter-node e k j p q) ∙ n ∙ shorter-node e₁ k₁ j₁ p₁ q₁);
      out = λ e k j p q i. elim (in_either _ (rising s.count 0 gone) free (rw (shorter-node e k j p q) at i)) [
        | inl a ↦ stays (h - h' + e) k j (omega (arith, low-enough)) (omega arith) q (rising_in gone s.count 0 _ a)
        | inr b ↦ sk.out (h - h' + e) k j (omega (arith, low-enough)) (in_old k j q) b
      ];
    }
      where
        in_old : (k j : ℕ) → j < level (fan s) k d' → j < level (fan s) k d
        in_old k j q = omega (arith, level_mono (fan s) (two s good) k d' d less)
