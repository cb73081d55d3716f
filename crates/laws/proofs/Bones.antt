-- A pyramid's blocks from its skeleton, and a skeleton on another card.
use mathlib.Core.Path.{◌≡◌, sym, ◌∙◌}
use mathlib.Core.List.{List}
use Prim.Native.Nat.{ℕ, ◌+◌, ◌-◌, ◌≤◌, ◌<◌}
use native.Mathlib.Omega.{arith}
use Rattle.laws.proofs.Lists.{In, Distinct, map_agree, map-distinct}
use Rattle.layout.specs.Pyramid.{level, height}
use Rattle.layout.specs.Blocks.{fan, node, at, cells, surplus, pyramid}
use Rattle.laws.proofs.Frame.{SameIn, in_pyramid, pyramid_in, frame_node}
use Rattle.laws.proofs.Cells.{cells_in, cells-distinct, level_none}
use Rattle.laws.proofs.Growth.{Skeleton}
use Rattle.layout.specs.declared.Shape.{Shape}

module _ (s : Shape) (two : 2 ≤ fan s) where
  -- what a smaller pyramid does not need stands once
  pub surplus-distinct : (c : List ℕ) (top d d' : ℕ) (free : List ℕ) → Skeleton c s top (height (fan s) d) d free → Distinct (surplus c s top d d')
  unfolding surplus
  surplus-distinct c top d d' free sk = map-distinct (at c s top (height (fan s) d)) (cells (fan s) d d' (height (fan s) d)) (cells-distinct (fan s) d d' (height (fan s) d))
      (λ p q i i' e.
      let h = height (fan s) d in
      let a = cells_in (fan s) d d' h p i in
      let b = cells_in (fan s) d d' h q i' in
      let r = sk.apart (h - p.k) p.k p.j (h - q.k) q.k q.j (omega arith) a.2 (omega arith) b.2 e in
      λ t. record { k = r.0 t; j = r.1 t })

  pub skeleton_low : (c : List ℕ) (top d : ℕ) (free : List ℕ) → Skeleton c s top (height (fan s) d) d free → (b : ℕ) → In b (pyramid c s top d) → b < s.count
  skeleton_low c top d free sk b i = let r = pyramid_in s two c top d b i in rw r.5 (sk.low r.0 r.1 r.2 r.3 r.4)

  pub skeleton_out : (c : List ℕ) (top d : ℕ) (free : List ℕ) → Skeleton c s top (height (fan s) d) d free → (b : ℕ) → In b (pyramid c s top d) → In b free → ⊥
  skeleton_out c top d free sk b i k = let r = pyramid_in s two c top d b i in sk.out r.0 r.1 r.2 r.3 r.4 (rw r.5 at k)

  -- no data, no bones
  pub skeleton_none : (c : List ℕ) (top h : ℕ) (free : List ℕ) → Skeleton c s top h 0 free
  skeleton_none c top h free = record {
    low = λ e k j p q. absurd (omega (arith, level_none (fan s) two k));
    apart = λ e k j e' k' j' p q. absurd (omega (arith, level_none (fan s) two k));
    out = λ e k j p q. absurd (omega (arith, level_none (fan s) two k));
  }

  -- the same nodes, the same blocks
  pub pyramid_nodes : (c c' : List ℕ) (top d : ℕ) → ((e k j : ℕ) → e + k ≡ height (fan s) d → j < level (fan s) k d → node c' s top e j ≡ node c s top e j) → pyramid c' s top d ≡ pyramid c s top d
  unfolding surplus
  pyramid_nodes c c' top d same = map_agree _ _ (cells (fan s) d 0 (height (fan s) d)) (λ p i.
      let r = cells_in (fan s) d 0 (height (fan s) d) p i in
      same (height (fan s) d - p.k) p.k p.j (omega arith) r.2)

  -- a card with the same bytes in its blocks, and another chain
  pub frame_skeleton : (c c' : List ℕ) (top d : ℕ) (free free' : List ℕ) → ((b : ℕ) → In b (pyramid c s top d) → SameIn s c c' b)
      → Skeleton c s top (height (fan s) d) d free → ((b : ℕ) → In b (pyramid c s top d) → In b free' → ⊥) → Skeleton c' s top (height (fan s) d) d free'
  frame_skeleton c c' top d free free' same sk out = record {
    low = λ e k j p q. rw (n e k j p q) (sk.low e k j p q);
    apart = λ e k j e' k' j' p q p' q' u. sk.apart e k j e' k' j' p q p' q' (sym (n e k j p q) ∙ u ∙ n e' k' j' p' q');
    out = λ e k j p q i. out (node c s top e j) (in_pyramid s two c top d e k j p q) (rw (n e k j p q) at i);
  }
    where
      n : (e k j : ℕ) → e + k ≡ height (fan s) d → j < level (fan s) k d → node c' s top e j ≡ node c s top e j
      n = frame_node s two c c' top d same
