-- One data block more: the chain, the pyramid and the bytes of the card then.
use mathlib.Core.Path.{◌≡◌, sym, ap, ◌∙◌}
use mathlib.Core.Logic.{inl, inr}
use mathlib.Core.List.{List, ◌++◌}
use Prim.Native.Nat.{ℕ, suc, ◌+◌, ◌-◌, ◌<◌}
use native.Mathlib.Omega.{arith}
use lib.ListN.{length, get_or}
use Rattle.laws.proofs.Lists.{In, Distinct, in_left, in_right, distinct_left, distinct_apart, map_apart, in-get_or, get_or-apart}
use Rattle.layout.specs.Pyramid.{level, above, height, P}
use Rattle.laws.proofs.Levels.{split}
use Rattle.layout.specs.Blocks.{fan, node, Cell, at, cells, surplus, pyramid, grown_one, Grown}
use Rattle.laws.proofs.Cells.{in_cells, kept_none}
use Rattle.laws.proofs.Frame.{SameIn, in_pyramid}
use Rattle.laws.proofs.Chain.{Good, Room, one_block}
use Rattle.laws.proofs.Hanging.{two, block_field, beyond}
use Rattle.laws.proofs.Growth.{Skeleton}
use Rattle.laws.proofs.Growing.{Grew, grew}
use Rattle.layout.specs.declared.Shape.{Shape}

module _ (s : Shape) (good : Good s) where
  cell_in : (d e k j : ℕ) → e + k ≡ height (fan s) d → j < level (fan s) k d → In (record { k = k; j = j }) (cells (fan s) d 0 (height (fan s) d))
  cell_in d e k j p q = in_cells (fan s) d 0 (height (fan s) d) k j (omega arith) (rw (kept_none (fan s) (two s good) k) (omega arith)) q

  -- a pyramid whose blocks are in range, each once, and none free
  pub skeleton : (c : List ℕ) (top d : ℕ) (free : List ℕ) → ((b : ℕ) → In b (pyramid c s top d) → b < s.count) → Distinct (pyramid c s top d ++ free) → Skeleton c s top (height (fan s) d) d free
  unfolding surplus
  skeleton c top d free low dis = record {
    low = λ e k j p q. low (node c s top e j) (in_pyramid s (two s good) c top d e k j p q);
    apart = λ e k j e' k' j' p q p' q' n.
        (let a : height (fan s) d - k ≡ e = omega arith in
        let a' : height (fan s) d - k' ≡ e' = omega arith in
        let same = map_apart (at c s top (height (fan s) d)) (cells (fan s) d 0 (height (fan s) d)) (distinct_left (pyramid c s top d) free dis)
        (record { k = k; j = j }) (record { k = k'; j = j' }) (cell_in d e k j p q) (cell_in d e' k' j' p' q') (rw (a, a') n) in
        (ap (λ (x : Cell). x.k) same, ap (λ (x : Cell). x.j) same));
    out = λ e k j p q i. distinct_apart (pyramid c s top d) free dis (node c s top e j) (in_pyramid s (two s good) c top d e k j p q) i;
  }

  module _ (c : List ℕ) (top d : ℕ) (xs rest : List ℕ) (room : Room c s (xs ++ rest)) (sk : Skeleton c s top (height (fan s) d) d (xs ++ rest))
      (many : P (fan s) (suc d) ≡ P (fan s) d + length xs) where
    abbrev g : Grown
    g = grown_one c s top d

    all : Grew s c top d xs rest (grown_one c s top d)
    all = grew s good c top d xs rest room sk many

    -- the data stays
    pub grown_data : (j : ℕ) → j < d → SameIn s c g.card (node c s top (height (fan s) d) j)
    unfolding level
    grown_data j l i p q =
        let b = node c s top (height (fan s) d) j in
        all.rest-same i (block_field s good b i (p, q)) (beyond s good b xs i (λ n. sk.out (height (fan s) d) 0 j (omega arith) l (in_left b xs rest n)) (p, q))
        (λ e k j' o u v w. (let z = sk.apart (height (fan s) d) 0 j e k j' (omega arith) l u v (one_block s good b _ i (p, q) w) in omega arith))

    -- the new pyramid is one, and none of its blocks is free
    pub data Which (e k j : ℕ) : Type 0 where
      was : (e' : ℕ) → e' + k ≡ height (fan s) d → j < level (fan s) k d → node g.card s g.top e j ≡ node c s top e' j → Which e k j
      is_new : (i : ℕ) → i < length xs → k + suc i ≡ length xs → j ≡ above (fan s) k d → node g.card s g.top e j ≡ get_or xs i 0 → Which e k j

    pub which : (e k j : ℕ) → e + k ≡ height (fan s) (suc d) → j < level (fan s) k (suc d) → Which e k j
    which e k j p q = elim (split (fan s) (two s good) d k j (length xs) many (omega arith) q) [
      | inl a ↦ was (height (fan s) d - k) (omega arith) a.1 (all.old (height (fan s) d - k) e k j (omega arith) p a.1)
      | inr b ↦ is_new (length xs - suc k) (omega arith) (omega arith) b.0 (rw b.0 (all.new e k (length xs - suc k) p (omega arith)))
    ]

    taken_in : (i : ℕ) → i < length xs → In (get_or xs i 0) (xs ++ rest)
    taken_in i l = in_left _ xs rest (in-get_or xs i l)

    pub grown_skeleton : Skeleton g.card s g.top (height (fan s) (suc d)) (suc d) rest
    grown_skeleton = record {
      low = λ e k j p q. low e k j (which e k j p q);
      apart = λ e k j e' k' j' p q p' q' n. apart e k j e' k' j' n (which e k j p q) (which e' k' j' p' q');
      out = λ e k j p q. out e k j (which e k j p q);
    }
      where
        low : (e k j : ℕ) → Which e k j → node g.card s g.top e j < s.count
        low e k j (was e' p q n) = rw n (sk.low e' k j p q)
        low e k j (is_new i l t z n) = rw n (room.low _ (taken_in i l))

        out : (e k j : ℕ) → Which e k j → In (node g.card s g.top e j) rest → ⊥
        out e k j (was e' p q n) r = sk.out e' k j p q (in_right _ xs rest (rw n at r))
        out e k j (is_new i l t z n) r = distinct_apart xs rest room.apart _ (in-get_or xs i l) (rw n at r)

        apart : (e k j e' k' j' : ℕ) → node g.card s g.top e j ≡ node g.card s g.top e' j' → Which e k j → Which e' k' j' → (k ≡ k') × (j ≡ j')
        apart e k j e' k' j' n (was a p q m) (was a' p' q' m') = sk.apart a k j a' k' j' p q p' q' (sym m ∙ n ∙ m')
        apart e k j e' k' j' n (was a p q m) (is_new i l t z m') = absurd (sk.out a k j p q (rw (sym m ∙ n ∙ m') (taken_in i l)))
        apart e k j e' k' j' n (is_new i l t z m) (was a p q m') = absurd (sk.out a k' j' p q (rw (sym m' ∙ sym n ∙ m) (taken_in i l)))
        apart e k j e' k' j' n (is_new i l t z m) (is_new i' l' t' z' m') =
            let w : i ≡ i' = get_or-apart xs (distinct_left xs rest room.apart) i i' l l' (sym m ∙ n ∙ m') in
            let kk : k ≡ k' = omega arith in
            (kk, z ∙ ap (λ (x : ℕ). above (fan s) x d) kk ∙ sym z')
