-- The blocks that a stream no longer needs once it is shorter: which they are depends on its blocks and its length alone.
use mathlib.Core.Path.{◌≡◌, refl, sym, ap, ◌∙◌}
use mathlib.Core.Logic.{inl, inr}
use mathlib.Core.List.{List, [], ◌∷◌, map}
use Prim.Native.Nat.{ℕ, ◌+◌, ◌-◌, ◌/◌, ◌%◌, ◌≤◌, ◌<◌}
use native.Mathlib.Nat.{div-lt_iff_lt-mul}
use native.Mathlib.Omega.{arith}
use lib.ListN.{length}
use Rattle.layout.specs.Pyramid.{level, height}
use Rattle.layout.specs.Blocks.{fan, place, Cell, at, cells, surplus, pyramid, rising}
use Rattle.layout.specs.Streams.{data_of, data_for, spot, tall, stream, stream_blocks}
use Rattle.laws.proofs.Lists.{In, map_agree}
use Rattle.laws.proofs.Levels.{up-zero}
use Rattle.laws.proofs.Hanging.{two}
use Rattle.laws.proofs.Cells.{cells_in, in_cells, kept_none}
use Rattle.laws.proofs.Counting.{length-surplus, rising_none}
use Rattle.laws.proofs.State.{lives_of, Core, right_data, right_fits}
use Rattle.laws.proofs.Cores.{core_good}
use Rattle.laws.proofs.Moves.{stream_right}
use Rattle.layout.specs.declared.Shape.{Shape}

-- where byte q of stream k stands
abbrev pub stream_spot : List ℕ → Shape → ℕ → ℕ → ℕ
stream_spot c s k q = spot c s (stream c s k).top (tall s (data_of s (stream c s k))) q

-- the blocks of stream k that n bytes do not need
unfoldable pub surplus_of : List ℕ → Shape → ℕ → ℕ → List ℕ
surplus_of c s k n = surplus c s (stream c s k).top (data_of s (stream c s k)) (data_for s n)

-- as they are given back, rising
unfoldable pub spare : List ℕ → Shape → ℕ → ℕ → List ℕ
spare c s k n = rising s.count 0 (surplus_of c s k n)

-- ---- the same blocks, the same surplus, the same places of the bytes

map_same : {A : Type 0} (g g' : A → ℕ) (xs : List A) → map g xs ≡ map g' xs → (x : A) → In x xs → g x ≡ g' x
map_same {A = A} g g' [] e x x4 = elim x4 [ ]
map_same g g' (y ∷ xs) e x (inl u) = let h : g y ≡ g' y = cc in rw u h
map_same g g' (y ∷ xs) e x (inr i) = let t : map g xs ≡ map g' xs = cc in map_same g g' xs t x i

module _ (s : Shape) (f : 2 ≤ fan s) (c c' : List ℕ) (top top' d : ℕ) (same : pyramid c' s top' d ≡ pyramid c s top d) where
  cell_same : (p : Cell) → p.k ≤ height (fan s) d → p.j < level (fan s) p.k d → at c' s top' (height (fan s) d) p ≡ at c s top (height (fan s) d) p
  unfolding surplus
  cell_same p a b =
      let h = height (fan s) d in
      map_same (at c' s top' h) (at c s top h) (cells (fan s) d 0 h) same p (in_cells (fan s) d 0 h p.k p.j a (rw (kept_none (fan s) f p.k) (omega arith)) b)

  surplus-same : (d' : ℕ) → surplus c' s top' d d' ≡ surplus c s top d d'
  unfolding surplus
  surplus-same d' = map_agree _ _ (cells (fan s) d d' (height (fan s) d)) (λ p i. let r = cells_in (fan s) d d' (height (fan s) d) p i in cell_same p r.0 r.2)

  place_same : (q : ℕ) → q / s.size < d → spot c' s top' (tall s d) q ≡ spot c s top (tall s d) q
  unfolding level
  place_same q l =
      let e : height (fan s) d - 0 ≡ height (fan s) d = omega arith in
      ap (λ (b : ℕ). place s b + q % s.size) (rw e at (cell_same (record { k = 0; j = q / s.size }) (omega arith) l))

no_length : (l : List ℕ) → length l ≡ 0 → l ≡ []
no_length [] e = refl
no_length (x ∷ l) e = absurd (omega arith)

module _ (c : List ℕ) (s : Shape) (w : Core c s) (k : ℕ) (lk : In k (lives_of c s)) where
  -- d, by the size
  data_is : data_of s (stream c s k) ≡ data_for s (stream c s k).size
  data_is = right_data s (core_good c s w) (stream c s k) (stream_right c s w k lk)

  -- as long as it was, it spares none
  pub spare_none : (n : ℕ) → n ≡ (stream c s k).size → spare c s k n ≡ []
  unfolding spare surplus_of
  spare_none n e =
      let d = data_of s (stream c s k) in
      let d' : data_for s n ≡ d = rw e (sym data_is) in
      let z = no_length (surplus c s (stream c s k).top d d) (omega (arith, length-surplus s (two s (core_good c s w)) c (stream c s k).top d d (omega arith))) in
      rw (d', z) (no_length _ (rising_none s.count 0))

  -- of no length, it spares all
  pub surplus-all : surplus_of c s k 0 ≡ stream_blocks c s k
  unfolding surplus_of stream_blocks
  surplus-all = rw (up-zero s.size (omega (arith, (core_good c s w).wide)))

  -- another card with the same blocks of the stream
  module _ (c' : List ℕ) (w' : Core c' s) (lk' : In k (lives_of c' s)) (size : (stream c' s k).size ≡ (stream c s k).size) (same : stream_blocks c' s k ≡ stream_blocks c s k) where
    data_same : data_of s (stream c' s k) ≡ data_of s (stream c s k)
    data_same = right_data s (core_good c s w) (stream c' s k) (stream_right c' s w' k lk') ∙ ap (data_for s) size ∙ sym data_is

    same' : pyramid c' s (stream c' s k).top (data_of s (stream c s k)) ≡ pyramid c s (stream c s k).top (data_of s (stream c s k))
    unfolding stream_blocks
    same' = rw data_same at same

    pub surplus_of_lem : (n : ℕ) → surplus_of c' s k n ≡ surplus_of c s k n
    unfolding surplus_of
    surplus_of_lem n = rw data_same (surplus-same s (two s (core_good c s w)) c c' (stream c s k).top (stream c' s k).top (data_of s (stream c s k)) same' (data_for s n))

    pub spot_of : (q : ℕ) → q < (stream c s k).size → stream_spot c' s k q ≡ stream_spot c s k q
    spot_of q l = rw data_same (place_same s (two s (core_good c s w)) c c' (stream c s k).top (stream c' s k).top (data_of s (stream c s k)) same' q
        ((div-lt_iff_lt-mul {k = s.size} (omega (arith, (core_good c s w).wide))).1 (omega (arith, right_fits s (core_good c s w) (stream c s k) (stream_right c s w k lk)))))
