-- What a pyramid's blocks, and a stream's bytes, depend on.
use mathlib.Core.Path.{◌≡◌, refl}
use mathlib.Core.List.{List}
use Prim.Native.Nat.{ℕ, zero, suc, ◌+◌, ◌-◌, ◌*◌, ◌/◌, ◌%◌, ◌≤◌, ◌<◌}
use native.Mathlib.Nat.{mod-lt, div-lt_iff_lt-mul}
use native.Mathlib.Omega.{arith}
use lib.ListN.{get_or}
use Rattle.layout.specs.Bytes.{run}
use Rattle.laws.proofs.ByteLaws.{num_agree}
use Rattle.laws.proofs.Lists.{In, map_agree, map_in, in_map, run_in}
use Rattle.layout.specs.Pyramid.{level, height}
use Rattle.laws.proofs.Levels.{level_holds}
use Rattle.laws.proofs.Cells.{kept_none, cells_in, in_cells}
use Rattle.layout.specs.Blocks.{fan, place, slot, slot_place, node, at, cells, surplus, pyramid}
use Rattle.layout.specs.Streams.{spot, contents}
use Rattle.layout.specs.declared.Shape.{Shape}

-- byte i is in block b
abbrev pub Inside : Shape → ℕ → ℕ → Type 0
Inside s b i = (place s b ≤ i) × (i < place s b + s.size)

-- the two cards have the same bytes in block b
abbrev pub SameIn : Shape → List ℕ → List ℕ → ℕ → Type 0
SameIn s c c' b = (i : ℕ) → place s b ≤ i → i < place s b + s.size → get_or c' i 0 ≡ get_or c i 0

module _ (s : Shape) (two : 2 ≤ fan s) where
  pub same-slot : (c c' : List ℕ) (b j : ℕ) → j < fan s → SameIn s c c' b → slot c' s b j ≡ slot c s b j
  same-slot c c' b j h e = num_agree 4 c' c (slot_place s b j) (λ i p q. e i (omega arith) (omega arith))

  -- the same slots in use, the same blocks
  module _ (c c' : List ℕ) (top h d : ℕ)
      (same : (e k j : ℕ) → e + suc k ≡ h → j < level (fan s) k d → slot c' s (node c s top e (j / fan s)) (j % fan s) ≡ slot c s (node c s top e (j / fan s)) (j % fan s)) where
    pub same-node : (e k j : ℕ) → e + k ≡ h → j < level (fan s) k d → node c' s top e j ≡ node c s top e j
    unfolding node
    same-node zero k j p q = refl
    same-node (suc e) k j p q =
        rw (same-node e (suc k) (j / fan s) (omega arith) (level_holds (fan s) two k d j q)) (same e k j (omega arith) q)

  -- the blocks of a pyramid, by their cells: e levels below the top, k above the data
  pub in_pyramid : (c : List ℕ) (top d e k j : ℕ) → e + k ≡ height (fan s) d → j < level (fan s) k d → In (node c s top e j) (pyramid c s top d)
  unfolding surplus
  in_pyramid c top d e k j p q =
      let h = height (fan s) d in
      let e' : h - k ≡ e = omega arith in
      rw (← e') (in_map (at c s top h) (record { k = k; j = j }) (cells (fan s) d 0 h)
      (in_cells (fan s) d 0 h k j (omega arith) (rw (kept_none (fan s) two k) (omega arith)) q))

  pub pyramid_in : (c : List ℕ) (top d b : ℕ) → In b (pyramid c s top d) → (e k j : ℕ) × (e + k ≡ height (fan s) d) × (j < level (fan s) k d) × (b ≡ node c s top e j)
  unfolding surplus
  pyramid_in c top d b i =
      let h = height (fan s) d in
      let r = map_in (at c s top h) b (cells (fan s) d 0 h) i in
      let p = cells_in (fan s) d 0 h r.0 r.1 in
      (h - r.0.k, r.0.k, r.0.j, omega arith, p.2, r.2)

  -- the same bytes in every block of the pyramid: the same pyramid, and the same stream in it
  module _ (c c' : List ℕ) (top d : ℕ) (same : (b : ℕ) → In b (pyramid c s top d) → SameIn s c c' b) where
    same_at : (e k j : ℕ) → e + k ≡ height (fan s) d → j < level (fan s) k d → SameIn s c c' (node c s top e j)
    same_at e k j p q = same (node c s top e j) (in_pyramid c top d e k j p q)

    pub frame_node : (e k j : ℕ) → e + k ≡ height (fan s) d → j < level (fan s) k d → node c' s top e j ≡ node c s top e j
    frame_node = same-node c c' top (height (fan s) d) d
        (λ e k j p q. same-slot c c' (node c s top e (j / fan s)) (j % fan s) (mod-lt j (omega arith)) (same_at e (suc k) (j / fan s) p (level_holds (fan s) two k d j q)))

    pub frame_pyramid : pyramid c' s top d ≡ pyramid c s top d
    unfolding surplus
    frame_pyramid = map_agree _ _ (cells (fan s) d 0 (height (fan s) d)) (λ p i.
        let r = cells_in (fan s) d 0 (height (fan s) d) p i in
        frame_node (height (fan s) d - p.k) p.k p.j (omega arith) r.2)

    pub frame_byte : (p : ℕ) → p / s.size < d → get_or c' (spot c' s top (height (fan s) d) p) 0 ≡ get_or c (spot c s top (height (fan s) d) p) 0
    unfolding level
    frame_byte p h =
        let m : p % s.size < s.size = mod-lt p (omega arith) in
        rw (frame_node (height (fan s) d) 0 (p / s.size) (omega arith) h)
        (same_at (height (fan s) d) 0 (p / s.size) (omega arith) h (spot c s top (height (fan s) d) p) (omega arith) (omega arith))

  -- of the first `size` bytes, where the d data blocks hold so many
  pub frame_contents : (c c' : List ℕ) (top d size : ℕ) → size ≤ d * s.size → ((b : ℕ) → In b (pyramid c s top d) → SameIn s c c' b) → contents c' s top d size ≡ contents c s top d size
  unfolding contents
  frame_contents c c' top d size fits same = map_agree _ _ (run 0 size) (λ p i.
      frame_byte c c' top d same p ((div-lt_iff_lt-mul {k = s.size} (omega arith)).1 (omega (arith, run_in 0 size p i))))
