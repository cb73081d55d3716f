-- A pyramid's cells: which there are, and that none stands twice. No card is in it.
use mathlib.Core.Path.{◌≡◌, refl, ap, ◌∙◌}
use mathlib.Core.Logic.{inl, inr}
use mathlib.Core.Bool.{Bool, true, false}
use Prim.Native.Nat.{ℕ, zero, suc, ◌-◌, ◌≤◌, ◌<◌}
use native.Mathlib.Decide.{ℕ_discrete}
use native.Mathlib.Omega.{arith}
use lib.Dec.{leb}
use Rattle.layout.specs.Bytes.{pick, run}
use Rattle.layout.specs.Pyramid.{up, level, height}
use Rattle.layout.specs.Blocks.{Cell, kept, row, cells}
use Rattle.laws.proofs.Lists.{In, Distinct, distinct-both, map-distinct, run-distinct, in_either, in_left, in_right, map_in, in_map, run_in, in_run}
use Rattle.laws.proofs.Levels.{up-zero}

pick_same : (b : Bool) (x : ℕ) → pick b x x ≡ x
pick_same true x = refl
pick_same false x = refl

-- ---- no data, no cells

module _ (f : ℕ) (two : 2 ≤ f) where
  pub level_none : (k : ℕ) → level f k 0 ≡ 0
  unfolding level
  level_none zero = refl
  level_none (suc k) = ap (up f) (level_none k) ∙ up-zero f two

  pub kept_none : (k : ℕ) → kept f k 0 ≡ 0
  unfolding kept
  kept_none k = rw (level_none k) (pick_same (leb k (height f 0)) 0)

-- ---- a cell is there where its level and its number are in range

module _ (f d d' : ℕ) where
  pub row_in : (k : ℕ) (p : Cell) → In p (row f d d' k) → (p.k ≡ k) × (kept f p.k d' ≤ p.j) × (p.j < level f p.k d)
  row_in k p i =
      let r = map_in (λ j. record { k = k; j = j }) p (run (kept f k d') (level f k d - kept f k d')) i in
      let b = run_in (kept f k d') (level f k d - kept f k d') r.0 r.1 in
      let e : p.k ≡ k = ap (λ (q : Cell). q.k) r.2 in
      let e' : p.j ≡ r.0 = ap (λ (q : Cell). q.j) r.2 in
      (e, rw (e, e') b.0, rw (e, e') (omega arith))

  pub in_row : (k j : ℕ) → kept f k d' ≤ j → j < level f k d → In (record { k = k; j = j }) (row f d d' k)
  in_row k j a b =
      in_map (λ j. record { k = k; j = j }) j (run (kept f k d') (level f k d - kept f k d')) (in_run _ _ j a (omega arith))

  pub cells_in : (K : ℕ) (p : Cell) → In p (cells f d d' K) → (p.k ≤ K) × (kept f p.k d' ≤ p.j) × (p.j < level f p.k d)
  unfolding cells
  cells_in zero p i = let r = row_in zero p i in (omega arith, r.1, r.2)
  cells_in (suc K) p i = elim (in_either p (row f d d' (suc K)) (cells f d d' K) i) [
    | inl a ↦ (let r = row_in (suc K) p a in (omega arith, r.1, r.2))
    | inr b ↦ (let r = cells_in K p b in (omega arith, r.1, r.2))
  ]

  pub in_cells : (K k j : ℕ) → k ≤ K → kept f k d' ≤ j → j < level f k d → In (record { k = k; j = j }) (cells f d d' K)
  unfolding cells
  in_cells zero k j h a b = let e : 0 ≡ k = omega arith in rw e (in_row k j a b)
  in_cells (suc K) k j h a b = elim (ℕ_discrete (suc K) k) [
    | yes e ↦ in_left _ (row f d d' (suc K)) (cells f d d' K) (rw e (in_row k j a b))
    | no n ↦ in_right _ (row f d d' (suc K)) (cells f d d' K) (in_cells K k j (omega arith) a b)
  ]

  -- ---- and stands once

  pub row-distinct : (k : ℕ) → Distinct (row f d d' k)
  row-distinct k =
      map-distinct (λ j. record { k = k; j = j }) (run (kept f k d') (level f k d - kept f k d')) (run-distinct _ _)
      (λ x y i i' e. ap (λ (q : Cell). q.j) e)

  pub cells-distinct : (K : ℕ) → Distinct (cells f d d' K)
  unfolding cells
  cells-distinct zero = row-distinct zero
  cells-distinct (suc K) =
      distinct-both (row f d d' (suc K)) (cells f d d' K) (row-distinct (suc K)) (cells-distinct K)
      (λ p i i'. omega (arith, (row_in (suc K) p i).0, (cells_in K p i').0))
