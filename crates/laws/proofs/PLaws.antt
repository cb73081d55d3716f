-- P, the blocks that d data blocks need with all that stands above them, for any fan f of at least 2; and its figures.
use mathlib.Core.Path.{◌≡◌, refl}
use Prim.Native.Nat.{ℕ, zero, suc, ◌+◌, ◌≤◌, ◌<◌}
use native.Mathlib.Omega.{arith}
use lib.ListN.{length}
use lib.Dec.{ltb}
use Rattle.layout.specs.Bytes.{pick}
use Rattle.layout.specs.Pyramid.{up, level, climb, height, P, missing}
use Rattle.layout.specs.Blocks.{cells}
use Rattle.laws.proofs.Picks.{leb_yes, leb_no}
use Rattle.laws.proofs.Levels.{Next, stays, rises, P-low, P-high, P-next, P-rises, P-mono, grows}
use Rattle.laws.proofs.Counting.{sum, sum_levels, cells_fall}

-- one new top where the height rises
unfoldable pub new_top : ℕ → ℕ → ℕ
new_top f d = pick (ltb (height f d) (height f (suc d))) 1 0

-- the blocks that data block number d takes: the first one itself; each other one itself, the redirectors that are missing above it, and maybe a new top
unfoldable pub taking : ℕ → ℕ → ℕ
taking f zero = 1
taking f (suc n) = missing f (height f (suc (suc n))) (suc n) + new_top f (suc n)

module _ (f : ℕ) (two : 2 ≤ f) where
  -- no data block needs no block
  pub P-none : P f 0 ≡ 0
  P-none = P-low f two 0 (omega arith)

  -- one block is its own top
  pub P-one : P f 1 ≡ 1
  P-one = P-low f two 1 (omega arith)

  -- more than one: themselves, and what their redirectors need
  pub P-more : (d : ℕ) → 1 < d → P f d ≡ d + P f (up f d)
  P-more = P-high f two

  -- one more data block needs more
  pub P-less : (d : ℕ) → P f d < P f (suc d)
  P-less = P-rises f two

  -- so more data blocks never need fewer blocks
  pub P-monotone : (a b : ℕ) → a ≤ b → P f a ≤ P f b
  P-monotone = P-mono f two

  -- one more data block needs what it takes
  pub P-taking : (d : ℕ) → P f (suc d) ≡ P f d + taking f d
  unfolding taking new_top
  P-taking zero = rw (P-one, P-none)
  P-taking (suc n) = go (grows f two (suc n) (omega arith))
    where
      go : Next f two (suc n) → P f (suc (suc n)) ≡ P f (suc n) + taking f (suc n)
      go (stays a) = rw (leb_no {a = suc (height f (suc n))} {b = height f (suc (suc n))} (omega arith)) (omega (arith, P-next f two (suc n) (omega arith)))
      go (rises a b c) = rw (leb_yes {a = suc (height f (suc n))} {b = height f (suc (suc n))} (omega arith)) (omega (arith, P-next f two (suc n) (omega arith)))

  -- level by level, from the data to the top
  pub P-levels : (d : ℕ) → sum (λ k. level f k d) (height f d) ≡ P f d
  P-levels = sum_levels f two

  -- and cell by cell
  pub P-cells : (d : ℕ) → length (cells f d 0 (height f d)) ≡ P f d
  P-cells d = omega (arith, cells_fall f two d 0 (omega arith), P-none)

-- ---- figures: 16 indices in a redirector of 64 bytes

pub P-16-2 : P 16 2 ≡ 3
unfolding climb P
P-16-2 = refl

pub P-16-16 : P 16 16 ≡ 17
unfolding climb P
P-16-16 = refl

pub P-16-17 : P 16 17 ≡ 20
unfolding climb P
P-16-17 = refl

pub P-16-257 : P 16 257 ≡ 277
unfolding climb P
P-16-257 = refl

-- ---- figures: blocks of 10 bytes, redirectors of 4 indices

pub P-17-bytes : P 4 (up 10 17) ≡ 3
unfolding climb P
P-17-bytes = refl

pub P-58-bytes : P 4 (up 10 58) ≡ 9
unfolding climb P
P-58-bytes = refl
