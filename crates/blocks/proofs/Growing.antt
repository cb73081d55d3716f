-- Growth, step by step as code does it.
use mathlib.Core.Path.{◌≡◌, refl}
use mathlib.Core.List.{List}
use Prim.Native.Nat.{ℕ, zero, suc, ◌+◌, ◌≤◌, ◌<◌}
use native.Mathlib.Numerals.{add-one}
use native.Mathlib.Omega.{arith}
use Rattle.layout.specs.Pyramid.{height}
use Rattle.layout.specs.Blocks.{fan, first_free, hooked, hung, raised, rooted, grown_one, grown}
use Rattle.laws.proofs.Levels.{height-suc}
use Rattle.layout.specs.declared.Shape.{Shape}

-- ---- one below the other

pub hung_end : (m : ℕ) (c : List ℕ) (s : Shape) (b j : ℕ) → m ≤ 0 → c ≡ hung m c s b j
unfolding hung
hung_end zero c s b j h = refl
hung_end (suc m) c s b j h = absurd (omega arith)

pub hung-step : (m less : ℕ) (c c₁ : List ℕ) (s : Shape) (b j made : ℕ) → m ≡ suc less → made ≡ first_free c s → c₁ ≡ hooked c s b j → hung less c₁ s made 0 ≡ hung m c s b j
unfolding hung
hung-step m less c c₁ s b j made h e f = rw (h, e, f)

-- ---- one data block

-- all but the first hang below what the top is then
pub grown-more : (c : List ℕ) (s : Shape) (top d : ℕ) → (d ≡ 0 → ⊥)
    → grown_one c s top d ≡ record { card = rooted (raised c s top d).card s (raised c s top d).top (height (fan s) (d + 1)) d; top = (raised c s top d).top }
unfolding grown_one
grown-more c s top zero z = absurd (z refl)
grown-more c s top (suc n) z = rw (add-one (suc n))

-- ---- many

pub grown_end : (c : List ℕ) (s : Shape) (top d m : ℕ) → m ≤ 0 → (top ≡ (grown c s top d m).top) × (c ≡ (grown c s top d m).card)
unfolding grown
grown_end c s top d zero h = (refl, refl)
grown_end c s top d (suc m) h = absurd (omega arith)

pub grown-step : (c c₁ : List ℕ) (s : Shape) (top t d m less : ℕ) → m ≡ suc less → t ≡ (grown_one c s top d).top → c₁ ≡ (grown_one c s top d).card →
    grown c₁ s t (d + 1) less ≡ grown c s top d m
unfolding grown
grown-step c c₁ s top t d m less h e f = rw (h, add-one d, e, f)

-- two data blocks have a redirector above them
pub tall-some : (f : ℕ) → 2 ≤ f → (d h : ℕ) → 1 ≤ d → h ≡ height f (d + 1) → 0 < h
tall-some f two d h p e = omega (arith, rw (add-one d) at e, height-suc f two d p)
