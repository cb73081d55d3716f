-- A card that passed the check, and a name looked for on it: what the acts ask for is there.
use mathlib.Core.Path.{◌≡◌, sym, ap, subst}
use mathlib.Core.Bool.{Bool, true, false}
use mathlib.Core.List.{List}
use Prim.Native.Nat.{ℕ, ◌+◌, ◌^◌, ◌≤◌, ◌<◌}
use native.Mathlib.Omega.{arith}
use lib.ListN.{length}
use Rattle.layout.specs.Bytes.{pick}
use Rattle.layout.specs.Streams.{stream}
use Rattle.layout.specs.Filing.{good_name, look_in}
use Rattle.layout.specs.Header.{shape_of, shift_of}
use Rattle.layout.specs.Sound.{rule1, rule2, rule3, rule4, rule5, rule6, rule7, rule8, broken}
use Rattle.blocks.specs.Narrow.{Narrow}
use Rattle.layout.specs.Calls.{root_of, known, entry_of, index_of, undescribed}
use Rattle.laws.proofs.Lists.{In}
use Rattle.laws.proofs.Tests.{is_ltb}
use Rattle.laws.proofs.State.{Whole, Core, lives_of}
use Rattle.laws.proofs.Soundness.{sound}
use Rattle.laws.proofs.Entries.{look_name}
use Rattle.laws.proofs.Directories.{good_short}
use Rattle.acts.specs.Fits.{Fits}
use Rattle.acts.proofs.Fitting.{fits, live-low, narrow}
use Rattle.acts.proofs.Sound.{root_live, index_live, entry-low, size_low as pulled-low}
use Rattle.layout.specs.declared.Shape.{Shape}
use Rattle.layout.specs.declared.Desc.{Desc}

low : (t : Bool) {a b : ℕ} → a ≤ 8 → b ≤ 8 → pick t a b ≤ 8
low true h k = h
low false h k = k

-- there are eight rules
eight : (c : List ℕ) → broken c ≤ 8
unfolding broken
eight c =
    let s = shape_of c in
    low (rule1 c) (low (rule2 c) (low (rule3 c) (low (rule4 c s) (low (rule5 c s) (low (rule6 c s) (low (rule7 c s) (low (rule8 c s) (omega arith) (omega arith)) (omega arith)) (omega arith)) (omega arith)) (omega arith)) (omega arith)) (omega arith)) (omega arith)

pub rule-low : (c : List ℕ) (r : ℕ) → r ≡ broken c → r < 256
rule-low c r e = omega (arith, e, eight c)

pub shift_fits : (c : List ℕ) → 0 ≡ broken c → shift_of c ≤ 12
shift_fits c z = (sound c (sym z)).core.headed.most

pub shape_fits : (c : List ℕ) (s : Shape) → 0 ≡ broken c → s ≡ shape_of c → Narrow s
shape_fits c s z e = rw e (narrow c (sound c (sym z)).core)

pub name_fits : (name : List ℕ) (q : Bool) → q ≡ good_name name → q ≡ true → length name ≤ 64
name_fits name q e t = good_short name (rw (← e, t) tt)

-- ---- a card that passed

pub record Passed (c : List ℕ) (s : Shape) : Type 0 where
  pub unbroken : broken c ≡ 0
  pub cut : s ≡ shape_of c

module _ {c : List ℕ} {s : Shape} (p : Passed c s) where
  pub whole : Whole c
  whole = sound c p.unbroken

  pub core : Core c s
  core = subst (λ (t : Shape). Core c t) (sym p.cut) whole.core

  pub narrow_of : Narrow s
  narrow_of = rw p.cut (narrow c whole.core)

  pub fits_of : Fits c s
  fits_of = fits c s core

  pub root_lower : (stream c s 0).size < 2 ^ 61
  root_lower = rw p.cut (live-low c (shape_of c) whole.core 0 (root_live c whole)).1

  pub root-low : (stream c s 0).size < 2 ^ 62
  root-low = omega (arith, root_lower)

  -- the root, by its descriptor
  pub root-size : (t : Desc) → t ≡ stream c s 0 → t.size < 2 ^ 62
  root-size t e = rw e root-low

-- ---- a good name on it that is not known

pub record Fresh (c name : List ℕ) (s : Shape) : Type 0 where
  pub passed : Passed c s
  pub good : good_name name ≡ true
  pub new : known c name ≡ false

-- ---- one that is known: the index of its stream, and where its entry starts

pub record Named (c name : List ℕ) (s : Shape) (k at : ℕ) : Type 0 where
  pub passed : Passed c s
  pub good : good_name name ≡ true
  pub found : known c name ≡ true
  pub index : k ≡ index_of c name
  pub place : at ≡ (entry_of c name).at

module _ {c name : List ℕ} {s : Shape} {k at : ℕ} (n : Named c name s k at) where
  pub there : look_in (root_of c) name < length (root_of c)
  there = (is_ltb (look_in (root_of c) name) (length (root_of c))).out (rw n.found tt)

  pub live_of : In k (lives_of c s)
  live_of = rw (n.passed.cut, n.index) (index_live c (whole n.passed) (look_in (root_of c) name) there)

  pub index-low : k < 2 ^ 56
  index-low = (live-low c s (core n.passed) k live_of).0

  pub size_low : (stream c s k).size < 2 ^ 61
  size_low = (live-low c s (core n.passed) k live_of).1

  pub size_fits : (t : Desc) → t ≡ stream c s k → t.size < 2 ^ 61
  size_fits t a = rw a size_low

  -- its entry, and the root once the stream is freed
  pub entry_fits : at + length name < 2 ^ 61
  entry_fits =
      let m : length (entry_of c name).name ≡ length name = ap length (look_name (root_of c) name there) in
      omega (arith, n.place, m, entry-low c (whole n.passed) (look_in (root_of c) name) there)

  pub pull_fits : (stream (undescribed c s k) s 0).size < 2 ^ 62
  pull_fits = rw (n.index, n.passed.cut) (pulled-low c (whole n.passed) (look_in (root_of c) name) there)
