-- A packed outcome's word has room in 64 bits and can be taken apart again; a refusal is packed.
use mathlib.Core.Path.{◌≡◌, refl}
use mathlib.Core.Bool.{Bool, true, false}
use mathlib.Core.List.{List, ◌∷◌}
use Prim.Native.Nat.{ℕ, ◌+◌, ◌*◌, ◌/◌, ◌%◌, ◌^◌, ◌<◌}
use native.Mathlib.Nat.{div-add-mod', mod-lt}
use native.Mathlib.Decide.{ℕ_discrete}
use native.Mathlib.Omega.{arith}
use lib.Dec.{eqb}
use Rattle.layout.specs.Bytes.{pick}
use Rattle.layout.specs.Sound.{broken}
use Rattle.layout.specs.Answers.{Outcome, refused}
use Rattle.layout.specs.Words.{small, large, word, Packed}
use Rattle.layout.specs.Calls.{Test, first_no, unless}
use Rattle.laws.proofs.Picks.{eqb_yes, eqb_no}
use Rattle.front.proofs.Passing.{rule-low}

-- ---- the word, and its parts out of it

module _ (o : Outcome) (p : Packed o) where
  pub word_low : word o < 2 ^ 64
  unfolding word
  word_low = omega (arith, p.number, p.rule_or_length, p.count_or_size)

  number_of_lem : word o % 256 ≡ o.number
  unfolding word
  number_of_lem =
      let r : word o % 256 < 256 = mod-lt (word o) (omega arith) in
      omega (arith, p.number, div-add-mod' (word o) 256)

  above : word o / 256 ≡ small o + 256 * large o
  unfolding word
  above =
      let r : word o % 256 < 256 = mod-lt (word o) (omega arith) in
      omega (arith, p.number, div-add-mod' (word o) 256)

  small_of : word o / 256 % 256 ≡ small o
  small_of =
      let r : word o / 256 % 256 < 256 = mod-lt (word o / 256) (omega arith) in
      omega (arith, above, p.rule_or_length, div-add-mod' (word o / 256) 256)

  large_of : word o / 65536 ≡ large o
  unfolding word
  large_of =
      let r : word o % 65536 < 65536 = mod-lt (word o) (omega arith) in
      omega (arith, p.number, p.rule_or_length, div-add-mod' (word o) 65536)

  -- whoever has the word has the numbers
  pub parted : (word o % 256 ≡ o.number) × (word o / 256 % 256 ≡ small o) × (word o / 65536 ≡ large o)
  parted = (number_of_lem, small_of, large_of)

-- ---- refusals

-- a list of tests none of which is true
pub first_none : (b : Bool) (n : ℕ) (tests : List Test) → 0 < n → first_no ((b, n) ∷ tests) ≡ 0 → (b ≡ false) × (first_no tests ≡ 0)
unfolding first_no
first_none true n tests h e = absurd (omega arith)
first_none false n tests h e = (refl, e)

pub first-low : (b : Bool) (n : ℕ) (tests : List Test) → n < 256 → first_no tests < 256 → first_no ((b, n) ∷ tests) < 256
unfolding first_no
first-low true n tests h k = h
first-low false n tests h k = k

either : (b : Bool) (x : ℕ) → x < 256 → pick b x 0 + 0 < 256
either true x h = omega arith
either false x h = omega arith

-- packed, if what is done where nothing refuses is
pub unless_packed : (c t : List ℕ) (o : Outcome) (tests : List Test) → first_no tests < 256 → (first_no tests ≡ 0 → Packed o) → Packed (unless tests c t o)
unless_packed c t o tests h f = go (first_no tests) h f
  where
    go : (n : ℕ) → n < 256 → (n ≡ 0 → Packed o) → Packed (pick (eqb n 0) o (refused n (pick (eqb n 1) (broken c) 0) c t))
    go n h f = elim (ℕ_discrete n 0) [
      | yes z ↦ rw (eqb_yes z) (f z)
      | no z ↦ rw (eqb_no z) (record { number = h; rule_or_length = either (eqb n 1) (broken c) (rule-low c (broken c) refl); count_or_size = omega arith })
    ]
