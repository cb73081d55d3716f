-- A card that passes rule 3 has small numbers.
use mathlib.Core.Path.{◌≡◌}
use mathlib.Core.Bool.{true}
use mathlib.Core.List.{List}
use Prim.Native.Nat.{ℕ, ◌-◌, ◌*◌, ◌/◌, ◌%◌, ◌^◌, ◌≤◌}
use native.Mathlib.Nat.{div-add-mod', mul-le-mul, pow-le-pow_right}
use native.Mathlib.Omega.{arith}
use lib.ListN.{length}
use Rattle.layout.specs.Limits.{least_shift, most_shift, most_blocks}
use Rattle.layout.specs.Header.{head_length, shift_of, shape_of}
use Rattle.layout.specs.Ranges.{Small}
use Rattle.layout.specs.Sound.{rule3}
use Rattle.laws.proofs.Tests.{is_both, is_leb, is_eqb}
use Rattle.blocks.specs.Narrow.{Narrow}
use Rattle.layout.specs.declared.Shape.{Shape}

module _ (c : List ℕ) (e : rule3 c ≡ true) where
  facts : (least_shift ≤ shift_of c) × (shift_of c ≤ most_shift) × ((length c - head_length) % 2 ^ shift_of c ≡ 0) × ((length c - head_length) / 2 ^ shift_of c ≤ most_blocks)
  unfolding rule3
  facts =
      let n = length c - head_length in
      let z = 2 ^ shift_of c in
      let w = (is_both (is_both (is_leb least_shift (shift_of c)) (is_leb (shift_of c) most_shift)) (is_both (is_eqb (n % z) 0) (is_both (is_leb 1 (n / z)) (is_leb (n / z) most_blocks)))).out (rw e tt) in
      (w.0.0, w.0.1, w.1.0, w.1.1.1)

  pub shift_low : shift_of c ≤ 12
  shift_low = facts.1

  pub narrow_shape : (s : Shape) → s ≡ shape_of c → Narrow s
  unfolding shape_of
  narrow_shape s f =
      let n = length c - head_length in
      let z = 2 ^ shift_of c in
      let low : 64 ≤ z = pow-le-pow_right {n = 2} (omega arith) {i = 6} {j = shift_of c} facts.0 in
      let high : z ≤ 4096 = pow-le-pow_right {n = 2} (omega arith) {i = shift_of c} {j = 12} facts.1 in
      rw f (record { base = omega arith; least = low; most = high; count = facts.3; first = omega arith; table = omega arith })

  pub small-shape : (s : Shape) → s ≡ shape_of c → Small c s
  unfolding shape_of
  small-shape s f =
      let n = length c - head_length in
      let z = 2 ^ shift_of c in
      let low : 64 ≤ z = pow-le-pow_right {n = 2} (omega arith) {i = 6} {j = shift_of c} facts.0 in
      let high : z ≤ 4096 = pow-le-pow_right {n = 2} (omega arith) {i = shift_of c} {j = 12} facts.1 in
      let d = div-add-mod' n z in
      let m : n / z * z ≤ 4096 * 4096 = mul-le-mul {n₁ = n / z} {n₂ = 4096} facts.3 high in
      rw f (record { base = omega arith; least = low; most = high; count = facts.3; first = omega arith; table = omega arith; whole = omega (arith, facts.2) })
