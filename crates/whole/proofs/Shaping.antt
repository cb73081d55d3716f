-- Format: a shape that is refused, and one that is good.
use mathlib.Core.Path.{◌≡◌}
use mathlib.Core.Bool.{Bool, true, false}
use mathlib.Core.List.{List, []}
use Prim.Native.Nat.{ℕ, ◌-◌, ◌^◌, ◌≤◌, ◌<◌}
use lib.ListN.{length}
use lib.Dec.{leb, T}
use Rattle.layout.specs.Limits.{least_shift, most_shift}
use Rattle.layout.specs.Bytes.{both}
use Rattle.layout.specs.Header.{head_length, shaped, good_rest, good_shape}
use Rattle.layout.specs.Answers.{refused, done}
use Rattle.layout.specs.Calls.{formatted_in, formatted, format}
use Rattle.blocks.specs.Narrow.{Narrow}
use Rattle.laws.proofs.Tests.{is_both, is_leb, is_itself}
use Rattle.acts.proofs.Fitting.{new_narrow}
use Rattle.layout.specs.declared.Shape.{Shape}

module _ (c : List ℕ) (shift : ℕ) (q : Bool) (e : q ≡ good_shape (length c) shift) where
  pub shape-refused : q ≡ false → refused 9 0 c [] ≡ format c shift
  unfolding format
  shape-refused f = rw (← e, f)

  module _ (f : q ≡ true) where
    good : T (good_shape (length c) shift)
    good = rw (← e, f) tt

    pub new_fits : (s : Shape) → s ≡ shaped (length c) shift → Narrow s × (shift < 256)
    new_fits s g = rw g (new_narrow c shift good)

    pub shift_fits : shift ≤ 12
    unfolding good_shape
    shift_fits =
        let n = length c in
        ((is_both (is_both (is_leb least_shift shift) (is_leb shift most_shift)) (is_itself (both (leb head_length n) (good_rest (n - head_length) (2 ^ shift))))).out good).0.1

    pub formatted_is : (s : Shape) (c' : List ℕ) → s ≡ shaped (length c) shift → c' ≡ formatted_in (length c) shift s → done c' [] ≡ format c shift
    unfolding format formatted
    formatted_is s c' g h = rw (← e, f, h, g)
