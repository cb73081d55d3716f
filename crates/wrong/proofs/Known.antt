-- What is known of the cards: they pass their check, and show the plain lists that the runs leave.
use mathlib.Core.Path.{◌≡◌}
use mathlib.Core.List.{List}
use lib.Dec.{T}
use Rattle.layout.specs.Header.{good_shape}
use Rattle.layout.specs.Sound.{broken}
use Rattle.layout.specs.Calls.{formatted}
use Rattle.demands.specs.Call.{Call}
use Rattle.demands.specs.Plain.{plain_new}
use Rattle.demands.specs.Runs.{plain_after}
use Rattle.demands.specs.Shows.{plain}
use Rattle.demands.specs.Store.{runs, ours}
use Rattle.demands.proofs.History.{run_sound, run-plain}

pub small : T (good_shape 343 6)
unfolding good_shape
small = tt

pub large : T (good_shape 727 6)
unfolding good_shape
large = tt

-- any run on the card of four blocks
module _ (ks : List Call) where
  pub small_sound : broken (runs ours 0 (formatted 343 6) ks) ≡ 0
  small_sound = run_sound 343 6 small 0 ks

  pub small_plain : plain (runs ours 0 (formatted 343 6) ks) ≡ plain_after (plain_new 6 4) ks
  small_plain = run-plain 343 6 small 0 ks

-- and on the card of ten
module _ (ks : List Call) where
  pub large_sound : broken (runs ours 0 (formatted 727 6) ks) ≡ 0
  large_sound = run_sound 727 6 large 0 ks

  pub large-plain : plain (runs ours 0 (formatted 727 6) ks) ≡ plain_after (plain_new 6 10) ks
  large-plain = run-plain 727 6 large 0 ks
