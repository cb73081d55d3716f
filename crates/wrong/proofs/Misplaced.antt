-- Two stores that answer as ours does, with wrong blocks: demand 3 rejects one by the order of the blocks, the other by each block being
-- in exactly one place.
use mathlib.Core.Path.{◌≡◌, refl, ap, ◌∙◌}
use mathlib.Core.List.{List, [], ◌∷◌}
use Prim.Native.Nat.{ℕ}
use native.Mathlib.Omega.{arith}
use lib.ListN.{replicate, get_or}
use lib.Dec.{T}
use Rattle.layout.specs.Bytes.{same, holds, spliced}
use Rattle.layout.specs.Pyramid.{climb, P}
use Rattle.layout.specs.Filing.{good_name}
use Rattle.layout.specs.Calls.{first_no}
use Rattle.demands.specs.Call.{writes}
use Rattle.demands.specs.Plain.{Plain, knows, used_by, free_of, look_up, edited, plain_new, plain_write, plain_create, plain_call}
use Rattle.demands.specs.Runs.{plain_after}
use Rattle.demands.specs.Store.{does, ours}
use Rattle.demands.specs.Demand3.{Demand3}
use Rattle.demands.proofs.History.{call_refines}
use Rattle.wrong.specs.Cards.{a, b, pair, two_streams}
use Rattle.wrong.specs.Stores.{turning, sharing}
use Rattle.wrong.proofs.Known.{large_sound, large-plain}
use Rattle.wrong.proofs.Computed.{order_lost, in_both, as_many}
use Rattle.wrong.proofs.Asked.{order_asked, one-asked}

-- what both write is accepted: there is room for it
accepted : (vs : List ℕ) → (plain_call (plain_after (plain_new 6 10) pair) (writes b 0 vs)).number ≡ 0 → (does ours 0 two_streams (writes b 0 vs)).number ≡ 0
accepted vs e = (call_refines 0 two_streams (large_sound pair) (writes b 0 vs)).answers.number ∙ ap (λ (p : Plain). (plain_call p (writes b 0 vs)).number) (large-plain pair) ∙ e

knows-a : T (knows (plain_after (plain_new 6 10) pair) a)
unfolding first_no same holds spliced climb P good_name used_by free_of look_up edited plain_write plain_create plain_call plain_after
knows-a = tt

other : a ≡ b → ⊥
other e = omega (arith, ap (λ (l : List ℕ). get_or l 0 0) e)

pub turning_fails : Demand3 turning → ⊥
unfolding does first_no same holds spliced climb P good_name used_by free_of look_up edited plain_write plain_create plain_call plain_after
turning_fails d = order_lost (order_asked turning d 0 two_streams (large_sound pair) (writes b 0 (9 ∷ [])) (accepted (9 ∷ []) refl) a (rw (large-plain pair) knows-a) other)

pub sharing_fails : Demand3 sharing → ⊥
unfolding does first_no same holds spliced climb P good_name used_by free_of look_up edited plain_write plain_create plain_call plain_after
sharing_fails d = in_both (one-asked sharing d 0 two_streams (large_sound pair) (writes b 0 (replicate 65 5)) (accepted (replicate 65 5) refl) 4 (omega (arith, as_many)))
