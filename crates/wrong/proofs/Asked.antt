-- The tests are what the demands ask: a store that meets them passes each test, whatever the card.
use mathlib.Core.Path.{◌≡◌}
use mathlib.Core.List.{List}
use Prim.Native.Nat.{ℕ, ◌+◌, ◌≤◌, ◌<◌}
use native.Mathlib.Omega.{arith}
use lib.ListN.{length}
use lib.Dec.{T}
use Rattle.layout.specs.Header.{shaped, shape_of}
use Rattle.layout.specs.Sound.{broken}
use Rattle.laws.proofs.Tests.{Is, is_same, is_eqb}
use Rattle.laws.proofs.Soundness.{sound}
use Rattle.demands.specs.Call.{Call, rooms}
use Rattle.demands.specs.Plain.{Plain, knows, used_by, free_of, plain_room, plain_call, plain_new}
use Rattle.demands.specs.Runs.{plain_after}
use Rattle.demands.specs.Shows.{plain}
use Rattle.demands.specs.Store.{Store, does, runs}
use Rattle.demands.specs.Demand2.{Demand2}
use Rattle.demands.specs.Owners.{blocks_of, all_blocks, times}
use Rattle.demands.specs.Demand3.{Concerns, Demand3}
use Rattle.demands.proofs.Free.{used_and_free}
use Rattle.wrong.specs.Tests.{same_order, in_one, right_count}

-- ---- each test holds exactly where its clause does

order_is : (c c' name : List ℕ) → Is (same_order c c' name) (blocks_of c' name ≡ blocks_of c name)
unfolding same_order
order_is c c' name = is_same (blocks_of c' name) (blocks_of c name)

one_is : (c : List ℕ) (b : ℕ) → Is (in_one c b) (times b (all_blocks c) ≡ 1)
unfolding in_one
one_is c b = is_eqb (times b (all_blocks c)) 1

-- where no more is in use than there is
count_is : (p : Plain) → used_by p ≤ p.count → (told : ℕ) → Is (right_count p told) (told ≡ free_of p)
unfolding right_count free_of used_by
count_is p l told = let r = is_eqb _ p.count in record { out = λ t. (let e = r.out t in omega arith); back = λ e. r.back (omega arith) }

-- ---- an accepted call

module _ (S : Store) (d : Demand3 S) (n : ℕ) (c : List ℕ) (e : broken c ≡ 0) (k : Call) (z : (does S n c k).number ≡ 0) where
  pub order_asked : (name : List ℕ) → T (knows (plain c) name) → (Concerns k name → ⊥) → T (same_order c (does S n c k).card name)
  order_asked name t u = (order_is c (does S n c k).card name).back ((d.leaves n c e k z).others name t u).blocks

  pub one-asked : (b : ℕ) → b < (shape_of (does S n c k).card).count → T (in_one (does S n c k).card b)
  one-asked b l = (one_is (does S n c k).card b).back ((d.leaves n c e k z).owned b l)

-- ---- the free count

in_use_lem : (c : List ℕ) → broken c ≡ 0 → used_by (plain c) ≤ (plain c).count
in_use_lem c e = omega (arith, used_and_free c (sound c e))

pub count-asked : (S : Store) → Demand2 S → (n : ℕ) (c : List ℕ) → broken c ≡ 0 → T (right_count (plain c) (S.room n c).count)
unfolding does plain_call plain_room
count-asked S d n c e = (count_is (plain c) (in_use_lem c e) (S.room n c).count).back (d.plainly n c e rooms).answers.count

pub count-asked_later : (S : Store) → Demand3 S → (c : List ℕ) (shift : ℕ) → (S.format 0 c shift).number ≡ 0 → (ks : List Call)
    → T (right_count (plain_after (plain_new shift (shaped (length c) shift).count) ks) (S.room (1 + length ks) (runs S 1 (S.format 0 c shift).card ks)).count)
count-asked_later S d c shift z ks =
    let left = runs S 1 (S.format 0 c shift).card ks in
    let h = d.history 0 c shift z ks in
    let p = plain_after (plain_new shift (shaped (length c) shift).count) ks in
    (count_is p (rw h.shows at (in_use_lem left h.passes)) _).back h.free_told
