-- The six wrong stores that answer wrongly or do no work: which demand each of them fails, and by what.
use mathlib.Core.Path.{◌≡◌, refl, sym, ap, ◌∙◌}
use mathlib.Core.List.{List, [], ◌∷◌}
use Prim.Native.Nat.{ℕ, suc}
use native.Mathlib.Omega.{arith}
use lib.ListN.{length, get_or, replicate}
use lib.Dec.{T}
use Rattle.layout.specs.Bytes.{same, holds, spliced}
use Rattle.layout.specs.Pyramid.{climb, P}
use Rattle.layout.specs.Filing.{good_name}
use Rattle.layout.specs.Answers.{Outcome}
use Rattle.layout.specs.Calls.{first_no}
use Rattle.demands.specs.Call.{Call, checks, reads, creates}
use Rattle.demands.specs.Plain.{Plain, used_by, free_of, look_up, edited, plain_new, plain_read, plain_write, plain_create, plain_call}
use Rattle.demands.specs.Runs.{plain_after}
use Rattle.demands.specs.Shows.{plain}
use Rattle.demands.specs.Store.{does, runs}
use Rattle.demands.specs.Demand2.{Demand2}
use Rattle.demands.specs.Demand3.{Demand3}
use Rattle.demands.proofs.Formats.{format-done}
use Rattle.wrong.specs.Cards.{a, b, empty, made, filled, one_stream, two_bytes}
use Rattle.wrong.specs.Stores.{refusing, constant, idle, tiring, full_tray, boasting, free_forgetting, forgetting}
use Rattle.wrong.specs.Tests.{right_count}
use Rattle.wrong.proofs.Known.{small, small_sound, small_plain}
use Rattle.wrong.proofs.Asked.{count-asked, count-asked_later}

-- ---- refusing everything: demand 2, by the exact refusals

-- a check of a sound card has no situation in which to refuse
pub refusing_fails : (m : ℕ) → Demand2 (refusing m) → ⊥
unfolding does runs
refusing_fails m d = (((d.plainly 0 empty (small_sound []) checks).refuses (suc m) (omega arith)).0 refl).0

-- ---- one constant answer: demand 2, by the names and bytes

-- "a" reads 5 at its first place, and 6 at its second
byte-read : (at v : ℕ) → (plain_call (plain_after (plain_new 6 4) filled) (reads a at (0 ∷ []))).tray ≡ v ∷ [] → (plain_call (plain two_bytes) (reads a at (0 ∷ []))).tray ≡ v ∷ []
byte-read at v e = ap (λ (p : Plain). (plain_call p (reads a at (0 ∷ []))).tray) (small_plain filled) ∙ e

pub constant_fails : (o : Outcome) → Demand2 (constant o) → ⊥
unfolding does first_no same holds spliced climb P good_name used_by free_of look_up edited plain_read plain_write plain_create plain_call plain_after
constant_fails o d =
    let five : o.tray ≡ 5 ∷ [] = (d.plainly 0 two_bytes (small_sound filled) (reads a 0 (0 ∷ []))).answers.tray ∙ byte-read 0 5 refl in
    let six : o.tray ≡ 6 ∷ [] = (d.plainly 0 two_bytes (small_sound filled) (reads a 1 (0 ∷ []))).answers.tray ∙ byte-read 1 6 refl in
    omega (arith, ap (λ (l : List ℕ). get_or l 0 0) (sym five ∙ six))

-- ---- doing nothing and saying done: demand 3, by the edit seen on rereading

-- the same list has as many items
as_many : (p q : Plain) → p ≡ q → length p.items ≡ length q.items
as_many p q e = ap (λ (p : Plain). length p.items) e

pub idle_fails : Demand3 idle → ⊥
unfolding does runs first_no same holds climb P good_name used_by free_of look_up plain_create plain_call plain_after
idle_fails d =
    let shows : plain empty ≡ (plain_call (plain empty) (creates a)).after = (d.leaves 0 empty (small_sound []) (creates a) refl).shows in
    let p : Plain = plain_new 6 4 in
    omega (arith, as_many p (plain_call p (creates a)).after (rw (small_plain []) at shows))

-- ---- working in the first call of a run and idling after: demand 3 again, since each accepted call owes its own edit

-- the first call of the run makes "a", as it should; the second is to make "b"
pub tiring_fails : Demand3 tiring → ⊥
unfolding does runs first_no same holds climb P good_name used_by free_of look_up plain_create plain_call plain_after
tiring_fails d =
    let c = runs tiring 0 empty made in
    let shows : plain one_stream ≡ (plain_call (plain one_stream) (creates b)).after = (d.leaves 1 c (small_sound made) (creates b) refl).shows in
    let p : Plain = plain_after (plain_new 6 4) made in
    omega (arith, as_many p (plain_call p (creates b)).after (rw (small_plain made) at shows))

-- ---- an invented read count: demand 2, by the minimum

-- at its end "a" has no byte left
pub boasting_fails : Demand2 boasting → ⊥
unfolding does first_no same holds spliced climb P good_name used_by free_of look_up edited plain_read plain_write plain_create plain_call plain_after
boasting_fails d =
    let k : Call = reads a 2 (0 ∷ 0 ∷ []) in
    let told : full_tray (plain two_bytes) a 2 (0 ∷ 0 ∷ []) ≡ (plain_call (plain two_bytes) k).count = (d.plainly 0 two_bytes (small_sound filled) k).answers.count in
    let least : full_tray (plain_after (plain_new 6 4) filled) a 2 (0 ∷ 0 ∷ []) ≡ 0 = rw (small_plain filled) at told in
    omega arith

-- ---- an invented free count: demands 2 and 3, by P's formula

-- "a" is made: the directory has a block, which is not free
forgot : T (right_count (plain_after (plain_new 6 4) made) (free_forgetting (plain_after (plain_new 6 4) made))) → ⊥
unfolding right_count first_no same holds climb P good_name used_by free_of look_up plain_create plain_call plain_after
forgot t = t

pub forgetting_fails : Demand2 forgetting → ⊥
forgetting_fails d = forgot (rw (small_plain made) at (count-asked forgetting d 0 one_stream (small_sound made)))

pub forgetting_fails_later : Demand3 forgetting → ⊥
unfolding does runs
forgetting_fails_later d =
    let blank : List ℕ = replicate 343 0 in
    let f = format-done blank 6 small in
    forgot (rw (f, small_plain made) at (count-asked_later forgetting d blank 6 (rw f refl) made))
