-- The definitions of the layout meet demand 2.
use mathlib.Core.Path.{◌≡◌, refl, ◌∙◌}
use mathlib.Core.Logic.{◌≢◌}
use mathlib.Core.Bool.{Bool, true, false}
use mathlib.Core.List.{List, [], ◌∷◌}
use Prim.Native.Nat.{ℕ, ◌<◌}
use native.Mathlib.Omega.{arith}
use lib.ListN.{length}
use lib.Dec.{ltb, ltb→lt}
use Rattle.layout.specs.Bytes.{pick}
use Rattle.layout.specs.Header.{good_shape}
use Rattle.layout.specs.Sound.{broken}
use Rattle.layout.specs.Answers.{Outcome, refused}
use Rattle.layout.specs.Calls.{Test, first_no, unless, damaged, format, check, room, size, read, list, write, truncate, create, delete}
use Rattle.laws.proofs.Picks.{eqb_no}
use Rattle.demands.specs.Call.{Call, checks, rooms, sizes, reads, lists, writes, truncates, creates, deletes}
use Rattle.demands.specs.Plain.{Plain, free_of, bad_name, not_known, already_known, past_the_end, streams_full, blocks_for, situations, plain_check, plain_room, plain_size, plain_read, plain_list, plain_write, plain_truncate, plain_create, plain_delete, plain_call}
use Rattle.demands.specs.Shows.{plain}
use Rattle.demands.specs.Store.{does, ours}
use Rattle.demands.specs.Demand2.{Given, ActsPlainly, Demand2}
use Rattle.demands.proofs.Numbers.{plain-number_is}
use Rattle.demands.proofs.Exactly.{Rising, exactly, never_given, last_given}
use Rattle.demands.proofs.History.{call_refines}

-- ---- the situations of a plain call

situations_rise : (p : Plain) (k : Call) → Rising 0 (situations p k)
situations_rise p checks = tt
situations_rise p rooms = tt
situations_rise p (sizes name) = (omega arith, (omega arith, tt))
situations_rise p (reads name at tray) = (omega arith, (omega arith, (omega arith, tt)))
situations_rise p (lists k tray) = (omega arith, (omega arith, tt))
situations_rise p (writes name at vs) = (omega arith, (omega arith, (omega arith, (omega arith, tt))))
situations_rise p (truncates name n) = (omega arith, (omega arith, (omega arith, tt)))
situations_rise p (creates name) = (omega arith, (omega arith, (omega arith, (omega arith, tt))))
situations_rise p (deletes name) = (omega arith, (omega arith, tt))

-- they decide its number
plain-number : (p : Plain) (k : Call) → (plain_call p k).number ≡ first_no (situations p k)
unfolding plain_call first_no plain_check plain_room plain_size plain_read plain_list plain_write plain_truncate plain_create plain_delete
plain-number p checks = refl
plain-number p rooms = refl
plain-number p (sizes name) = plain-number_is (situations p (sizes name)) p [] _ refl
plain-number p (reads name at tray) = plain-number_is (situations p (reads name at tray)) p tray _ refl
plain-number p (lists k tray) = plain-number_is (situations p (lists k tray)) p tray _ refl
plain-number p (writes name at vs) = plain-number_is (situations p (writes name at vs)) p [] _ refl
plain-number p (truncates name n) = plain-number_is (situations p (truncates name n)) p [] _ refl
plain-number p (creates name) = plain-number_is (situations p (creates name)) p [] _ refl
plain-number p (deletes name) = plain-number_is (situations p (deletes name)) p [] _ refl

-- NO ROOM is there only where more is needed than is free
too_many : (p : Plain) (k : Call) → Given (situations p k) 7 → free_of p < blocks_for p k
too_many p checks g = absurd g
too_many p rooms g = absurd g
too_many p (sizes name) g = absurd (never_given 7 (situations p (sizes name)) tt g)
too_many p (reads name at tray) g = absurd (never_given 7 (situations p (reads name at tray)) tt g)
too_many p (lists k tray) g = absurd (never_given 7 (situations p (lists k tray)) tt g)
too_many p (writes name at vs) g = ltb→lt _ _ (last_given 7 (bad_name name ∷ not_known p name ∷ past_the_end p name at ∷ []) (ltb (free_of p) (blocks_for p (writes name at vs))) tt g)
too_many p (truncates name n) g = absurd (never_given 7 (situations p (truncates name n)) tt g)
too_many p (creates name) g = ltb→lt _ _ (last_given 7 (bad_name name ∷ already_known p name ∷ streams_full p ∷ []) (ltb (free_of p) (blocks_for p (creates name))) tt g)
too_many p (deletes name) g = absurd (never_given 7 (situations p (deletes name)) tt g)

-- ---- on a card that passes its check

plainly : (n : ℕ) (c : List ℕ) → broken c ≡ 0 → (k : Call) → ActsPlainly (plain c) k (does ours n c k)
plainly n c e k =
    let p = plain c in
    let r = call_refines n c e k in
    let first : (does ours n c k).number ≡ first_no (situations p k) = r.answers.number ∙ plain-number p k in
    let exact = exactly (situations p k) (situations_rise p k) (does ours n c k).number first in
    record {
      answers = r.answers;
      acts = r.shows;
      refuses = exact;
      room = λ l u. omega (arith, too_many p k ((exact 7 (omega arith)).0 u).0);
    }

-- ---- on any other

module _ (c : List ℕ) (b : broken c ≢ 0) where
  found_damaged : (tests : List Test) (t : List ℕ) (o : Outcome) → unless (damaged c ∷ tests) c t o ≡ refused 1 (broken c) c t
  unfolding first_no
  found_damaged tests t o = rw (eqb_no b)

  says : (o : Outcome) (t : List ℕ) → o ≡ refused 1 (broken c) c t → (o.number ≡ 1) × (o.rule ≡ broken c)
  says o t e = rw e (refl, refl)

  damage : (n : ℕ) (k : Call) → ((does ours n c k).number ≡ 1) × ((does ours n c k).rule ≡ broken c)
  unfolding does check room size read list write truncate create delete
  damage n checks = says _ [] (found_damaged _ [] _)
  damage n rooms = says _ [] (found_damaged _ [] _)
  damage n (sizes name) = says _ [] (found_damaged _ [] _)
  damage n (reads name p tray) = says _ tray (found_damaged _ tray _)
  damage n (lists k tray) = says _ tray (found_damaged _ tray _)
  damage n (writes name p vs) = says _ [] (found_damaged _ [] _)
  damage n (truncates name m) = says _ [] (found_damaged _ [] _)
  damage n (creates name) = says _ [] (found_damaged _ [] _)
  damage n (deletes name) = says _ [] (found_damaged _ [] _)

shape-asked : (c : List ℕ) (shift : ℕ) → (format c shift).number ≡ pick (good_shape (length c) shift) 0 9
unfolding format
shape-asked c shift = go (good_shape (length c) shift) _ _ refl refl
  where
    go : (t : Bool) (a b : Outcome) → a.number ≡ 0 → b.number ≡ 9 → (pick t a b).number ≡ pick t 0 9
    go true a b x y = x
    go false a b x y = y

pub meets_demand2 : Demand2 ours
meets_demand2 = record { plainly = plainly; damaged = λ n c b k. damage c b n k; formats = λ n c shift. shape-asked c shift }
