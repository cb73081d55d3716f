-- On the plain list: the descriptors are one more than the most items at once.
use mathlib.Core.Path.{◌≡◌}
use mathlib.Core.List.{List, [], ◌∷◌}
use Prim.Native.Nat.{ℕ, ◌+◌, ◌≤◌, max}
use native.Mathlib.Decide.{ℕ_discrete}
use native.Mathlib.Omega.{arith}
use lib.ListN.{length, length-append}
use Rattle.layout.specs.Calls.{Test, first_no}
use Rattle.laws.proofs.Picks.{eqb_yes, eqb_no}
use Rattle.demands.specs.Plain.{Item, Plain, Plainly, or_no, edited, removed, with_items, plain_check, plain_room, plain_size, plain_read, plain_list, plain_write, plain_truncate, plain_create, plain_delete, plain_call}
use Rattle.demands.specs.Call.{Call, checks, rooms, sizes, reads, lists, writes, truncates, creates, deletes}
use Rattle.demands.specs.Runs.{plain_after, peak}
use Rattle.demands.proofs.Items.{length-edited, length_removed}

-- there is a descriptor for the root and for each item, and no more than the items ever needed
abbrev Kept : Plain → Plain → Type 0
Kept p q = q.descs ≡ max p.descs (length q.items + 1)

module _ (p : Plain) (enough : length p.items + 1 ≤ p.descs) where
  same : Kept p p
  same = omega arith

  either : (tests : List Test) (t : List ℕ) (q : Plainly) → Kept p q.after → Kept p (or_no tests p t q).after
  either tests t q k = elim (ℕ_discrete (first_no tests) 0) [ yes e ↦ rw (eqb_yes e) k | no n ↦ rw (eqb_no n) same ]

  fewer : (fs : List Item) → length fs ≤ length p.items → Kept p (with_items p fs)
  fewer fs l = omega arith

  edits : (name : List ℕ) (f : List ℕ → List ℕ) → Kept p (with_items p (edited name f p.items))
  edits name f = fewer (edited name f p.items) (omega (arith, length-edited name f p.items))

  call_descs : (k : Call) → Kept p (plain_call p k).after
  unfolding plain_call plain_check plain_room plain_size plain_read plain_list plain_write plain_truncate plain_create plain_delete
  call_descs checks = same
  call_descs rooms = same
  call_descs (sizes name) = either _ [] _ same
  call_descs (reads name at tray) = either _ tray _ same
  call_descs (lists k tray) = either _ tray _ same
  call_descs (writes name at vs) = either _ [] _ (edits name _)
  call_descs (truncates name n) = either _ [] _ (edits name _)
  call_descs (creates name) = either _ [] _ (rw length-append (omega arith))
  call_descs (deletes name) = either _ [] _ (fewer (removed name p.items) (length_removed name p.items))

peak_has : (p : Plain) (ks : List Call) → length p.items ≤ peak p ks
unfolding peak
peak_has p [] = omega arith
peak_has p (k ∷ ks) = omega arith

pub descs-peak : (ks : List Call) (p : Plain) → length p.items + 1 ≤ p.descs → (plain_after p ks).descs ≡ max p.descs (peak p ks + 1)
unfolding plain_after peak
descs-peak [] p h = omega arith
descs-peak (k ∷ ks) p h =
    let q = (plain_call p k).after in
    let e = call_descs p h k in
    omega (arith, descs-peak ks q (omega arith), peak_has q ks)
