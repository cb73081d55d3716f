-- Each call on a card that passes its check answers and acts as the plain call on the list that the card shows.
use mathlib.Core.Path.{◌≡◌, refl, sym, ap, ◌∙◌}
use mathlib.Core.List.{List, [], ◌∷◌}
use Prim.Native.Nat.{ℕ}
use Rattle.layout.specs.Sound.{broken}
use Rattle.layout.specs.Answers.{Outcome, counted}
use Rattle.layout.specs.Calls.{Test, unless, damaged, check, room, size, read, list, write, truncate, create, delete}
use Rattle.laws.proofs.Soundness.{sound, whole}
use Rattle.demands.specs.Plain.{Plain, Plainly, or_no, plain_check, plain_room, plain_size, plain_read, plain_list, plain_write, plain_truncate, plain_create, plain_delete}
use Rattle.demands.specs.Shows.{plain}
use Rattle.demands.specs.Demand2.{Answers}
use Rattle.demands.proofs.Agrees.{Left, Looks, answers, leaves}
use Rattle.demands.proofs.Refusals.{write-number, truncate-number, create-number, delete-number}
use Rattle.demands.proofs.Values.{check_values, room_values, size_values, read_values, list_values}
use Rattle.demands.proofs.Writes.{write_done}
use Rattle.demands.proofs.Truncates.{truncate-done}
use Rattle.demands.proofs.Creates.{create-done}
use Rattle.demands.proofs.Deletes.{delete-done}

-- the answers, and a card that passes its check and shows the list that is left
pub record Refines (o : Outcome) (q : Plainly) : Type 0 where
  pub answers : Answers o q
  pub sound : broken o.card ≡ 0
  pub shows : plain o.card ≡ q.after

refines : {o : Outcome} {q : Plainly} → Answers o q → Left o q → Refines o q
refines {o} a l = record { answers = a; sound = whole o.card l.after; shows = l.shows }

module _ (c : List ℕ) (passes : broken c ≡ 0) where
  -- the calls that change nothing
  looked : {o : Outcome} {q : Plainly} → Looks c o q → Refines o q
  looked l = refines l.answers (record { after = rw l.card (sound c passes); shows = ap plain l.card ∙ sym l.list })

  pub check_refines : Refines (check c) (plain_check (plain c))
  check_refines = looked (check_values c (sound c passes))

  pub room_refines : Refines (room c) (plain_room (plain c))
  room_refines = looked (room_values c (sound c passes))

  pub size_refines : (name : List ℕ) → Refines (size c name) (plain_size (plain c) name)
  size_refines name = looked (size_values c (sound c passes) name)

  pub read_refines : (name : List ℕ) (p : ℕ) (tray : List ℕ) → Refines (read c name p tray) (plain_read (plain c) name p tray)
  read_refines name p tray = looked (read_values c (sound c passes) name p tray)

  pub list_refines : (k : ℕ) (tray : List ℕ) → Refines (list c k tray) (plain_list (plain c) k tray)
  list_refines k tray = looked (list_values c (sound c passes) k tray)

  -- the calls that change the card, and tell a count at most
  acts : (n : ℕ) (x y : List Test) (c' : List ℕ) (p : Plain) →
      let o = unless (damaged c ∷ x) c [] (counted n c' []) in
      let q = or_no y (plain c) [] (record { number = 0; count = n; size = 0; length = 0; tray = []; after = p }) in
      o.number ≡ q.number → (o.number ≡ 0 → Left o q) → Refines o q
  acts n x y c' p same done = refines
      (answers c (sound c passes) [] x y _ _ refl refl same (λ z. record { number = refl; rule = refl; count = refl; size = refl; length = refl; tray = refl }))
      (leaves c (sound c passes) [] x y _ _ refl refl same done)

  pub write_refines : (name : List ℕ) (p : ℕ) (vs : List ℕ) → Refines (write c name p vs) (plain_write (plain c) name p vs)
  unfolding write plain_write
  write_refines name p vs = acts _ _ _ _ _ (write-number c (sound c passes) name p vs) (λ z. let d = write_done c name p vs z in record { after = d.after; shows = d.plainly })

  pub truncate_refines : (name : List ℕ) (n : ℕ) → Refines (truncate c name n) (plain_truncate (plain c) name n)
  unfolding truncate plain_truncate
  truncate_refines name n = acts _ _ _ _ _ (truncate-number c (sound c passes) name n) (λ z. let d = truncate-done c name n z in record { after = d.after; shows = d.plainly })

  pub create_refines : (name : List ℕ) → Refines (create c name) (plain_create (plain c) name)
  unfolding create plain_create
  create_refines name = acts _ _ _ _ _ (create-number c (sound c passes) name) (λ z. let d = create-done c name z in record { after = d.after; shows = d.plainly })

  pub delete_refines : (name : List ℕ) → Refines (delete c name) (plain_delete (plain c) name)
  unfolding delete plain_delete
  delete_refines name = acts _ _ _ _ _ (delete-number c (sound c passes) name) (λ z. let d = delete-done c name z in record { after = d.after; shows = d.plainly })
