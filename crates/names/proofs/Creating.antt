-- Create: whether there is a place for the name and room for its entry, and what is done.
use mathlib.Core.Path.{◌≡◌, sym, ◌∙◌}
use mathlib.Core.Bool.{Bool, true, false, not}
use mathlib.Core.List.{List, [], ◌∷◌}
use Prim.Native.Nat.{ℕ}
use native.Mathlib.Omega.{arith}
use lib.ListN.{length}
use lib.Dec.{leb, ltb}
use Rattle.layout.specs.Limits.{most_streams}
use Rattle.layout.specs.Blocks.{chain, enough}
use Rattle.layout.specs.Streams.{table_bytes, lives}
use Rattle.layout.specs.Header.{shape_of}
use Rattle.layout.specs.Answers.{Outcome, refused, done}
use Rattle.layout.specs.Calls.{Test, unless, damaged, bad_name, already_known, streams_full, create_wants_in, create_wants, created_in, created, create}
use Rattle.acts.specs.Full.{full_table}
use Rattle.acts.proofs.Refusing.{enough_is, full_is}
use Rattle.front.proofs.Outcomes.{pass, stop, none, past_4}
use Rattle.front.proofs.Passing.{Fresh, core}
use Rattle.layout.specs.declared.Shape.{Shape}

module _ {c name : List ℕ} {s : Shape} (n : Fresh c name s) (v : Bool) (a : v ≡ full_table (table_bytes c s)) where
  past_new : (o : Outcome) (tests : List Test) → unless tests c [] o ≡ unless (damaged c ∷ bad_name name ∷ already_known c name ∷ tests) c [] o
  past_new o tests = past_4 c [] o name tests n.passed.unbroken n.good n.new

  full_of : v ≡ leb most_streams (length (lives (table_bytes c (shape_of c))))
  full_of = a ∙ full_is c s (core n.passed) ∙ rw n.passed.cut

  pub create-full : v ≡ true → refused 6 0 c [] ≡ create c name
  unfolding create
  create-full b = stop c [] _ _ 6 _ (omega arith) (sym full_of ∙ b) ∙ past_new _ _

  module _ (b : v ≡ false) (r : ℕ) (d : r ≡ create_wants_in c s 0 name) (o : Bool) (f : o ≡ enough c s r) where
    past_full : (q : Outcome) (tests : List Test) → unless tests c [] q ≡ unless (damaged c ∷ bad_name name ∷ already_known c name ∷ streams_full c ∷ tests) c [] q
    past_full q tests = pass c [] q _ 6 tests (sym full_of ∙ b) ∙ past_new q _

    room_of : not o ≡ ltb (length (chain c (shape_of c))) (create_wants c name)
    room_of = rw (f, ← n.passed.cut, ← d) (enough_is c s (core n.passed) r)

    pub create_cramped : o ≡ false → refused 7 0 c [] ≡ create c name
    unfolding create
    create_cramped l = stop c [] _ _ 7 [] (omega arith) (sym room_of ∙ rw l) ∙ past_full _ _

    pub create-done : (c' : List ℕ) → o ≡ true → c' ≡ created_in c s 0 name → done c' [] ≡ create c name
    unfolding create created
    create-done c' l u = rw (u, n.passed.cut) (none c [] _ ∙ pass c [] _ _ 7 [] (sym room_of ∙ rw l) ∙ past_full _ _)
