-- The calls on the bytes of a name that is known: each refusal in its turn, and what is done.
use mathlib.Core.Path.{◌≡◌, ◌∙◌}
use mathlib.Core.List.{List, [], ◌∷◌}
use Prim.Native.Nat.{ℕ, ◌≤◌, ◌<◌}
use native.Mathlib.Omega.{arith}
use lib.ListN.{length, take, drop}
use borrow.Author.Tests.{lt-ltb, le-ltb}
use Rattle.layout.specs.Bytes.{over}
use Rattle.layout.specs.Streams.{stream, stream_bytes}
use Rattle.layout.specs.Answers.{Outcome, refused, done, counted, sized}
use Rattle.layout.specs.Calls.{Test, unless, damaged, bad_name, not_known, past_the_end, size_of, index_of, truncated_in, size, read, truncate}
use Rattle.front.proofs.Outcomes.{pass, stop, none}
use Rattle.front.proofs.Passing.{Named}
use Rattle.front.proofs.Fronted.{past_name}
use Rattle.layout.specs.declared.Shape.{Shape}

module _ {c name : List ℕ} {s : Shape} {k at : ℕ} (n : Named c name s k at) where
  pub size-done : (m : ℕ) → m ≡ (stream c s k).size → sized m c [] ≡ size c name
  unfolding size
  size-done m a = rw (a, n.passed.cut, n.index) (none c [] _ ∙ past_name n [] _ [])

  -- ---- past the end

  module _ (m p : ℕ) (a : m ≡ (stream c s k).size) where
    size_is : m ≡ size_of c (index_of c name)
    size_is = a ∙ rw (n.passed.cut, n.index)

    pub refused_past : m < p → (t : List ℕ) (o : Outcome) (tests : List Test)
        → refused 5 0 c t ≡ unless (damaged c ∷ bad_name name ∷ not_known c name ∷ past_the_end (size_of c (index_of c name)) p ∷ tests) c t o
    refused_past b t o tests = stop c t o _ 5 tests (omega arith) (rw (← size_is) (lt-ltb m p b)) ∙ past_name n t o _

    module _ (b : p ≤ m) where
      pub past_end : (t : List ℕ) (o : Outcome) (tests : List Test)
          → unless tests c t o ≡ unless (damaged c ∷ bad_name name ∷ not_known c name ∷ past_the_end (size_of c (index_of c name)) p ∷ tests) c t o
      past_end t o tests = pass c t o _ 5 tests (rw (← size_is) (le-ltb m p b)) ∙ past_name n t o _

      pub read_done : (tray tray' : List ℕ) (r : ℕ) → r ≡ length (take (length tray) (drop p (stream_bytes c s k))) → tray' ≡ over tray 0 (take (length tray) (drop p (stream_bytes c s k)))
          → counted r c tray' ≡ read c name p tray
      unfolding read
      read_done tray tray' r l u = rw (l, u, n.passed.cut, n.index) (none c tray _ ∙ past_end tray _ [])

      pub truncate-done : (c' : List ℕ) → c' ≡ truncated_in c s k p → done c' [] ≡ truncate c name p
      unfolding truncate
      truncate-done c' l = rw (l, n.passed.cut, n.index) (none c [] _ ∙ past_end [] _ [])
