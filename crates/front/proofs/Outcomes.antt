-- Refusals in the order of the list: the first test that is true gives the number; where none is, the call does its work.
use mathlib.Core.Path.{◌≡◌, refl, ◌∙◌}
use mathlib.Core.Bool.{Bool, true, false, not}
use mathlib.Core.List.{List, [], ◌∷◌}
use Prim.Native.Nat.{ℕ, ◌≤◌}
use native.Mathlib.Omega.{arith}
use lib.Dec.{eqb}
use borrow.Author.Tests.{ne_eqb}
use Rattle.layout.specs.Filing.{good_name}
use Rattle.layout.specs.Sound.{broken}
use Rattle.layout.specs.Answers.{Outcome, refused}
use Rattle.layout.specs.Calls.{Test, first_no, unless, known, damaged, bad_name, not_known, already_known}

module _ (c t : List ℕ) (o : Outcome) where
  -- a test that is false is passed by
  pub pass : (b : Bool) (n : ℕ) (tests : List Test) → b ≡ false → unless tests c t o ≡ unless ((b, n) ∷ tests) c t o
  unfolding first_no
  pass b n tests e = rw e

  -- one that is true ends it
  pub stop : (b : Bool) (n : ℕ) (tests : List Test) → 2 ≤ n → b ≡ true → refused n 0 c t ≡ unless ((b, n) ∷ tests) c t o
  unfolding first_no
  stop b n tests h e = rw (e, ne_eqb n 0 (λ z. omega arith), ne_eqb n 1 (λ z. omega arith))

  pub none : o ≡ unless [] c t o
  unfolding first_no
  none = refl

  module _ (tests : List Test) where
    pub refuse_1 : eqb (broken c) 0 ≡ false → refused 1 (broken c) c t ≡ unless (damaged c ∷ tests) c t o
    unfolding first_no
    refuse_1 e = rw e

    pub past_1 : broken c ≡ 0 → unless tests c t o ≡ unless (damaged c ∷ tests) c t o
    past_1 z = pass (not (eqb (broken c) 0)) 1 tests (rw z)

  -- the three that most calls begin with
  module _ (name : List ℕ) (tests : List Test) (z : broken c ≡ 0) where
    pub refuse_2 : good_name name ≡ false → refused 2 0 c t ≡ unless (damaged c ∷ bad_name name ∷ tests) c t o
    refuse_2 g = stop (not (good_name name)) 2 tests (omega arith) (rw g) ∙ past_1 (bad_name name ∷ tests) z

    past_2 : good_name name ≡ true → unless tests c t o ≡ unless (damaged c ∷ bad_name name ∷ tests) c t o
    past_2 g = pass (not (good_name name)) 2 tests (rw g) ∙ past_1 (bad_name name ∷ tests) z

  module _ (name : List ℕ) (tests : List Test) (z : broken c ≡ 0) (g : good_name name ≡ true) where
    pub refuse_3 : known c name ≡ false → refused 3 0 c t ≡ unless (damaged c ∷ bad_name name ∷ not_known c name ∷ tests) c t o
    refuse_3 y = stop (not (known c name)) 3 tests (omega arith) (rw y) ∙ past_2 name (not_known c name ∷ tests) z g

    pub past_3 : known c name ≡ true → unless tests c t o ≡ unless (damaged c ∷ bad_name name ∷ not_known c name ∷ tests) c t o
    past_3 y = pass (not (known c name)) 3 tests (rw y) ∙ past_2 name (not_known c name ∷ tests) z g

    pub refuse_4 : known c name ≡ true → refused 4 0 c t ≡ unless (damaged c ∷ bad_name name ∷ already_known c name ∷ tests) c t o
    refuse_4 y = stop (known c name) 4 tests (omega arith) y ∙ past_2 name (already_known c name ∷ tests) z g

    pub past_4 : known c name ≡ false → unless tests c t o ≡ unless (damaged c ∷ bad_name name ∷ already_known c name ∷ tests) c t o
    past_4 y = pass (known c name) 4 tests y ∙ past_2 name (already_known c name ∷ tests) z g
