-- When a call on a card and the plain call on its list agree: by their tests, and by what they do where neither refuses.
use mathlib.Core.Path.{◌≡◌, refl, sym, ◌∙◌}
use mathlib.Core.Bool.{Bool, true, false}
use mathlib.Core.List.{List, ◌∷◌}
use Prim.Native.Nat.{ℕ}
use native.Mathlib.Decide.{ℕ_discrete}
use lib.Dec.{eqb}
use Rattle.layout.specs.Bytes.{pick}
use Rattle.layout.specs.Sound.{broken}
use Rattle.layout.specs.Answers.{Outcome, refused}
use Rattle.layout.specs.Calls.{Test, first_no, unless, damaged}
use Rattle.laws.proofs.Picks.{eqb_yes, eqb_no}
use Rattle.laws.proofs.State.{Whole}
use Rattle.laws.proofs.Soundness.{whole}
use Rattle.demands.specs.Plain.{Plainly, only, or_no}
use Rattle.demands.specs.Shows.{plain}
use Rattle.demands.specs.Demand2.{Answers}
use Rattle.demands.proofs.Numbers.{number_is, plain-number_is}

-- a call that answers so, and changes neither the card nor the list
pub record Looks (c : List ℕ) (o : Outcome) (q : Plainly) : Type 0 where
  pub answers : Answers o q
  pub card : o.card ≡ c
  pub list : q.after ≡ plain c

-- the card that is left is whole, and shows the list that is left
pub record Left (o : Outcome) (q : Plainly) : Type 0 where
  pub after : Whole o.card
  pub shows : plain o.card ≡ q.after

module _ (c : List ℕ) (w : Whole c) (t : List ℕ) (x y : List Test) (o : Outcome) (q : Plainly) (a : o.number ≡ 0) (b : q.number ≡ 0)
    (same : (unless (damaged c ∷ x) c t o).number ≡ (or_no y (plain c) t q).number) where
  -- both are refused, or none
  together : first_no (damaged c ∷ x) ≡ first_no y
  together = sym (number_is (damaged c ∷ x) c t o a) ∙ same ∙ plain-number_is y (plain c) t q b

  abbrev tests : List Test
  tests = damaged c ∷ x

  either : (P : Outcome → Plainly → Type 0) → (first_no tests ≡ 0 → P o q) → P (refused (first_no tests) (pick (eqb (first_no tests) 1) (broken c) 0) c t) (only (first_no y) (plain c) t)
      → P (unless tests c t o) (or_no y (plain c) t q)
  either P f g = elim (ℕ_discrete (first_no tests) 0) [
    | yes z ↦ rw (eqb_yes z, eqb_yes (sym together ∙ z)) (f z)
    | no n ↦ rw (eqb_no n, eqb_no {a = first_no y} {b = 0} (λ z. n (together ∙ z))) g
  ]

  pub answers : (first_no tests ≡ 0 → Answers o q) → Answers (unless tests c t o) (or_no y (plain c) t q)
  answers f = either Answers f (record { number = together; rule = no-rule (eqb (first_no tests) 1) (broken c) (whole c w); count = refl; size = refl; length = refl; tray = refl })
    where
      no-rule : (b : Bool) (n : ℕ) → n ≡ 0 → pick b n 0 ≡ 0
      no-rule true n e = e
      no-rule false n e = refl

  pub leaves : ((unless tests c t o).number ≡ 0 → Left (unless tests c t o) (or_no y (plain c) t q)) → Left (unless tests c t o) (or_no y (plain c) t q)
  leaves f = either Left (λ z. rw (eqb_yes z, eqb_yes (sym together ∙ z)) at (f (number_is tests c t o a ∙ z))) (record { after = w; shows = refl })

  -- a call that changes nothing
  pub looks : (first_no tests ≡ 0 → Looks c o q) → Looks c (unless tests c t o) (or_no y (plain c) t q)
  looks f = record {
    answers = answers (λ z. (f z).answers);
    card = either (λ o q. o.card ≡ c) (λ z. (f z).card) refl;
    list = either (λ o q. q.after ≡ plain c) (λ z. (f z).list) refl;
  }
