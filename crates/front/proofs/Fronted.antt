-- What the calls begin with: the promises of `examine` and `seek` as they come to be, and what follows from each of their cases.
use mathlib.Core.Path.{◌≡◌, refl, sym, subst, ◌∙◌}
use mathlib.Core.Bool.{Bool, true, false}
use mathlib.Core.List.{List, ◌∷◌}
use Rattle.std.specs.Prelude.{Option, Some, None, Result, Ok, Err}
use Rattle.std.specs.Option.{ok_or, is_some}
use Rattle.std.specs.Result.{result_ok}
use Prim.Native.Nat.{ℕ}
use native.Mathlib.Nat.{zero-add}
use lib.ListN.{length}
use lib.Dec.{eqb}
use borrow.Author.Tests.{ne_eqb, eqb-true, eqb-false}
use Rattle.layout.specs.Bytes.{pick}
use Rattle.layout.specs.Blocks.{chain}
use Rattle.layout.specs.Filing.{good_name, entries_of, look_in}
use Rattle.layout.specs.Header.{shape_of}
use Rattle.layout.specs.Sound.{broken}
use Rattle.layout.specs.Answers.{Outcome, refused, rule_number, rule_at, number_of, rule_of}
use Rattle.layout.specs.Calls.{Test, unless, root_of, known, entry_of, index_of, damaged, bad_name, not_known, already_known}
use Rattle.laws.proofs.RuleNumbers.{rule_back, rule_some, broken_back}
use Rattle.filing.specs.Located.{located}
use Rattle.filing.proofs.Answers.{located_is}
use Rattle.sound.specs.Lowest.{free_of}
use Rattle.front.specs.Fronts.{examined_of, found_of, sought_of}
use Rattle.front.proofs.Outcomes.{refuse_1, refuse_2, refuse_3, refuse_4, past_3}
use Rattle.front.proofs.Passing.{Passed, Fresh, Named}
use Rattle.filing.specs.declared.entries.Found.{Found}
use Rattle.layout.specs.declared.Shape.{Shape}
use Rattle.layout.specs.declared.answers.Rule.{Rule}
use Rattle.layout.specs.declared.answers.Refusal.{Refusal}
use Rattle.layout.specs.declared.answers.Refusal.TheVariants as no
use Rattle.front.specs.declared.Examined.{Examined}
use Rattle.front.specs.declared.Sought.{Sought}

-- ---- the card, checked

pub examined_damaged : (c : List ℕ) (r : Rule) → rule_number r ≡ broken c → Err (no.Damaged r) ≡ examined_of c
unfolding examined_of
examined_damaged c r e = rw (← e, ne_eqb (rule_number r) 0 (rule_some r), rule_back r)

pub examined_sound : (c : List ℕ) → 0 ≡ broken c → (s : Shape) → s ≡ shape_of c → (n : ℕ) → n ≡ free_of c → Ok (record { shape = s; free = n }) ≡ examined_of c
unfolding examined_of free_of
examined_sound c z s f n g = rw (f, g, ← z)

-- what each case says of the card
abbrev Examines : List ℕ → Result Examined Refusal → Type 0
Examines c (Err why) = (t : List ℕ) (a : Outcome) (tests : List Test) → refused (number_of why) (rule_of why) c t ≡ unless (damaged c ∷ tests) c t a
Examines c (Ok x) = Passed c x.shape × (x.free ≡ length (chain c x.shape))

-- a card that breaks a rule, with that rule's number
broken_rule : (c : List ℕ) → eqb (broken c) 0 ≡ false → rule_number (rule_at (broken c)) ≡ broken c
broken_rule c e = broken_back c (eqb-false (broken c) 0 e)

examines : (c : List ℕ) → Examines c (examined_of c)
unfolding examined_of
examines c = by_test (eqb (broken c) 0) refl where
  by_test : (b : Bool) → eqb (broken c) 0 ≡ b → Examines c (pick b (Ok (record { shape = shape_of c; free = length (chain c (shape_of c)) })) (Err (no.Damaged (rule_at (broken c)))))
  by_test true e = (record { unbroken = eqb-true (broken c) 0 e; cut = refl }, refl)
  by_test false e = λ t a tests. rw (broken_rule c e) (refuse_1 c t a tests e)

module _ (c : List ℕ) where
  pub sound_of : {x : Examined} → Ok x ≡ examined_of c → Passed c x.shape
  sound_of e = (subst (λ (r : Result Examined Refusal). Examines c r) (sym e) (examines c)).0

  pub free_of_lem : {x : Examined} → Ok x ≡ examined_of c → x.free ≡ length (chain c x.shape)
  free_of_lem e = (subst (λ (r : Result Examined Refusal). Examines c r) (sym e) (examines c)).1

  pub refused-damaged : {why : Refusal} → Err why ≡ examined_of c → (t : List ℕ) (a : Outcome) (tests : List Test) → refused (number_of why) (rule_of why) c t ≡ unless (damaged c ∷ tests) c t a
  refused-damaged e = subst (λ (r : Result Examined Refusal). Examines c r) (sym e) (examines c)

-- ---- the name, looked for

pub sought_damaged : (c name : List ℕ) {why : Refusal} → Err why ≡ examined_of c → Err why ≡ sought_of c name
unfolding examined_of sought_of
sought_damaged c name {why = why} e = go (eqb (broken c) 0) _ _ _ e
  where
    go : (b : Bool) (x : Examined) (w : Refusal) (y : Result Sought Refusal) → Err why ≡ pick b (Ok x) (Err w) → Err why ≡ pick b y (Err w)
    go true x w y f = absurd (cc)
    go false x w y f = cc

-- what `ok` keeps
kept_ok : {A E : Type 0} (b : Bool) (x : A) (m : E) → result_ok (pick b (Ok x) (Err m)) ≡ pick b (Some x) None
kept_ok true x m = refl
kept_ok false x m = refl

module _ (c name : List ℕ) (s : Shape) (p : Passed c s) (q : Bool) (f : q ≡ good_name name) where
  pub sought_bad : q ≡ false → Err no.BadName ≡ sought_of c name
  unfolding sought_of
  sought_bad g = rw (p.unbroken, ← f, g)

  pub sought-done : q ≡ true → (r : Result Found ℕ) (o : Option Found) → r ≡ located (entries_of c s 0) name 0 → o ≡ result_ok r → Ok (record { shape = s; found = o }) ≡ sought_of c name
  unfolding sought_of
  sought-done g r o w e =
      let there : o ≡ found_of c name = e ∙ rw (w, p.cut, located_is (root_of c) name 0, zero-add (look_in (root_of c) name)) (kept_ok (known c name) _ _) in
      rw (p.unbroken, ← f, g, there, p.cut)

-- where there is nothing, `ok_or` gives its error
pub lost : {A E : Type 0} (o : Option A) (e x : E) → Err x ≡ ok_or o e → (o ≡ None) × (x ≡ e)
lost None e x h = (refl, cc)
lost (Some y) e x h = absurd (cc)

-- what a name's place says of it
abbrev Places : List ℕ → List ℕ → Shape → Option Found → Type 0
Places c name s (Some f) = Named c name s f.index f.at
Places c name s None = Fresh c name s

-- what each case says of card and name
abbrev Seeks : List ℕ → List ℕ → Result Sought Refusal → Type 0
Seeks c name (Err why) = (t : List ℕ) (a : Outcome) (tests : List Test) → refused (number_of why) (rule_of why) c t ≡ unless (damaged c ∷ bad_name name ∷ tests) c t a
Seeks c name (Ok x) = Places c name x.shape x.found

seeks : (c name : List ℕ) → Seeks c name (sought_of c name)
unfolding sought_of
seeks c name = by_tests (eqb (broken c) 0) refl (good_name name) refl (known c name) refl where
  by_tests : (b : Bool) → eqb (broken c) 0 ≡ b → (g : Bool) → good_name name ≡ g → (k : Bool) → known c name ≡ k
      → Seeks c name (pick b (pick g (Ok (record { shape = shape_of c; found = pick k (Some (record { number = look_in (root_of c) name; index = index_of c name; at = (entry_of c name).at })) None })) (Err no.BadName)) (Err (no.Damaged (rule_at (broken c)))))
  by_tests true e true g true k = record { passed = record { unbroken = eqb-true (broken c) 0 e; cut = refl }; good = g; found = k; index = refl; place = refl }
  by_tests true e true g false k = record { passed = record { unbroken = eqb-true (broken c) 0 e; cut = refl }; good = g; new = k }
  by_tests true e false g k y = λ t a tests. refuse_2 c t a name tests (eqb-true (broken c) 0 e) g
  by_tests false e g f k y = λ t a tests. rw (broken_rule c e) (refuse_1 c t a (bad_name name ∷ tests) e)

module _ (c name : List ℕ) where
  places : {x : Sought} {o : Option Found} → Ok x ≡ sought_of c name → x.found ≡ o → Places c name x.shape o
  places {x = x} e g = subst (λ (o : Option Found). Places c name x.shape o) g (subst (λ (r : Result Sought Refusal). Seeks c name r) (sym e) (seeks c name))

  pub known_of : {x : Sought} {f : Found} → Ok x ≡ sought_of c name → x.found ≡ Some f → Named c name x.shape f.index f.at
  known_of e g = places e g

  pub unknown_of : {x : Sought} → Ok x ≡ sought_of c name → x.found ≡ None → Fresh c name x.shape
  unknown_of e g = places e g

  pub fresh_of : {x : Sought} → Ok x ≡ sought_of c name → is_some x.found ≡ false → Fresh c name x.shape
  fresh_of {x = x} e g = go x.found refl g where
    go : (o : Option Found) → x.found ≡ o → is_some o ≡ false → Fresh c name x.shape
    go (Some f) h k = absurd (cc)
    go None h k = unknown_of e h

  module _ (t : List ℕ) (a : Outcome) (tests : List Test) where
    pub refused-first : {why : Refusal} → Err why ≡ sought_of c name → refused (number_of why) (rule_of why) c t ≡ unless (damaged c ∷ bad_name name ∷ tests) c t a
    refused-first e = subst (λ (r : Result Sought Refusal). Seeks c name r) (sym e) (seeks c name) t a tests

    pub refused_unknown : {x : Sought} → Ok x ≡ sought_of c name → x.found ≡ None → refused 3 0 c t ≡ unless (damaged c ∷ bad_name name ∷ not_known c name ∷ tests) c t a
    refused_unknown e g = let n = unknown_of e g in refuse_3 c t a name tests n.passed.unbroken n.good n.new

    pub refused_lost : {x : Sought} {why : Refusal} → Ok x ≡ sought_of c name → Err why ≡ ok_or x.found no.NotKnown → refused (number_of why) (rule_of why) c t ≡ unless (damaged c ∷ bad_name name ∷ not_known c name ∷ tests) c t a
    refused_lost {x = x} {why = why} e g = let z = lost x.found no.NotKnown why g in rw z.1 (refused_unknown e z.0)

    pub refused-known : {x : Sought} → Ok x ≡ sought_of c name → is_some x.found ≡ true → refused 4 0 c t ≡ unless (damaged c ∷ bad_name name ∷ already_known c name ∷ tests) c t a
    refused-known {x = x} e g = go x.found refl g where
      go : (o : Option Found) → x.found ≡ o → is_some o ≡ true → refused 4 0 c t ≡ unless (damaged c ∷ bad_name name ∷ already_known c name ∷ tests) c t a
      go (Some f) h k = let n = known_of e h in refuse_4 c t a name tests n.passed.unbroken n.good n.found
      go None h k = absurd (cc)

-- a name that is known is past the three tests
module _ {c name : List ℕ} {s : Shape} {k at : ℕ} (n : Named c name s k at) where
  pub past_name : (t : List ℕ) (o : Outcome) (tests : List Test) → unless tests c t o ≡ unless (damaged c ∷ bad_name name ∷ not_known c name ∷ tests) c t o
  past_name t o tests = past_3 c t o name tests n.passed.unbroken n.good n.found
