-- No second answer, card or tray meets a call's promise, the Result's case included; and a refusal leaves everything.
use mathlib.Core.Path.{◌≡◌, refl, sym, ap, ◌∙◌}
use mathlib.Core.Logic.{◌≢◌}
use mathlib.Core.Bool.{Bool, true, false}
use mathlib.Core.List.{List, []}
use Prim.Native.Nat.{ℕ}
use native.Mathlib.Decide.{ℕ_discrete}
use lib.ListN.{length}
use Rattle.std.specs.Prelude.{Result, Ok, Err, ⊤}
use lib.Dec.{eqb}
use borrow.Author.Tests.{eq-eqb, ne_eqb}
use Rattle.layout.specs.Bytes.{pick}
use Rattle.layout.specs.Header.{good_shape}
use Rattle.layout.specs.Sound.{broken}
use Rattle.layout.specs.Answers.{Outcome, refused, done, rule_at, number_of, rule_of, said_done, said_counted, said_sized, said_listed}
use Rattle.layout.specs.Calls.{Test, first_no, unless, formatted, format, check, room, create, write, read, truncate, delete, size, list}
use Rattle.layout.specs.Promises.{Formats, Checks, Rooms, Creates, Writes, Reads, Truncates, Deletes, Sizes, Lists}
use Rattle.layout.specs.declared.answers.Refusal.{Refusal}
use Rattle.layout.specs.declared.answers.Refusal.TheVariants as no
use Rattle.layout.specs.declared.answers.Listed.{Listed}
use Rattle.laws.proofs.RuleNumbers.{rule_back}
use Rattle.demands.specs.Exact.{Untouched}

-- ---- an answer is read back from its numbers

refusal_of : ℕ → ℕ → Refusal
refusal_of n r =
    pick (eqb n 1) (no.Damaged (rule_at r)) (pick (eqb n 2) no.BadName (pick (eqb n 3) no.NotKnown (pick (eqb n 4) no.AlreadyKnown (pick (eqb n 5) no.PastTheEnd
    (pick (eqb n 6) no.StreamsFull (pick (eqb n 7) no.NoRoom (pick (eqb n 8) no.ShortTray no.BadShape)))))))

refusal_back : (x : Refusal) → refusal_of (number_of x) (rule_of x) ≡ x
unfolding refusal_of
refusal_back (no.Damaged r) = ap no.Damaged (rule_back r)
refusal_back no.BadName = refl
refusal_back no.NotKnown = refl
refusal_back no.AlreadyKnown = refl
refusal_back no.PastTheEnd = refl
refusal_back no.StreamsFull = refl
refusal_back no.NoRoom = refl
refusal_back no.ShortTray = refl
refusal_back no.BadShape = refl

-- a refusal's number is not 0
refused_not_done : {A : Type 0} (x : Refusal) (a b : A) → pick (eqb (number_of x) 0) a b ≡ b
refused_not_done (no.Damaged r) a b = refl
refused_not_done no.BadName a b = refl
refused_not_done no.NotKnown a b = refl
refused_not_done no.AlreadyKnown a b = refl
refused_not_done no.PastTheEnd a b = refl
refused_not_done no.StreamsFull a b = refl
refused_not_done no.NoRoom a b = refl
refused_not_done no.ShortTray a b = refl
refused_not_done no.BadShape a b = refl

done_of : Outcome → Result ⊤ Refusal
done_of o = pick (eqb o.number 0) (Ok tt) (Err (refusal_of o.number o.rule))

done_back : (r : Result ⊤ Refusal) (c t : List ℕ) → done_of (said_done r c t) ≡ r
unfolding done_of
done_back (Ok u) c t = refl
done_back (Err x) c t = refused_not_done x _ _ ∙ ap Err (refusal_back x)

counted_of : Outcome → Result ℕ Refusal
counted_of o = pick (eqb o.number 0) (Ok o.count) (Err (refusal_of o.number o.rule))

counted_back : (r : Result ℕ Refusal) (c t : List ℕ) → counted_of (said_counted r c t) ≡ r
unfolding counted_of
counted_back (Ok n) c t = refl
counted_back (Err x) c t = refused_not_done x _ _ ∙ ap Err (refusal_back x)

sized_of : Outcome → Result ℕ Refusal
sized_of o = pick (eqb o.number 0) (Ok o.size) (Err (refusal_of o.number o.rule))

sized_back : (r : Result ℕ Refusal) (c t : List ℕ) → sized_of (said_sized r c t) ≡ r
unfolding sized_of
sized_back (Ok n) c t = refl
sized_back (Err x) c t = refused_not_done x _ _ ∙ ap Err (refusal_back x)

listed_of : Outcome → Result Listed Refusal
listed_of o = pick (eqb o.number 0) (Ok (record { length = o.length; size = o.size })) (Err (refusal_of o.number o.rule))

listed_back : (r : Result Listed Refusal) (c t : List ℕ) → listed_of (said_listed r c t) ≡ r
unfolding listed_of
listed_back (Ok entry) c t = refl
listed_back (Err x) c t = refused_not_done x _ _ ∙ ap Err (refusal_back x)

card-done : (r : Result ⊤ Refusal) (c t : List ℕ) → (said_done r c t).card ≡ c
card-done (Ok u) c t = refl
card-done (Err x) c t = refl

card-counted : (r : Result ℕ Refusal) (c t : List ℕ) → ((said_counted r c t).card ≡ c) × ((said_counted r c t).tray ≡ t)
card-counted (Ok n) c t = (refl, refl)
card-counted (Err x) c t = (refl, refl)

tray-listed : (r : Result Listed Refusal) (c t : List ℕ) → (said_listed r c t).tray ≡ t
tray-listed (Ok entry) c t = refl
tray-listed (Err x) c t = refl

only-done : (r r₂ : Result ⊤ Refusal) (c c₂ : List ℕ) (o : Outcome) → said_done r c [] ≡ o → said_done r₂ c₂ [] ≡ o → (r ≡ r₂) × (c ≡ c₂)
only-done r r₂ c c₂ o e f =
    let g = e ∙ sym f in
    (sym (done_back r c []) ∙ ap done_of g ∙ done_back r₂ c₂ [], sym (card-done r c []) ∙ ap (λ (o : Outcome). o.card) g ∙ card-done r₂ c₂ [])

-- ---- no second outcome

pub format-only : (c : List ℕ) (s : ℕ) (r r₂ : Result ⊤ Refusal) (c' c₂ : List ℕ) → Formats c s r c' → Formats c s r₂ c₂ → (r ≡ r₂) × (c' ≡ c₂)
unfolding Formats
format-only c s r r₂ c' c₂ e f = only-done r r₂ c' c₂ _ e f

pub check-only : (c : List ℕ) (r r₂ : Result ⊤ Refusal) → Checks c r → Checks c r₂ → r ≡ r₂
unfolding Checks
check-only c r r₂ e f = (only-done r r₂ c c _ e f).0

pub room-only : (c : List ℕ) (r r₂ : Result ℕ Refusal) → Rooms c r → Rooms c r₂ → r ≡ r₂
unfolding Rooms
room-only c r r₂ e f = sym (counted_back r c []) ∙ ap counted_of (e ∙ sym f) ∙ counted_back r₂ c []

pub create-only : (c name : List ℕ) (r r₂ : Result ⊤ Refusal) (c' c₂ : List ℕ) → Creates c name r c' → Creates c name r₂ c₂ → (r ≡ r₂) × (c' ≡ c₂)
unfolding Creates
create-only c name r r₂ c' c₂ e f = only-done r r₂ c' c₂ _ e f

pub write-only : (c name : List ℕ) (p : ℕ) (vs : List ℕ) (r r₂ : Result ℕ Refusal) (c' c₂ : List ℕ) → Writes c name p vs r c' → Writes c name p vs r₂ c₂ → (r ≡ r₂) × (c' ≡ c₂)
unfolding Writes
write-only c name p vs r r₂ c' c₂ e f =
    let g = e ∙ sym f in
    (sym (counted_back r c' []) ∙ ap counted_of g ∙ counted_back r₂ c₂ [], sym (card-counted r c' []).0 ∙ ap (λ (o : Outcome). o.card) g ∙ (card-counted r₂ c₂ []).0)

pub read_only : (c name : List ℕ) (p : ℕ) (t : List ℕ) (r r₂ : Result ℕ Refusal) (t' t₂ : List ℕ) → Reads c name p t r t' → Reads c name p t r₂ t₂ → (r ≡ r₂) × (t' ≡ t₂)
unfolding Reads
read_only c name p t r r₂ t' t₂ e f =
    let g = e ∙ sym f in
    (sym (counted_back r c t') ∙ ap counted_of g ∙ counted_back r₂ c t₂, sym (card-counted r c t').1 ∙ ap (λ (o : Outcome). o.tray) g ∙ (card-counted r₂ c t₂).1)

pub truncate-only : (c name : List ℕ) (n : ℕ) (r r₂ : Result ⊤ Refusal) (c' c₂ : List ℕ) → Truncates c name n r c' → Truncates c name n r₂ c₂ → (r ≡ r₂) × (c' ≡ c₂)
unfolding Truncates
truncate-only c name n r r₂ c' c₂ e f = only-done r r₂ c' c₂ _ e f

pub delete-only : (c name : List ℕ) (r r₂ : Result ⊤ Refusal) (c' c₂ : List ℕ) → Deletes c name r c' → Deletes c name r₂ c₂ → (r ≡ r₂) × (c' ≡ c₂)
unfolding Deletes
delete-only c name r r₂ c' c₂ e f = only-done r r₂ c' c₂ _ e f

pub size-only : (c name : List ℕ) (r r₂ : Result ℕ Refusal) → Sizes c name r → Sizes c name r₂ → r ≡ r₂
unfolding Sizes
size-only c name r r₂ e f = sym (sized_back r c []) ∙ ap sized_of (e ∙ sym f) ∙ sized_back r₂ c []

pub list-only : (c : List ℕ) (k : ℕ) (t : List ℕ) (r r₂ : Result Listed Refusal) (t' t₂ : List ℕ) → Lists c k t r t' → Lists c k t r₂ t₂ → (r ≡ r₂) × (t' ≡ t₂)
unfolding Lists
list-only c k t r r₂ t' t₂ e f =
    let g = e ∙ sym f in
    (sym (listed_back r c t') ∙ ap listed_of g ∙ listed_back r₂ c t₂, sym (tray-listed r c t') ∙ ap (λ (o : Outcome). o.tray) g ∙ tray-listed r₂ c t₂)

-- ---- a refusal leaves everything

refuses : (tests : List Test) (c t : List ℕ) (o : Outcome) → o.number ≡ 0 → (unless tests c t o).number ≢ 0 → Untouched c t (unless tests c t o)
refuses tests c t o e = go (first_no tests)
  where
    rule : (n : ℕ) → n ≢ 1 → pick (eqb n 1) (broken c) 0 ≡ 0
    rule n h = elim (ℕ_discrete n 1) [
      | yes z ↦ absurd (h z)
      | no z ↦ rw (ne_eqb n 1 z)
    ]

    go : (n : ℕ) → (let u = pick (eqb n 0) o (refused n (pick (eqb n 1) (broken c) 0) c t) in u.number ≢ 0 → Untouched c t u)
    go n = elim (ℕ_discrete n 0) [
      | yes z ↦ rw (eq-eqb n 0 z) (λ h. absurd (h e))
      | no z ↦ rw (ne_eqb n 0 z) (λ h. record { card = refl; tray = refl; count = refl; size = refl; length = refl; rule = rule n })
    ]

pub format-refuses : (c : List ℕ) (s : ℕ) → (format c s).number ≢ 0 → Untouched c [] (format c s)
unfolding format
format-refuses c s = go (good_shape (length c) s)
  where
    go : (b : Bool) → (let u = pick b (done (formatted (length c) s) []) (refused 9 0 c []) in u.number ≢ 0 → Untouched c [] u)
    go true h = absurd (h refl)
    go false h = record { card = refl; tray = refl; count = refl; size = refl; length = refl; rule = λ n. refl }

pub check-refuses : (c : List ℕ) → (check c).number ≢ 0 → Untouched c [] (check c)
unfolding check
check-refuses c = refuses _ c [] _ refl

pub room-refuses : (c : List ℕ) → (room c).number ≢ 0 → Untouched c [] (room c)
unfolding room
room-refuses c = refuses _ c [] _ refl

pub create-refuses : (c name : List ℕ) → (create c name).number ≢ 0 → Untouched c [] (create c name)
unfolding create
create-refuses c name = refuses _ c [] _ refl

pub write-refuses : (c name : List ℕ) (p : ℕ) (vs : List ℕ) → (write c name p vs).number ≢ 0 → Untouched c [] (write c name p vs)
unfolding write
write-refuses c name p vs = refuses _ c [] _ refl

pub read-refuses : (c name : List ℕ) (p : ℕ) (t : List ℕ) → (read c name p t).number ≢ 0 → Untouched c t (read c name p t)
unfolding read
read-refuses c name p t = refuses _ c t _ refl

pub truncate-refuses : (c name : List ℕ) (n : ℕ) → (truncate c name n).number ≢ 0 → Untouched c [] (truncate c name n)
unfolding truncate
truncate-refuses c name n = refuses _ c [] _ refl

pub delete-refuses : (c name : List ℕ) → (delete c name).number ≢ 0 → Untouched c [] (delete c name)
unfolding delete
delete-refuses c name = refuses _ c [] _ refl

pub size-refuses : (c name : List ℕ) → (size c name).number ≢ 0 → Untouched c [] (size c name)
unfolding size
size-refuses c name = refuses _ c [] _ refl

pub list-refuses : (c : List ℕ) (k : ℕ) (t : List ℕ) → (list c k t).number ≢ 0 → Untouched c t (list c k t)
unfolding list
list-refuses c k t = refuses _ c t _ refl
