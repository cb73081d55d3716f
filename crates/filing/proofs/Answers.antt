-- What the searches find, in the words of the definitions: the entry that `look_in` names, and the one with a number.
use mathlib.Core.Path.{◌≡◌, refl, ◌∙◌}
use mathlib.Core.Bool.{Bool, true, false}
use mathlib.Core.List.{List, [], ◌∷◌}
use Rattle.std.specs.Prelude.{Option, Some, None, Result, Ok, Err}
use Prim.Native.Nat.{ℕ, zero, suc, ◌+◌, ◌≤◌, ◌<◌}
use native.Mathlib.Decide.{dec_le}
use native.Mathlib.Omega.{arith}
use lib.ListN.{length, get_or, take, drop, length-take}
use lib.Seq.{take_all}
use lib.Dec.{ltb, leb-suc-suc, leb-suc-zero}
use borrow.Author.Tests.{ltb-true, ltb-false}
use Rattle.layout.specs.Bytes.{pick, same}
use Rattle.layout.specs.Filing.{Entry, name_length, entry_at, entries_from, entries, look_in, nothing}
use Rattle.laws.proofs.Picks.{leb_yes, leb_no}
use Rattle.filing.specs.Located.{located, numbered}
use Rattle.filing.specs.declared.entries.Found.{Found}
use Rattle.filing.specs.declared.listing.Row.{Row}

-- entry number i, as the search for a name tells it when n entries stand before, and as the search for a number does
abbrev pub found_entry : List Entry → ℕ → ℕ → Found
found_entry es i n = record { number = n + i; index = (get_or es i nothing).index; at = (get_or es i nothing).at }

abbrev pub row_entry : List Entry → ℕ → Row
row_entry es i = record { index = (get_or es i nothing).index; at = (get_or es i nothing).at; length = length (get_or es i nothing).name }

abbrev pub found_at : List Entry → ℕ → ℕ → Result Found ℕ
found_at es i n = pick (ltb i (length es)) (Ok (found_entry es i n)) (Err (n + length es))

abbrev pub row_at : List Entry → ℕ → Option Row
row_at es i = pick (ltb i (length es)) (Some (row_entry es i)) None

found_later : (e : Entry) (es : List Entry) (i n : ℕ) → found_at es i (n + 1) ≡ found_at (e ∷ es) (suc i) n
found_later e es i n =
    let a : n + 1 + i ≡ n + suc i = omega arith in
    let b : n + 1 + length es ≡ n + suc (length es) = omega arith in
    rw (a, b, leb-suc-suc (suc i) (length es))

-- the search for a name ends where `look_in` does
pub located_is : (es : List Entry) (name : List ℕ) (n : ℕ) → located es name n ≡ found_at es (look_in es name) n
unfolding located look_in
located_is [] name n = let a : n + 0 ≡ n = omega arith in rw a
located_is (e ∷ es) name n = go (same e.name name) (located_is es name (n + 1))
  where
    go : (t : Bool) → located es name (n + 1) ≡ found_at es (look_in es name) (n + 1)
        → pick t (Ok (record { number = n; index = e.index; at = e.at })) (located es name (n + 1)) ≡ found_at (e ∷ es) (pick t 0 (suc (look_in es name))) n
    go true h =
        let a : n + 0 ≡ n = omega arith in
        rw (leb_yes {a = 1} {b = suc (length es)} (omega arith), a)
    go false h = h ∙ found_later e es (look_in es name) n

-- the entry with a number, or that there are not so many
pub numbered_is : (es : List Entry) (n : ℕ) → numbered es n ≡ row_at es n
unfolding numbered
numbered_is [] n = rw (leb-suc-zero n)
numbered_is (e ∷ es) zero = rw (leb_yes {a = 1} {b = suc (length es)} (omega arith))
numbered_is (e ∷ es) (suc n) = numbered_is es n ∙ rw (leb-suc-suc (suc n) (length es))

-- ---- what an answer says

module _ {A : Type 0} (b : Bool) (x : A) where
  chosen : (y : A) → Some y ≡ pick b (Some x) None → (b ≡ true) × (y ≡ x)
  chosen y e = go b e
    where
      go : (t : Bool) → Some y ≡ pick t (Some x) None → (t ≡ true) × (y ≡ x)
      go true u = (refl, cc)
      go false u = absurd (cc)

  unchosen : None ≡ pick b (Some x) None → b ≡ false
  unchosen e = go b e
    where
      go : (t : Bool) → None ≡ pick t (Some x) None → t ≡ false
      go true u = absurd (cc)
      go false u = refl

module _ {A : Type 0} (b : Bool) (x : A) (m : ℕ) where
  met : (y : A) → Ok y ≡ pick b (Ok x) (Err m) → (b ≡ true) × (y ≡ x)
  met y e = go b e
    where
      go : (t : Bool) → Ok y ≡ pick t (Ok x) (Err m) → (t ≡ true) × (y ≡ x)
      go true u = (refl, cc)
      go false u = absurd (cc)

  unmet : (k : ℕ) → Err k ≡ pick b (Ok x) (Err m) → b ≡ false
  unmet k e = go b e
    where
      go : (t : Bool) → Err k ≡ pick t (Ok x) (Err m) → t ≡ false
      go true u = absurd (cc)
      go false u = refl

module _ (es : List Entry) (name : List ℕ) (n : ℕ) where
  -- a name that is found is known, and stands where `look_in` says
  pub found_known : {f : Found} → Ok f ≡ located es name n → (look_in es name < length es) × (f ≡ found_entry es (look_in es name) n)
  found_known {f = f} e =
      let w = met (ltb (look_in es name) (length es)) (found_entry es (look_in es name) n) (n + length es) f (e ∙ located_is es name n) in
      (ltb-true (look_in es name) (length es) w.0, w.1)

  pub not_found : {k : ℕ} → Err k ≡ located es name n → length es ≤ look_in es name
  not_found {k = k} e = ltb-false (look_in es name) (length es) (unmet (ltb (look_in es name) (length es)) (found_entry es (look_in es name) n) (n + length es) k (e ∙ located_is es name n))

module _ (es : List Entry) (n : ℕ) where
  -- an entry by its number is there, or there are not so many
  pub row_there : {r : Row} → Some r ≡ numbered es n → (n < length es) × (r ≡ row_entry es n)
  row_there {r = r} e =
      let w = chosen (ltb n (length es)) (row_entry es n) r (e ∙ numbered_is es n) in
      (ltb-true n (length es) w.0, w.1)

  pub no_row : None ≡ numbered es n → length es ≤ n
  no_row e = ltb-false n (length es) (unchosen (ltb n (length es)) (row_entry es n) (e ∙ numbered_is es n))

-- ---- an entry's name is where the entry says

whole_part : (m : ℕ) (l : List ℕ) → take (length (take m l)) l ≡ take m l
whole_part m l = elim (dec_le m (length l)) [
  | yes h ↦ (let e : length (take m l) ≡ m = rw length-take (omega arith) in rw e)
  | no h ↦ (let e : length (take m l) ≡ length l = rw length-take (omega arith) in rw (e, take_all m l (omega arith), take_all (length l) l (omega arith)))
]

-- what is to be shown of entry number i of es
abbrev pub Named : List ℕ → List Entry → ℕ → Type 0
Named r es i = take (length (get_or es i nothing).name) (drop ((get_or es i nothing).at + 6) r) ≡ (get_or es i nothing).name

name_from : (r : List ℕ) (g at i : ℕ) → i < length (entries_from g r at) → Named r (entries_from g r at) i
unfolding entries_from
name_from r zero at i h = absurd (omega arith)
name_from r (suc g) at i h = elim (dec_le (length r) at) [
  | yes l ↦ absurd (omega (arith, rw (leb_yes l) at h))
  | no l ↦ rw (leb_no {a = length r} {b = at} (omega arith)) (go (name_from r g (at + 6 + name_length r at)) i (rw (leb_no {a = length r} {b = at} (omega arith)) at h))
]
  where
    go : ((i : ℕ) → i < length (entries_from g r (at + 6 + name_length r at)) → Named r (entries_from g r (at + 6 + name_length r at)) i)
        → (i : ℕ) → i < suc (length (entries_from g r (at + 6 + name_length r at))) → Named r (entry_at r at ∷ entries_from g r (at + 6 + name_length r at)) i
    go more zero u = whole_part (name_length r at) (drop (at + 6) r)
    go more (suc i) u = more i (omega arith)

pub name_part : (r : List ℕ) (i : ℕ) → i < length (entries r) → Named r (entries r) i
unfolding entries
name_part r i h = name_from r (length r) 0 i h
