-- Names: a loop over their bytes, and an entry's bytes compared with one.
use mathlib.Core.Path.{◌≡◌, refl, sym, ap, ◌∙◌}
use mathlib.Core.Logic.{◌≢◌}
use mathlib.Core.Bool.{Bool, true, false, not}
use mathlib.Core.List.{List, [], ◌∷◌}
use Prim.Native.Nat.{ℕ, suc, ◌+◌, ◌-◌, min, ◌≤◌, ◌<◌}
use native.Mathlib.Omega.{arith}
use lib.ListN.{length, get_or, drop, length-take, length-drop}
use lib.Seq.{get_or-take, get_or-drop}
use lib.Dec.{eqb, leb}
use Rattle.layout.specs.Limits.{slash, longest_name}
use Rattle.layout.specs.Bytes.{holds, same, matches, both}
use Rattle.layout.specs.Filing.{name_length, entry_at, good_name}
use Rattle.laws.proofs.Picks.{leb_yes, leb_no, eqb_yes, eqb_no}
use Rattle.std.specs.List.{list_any}
use Rattle.std.proofs.lemmas.Bool.{eqb-true, eqb-false}
use native.Mathlib.Decide.{ℕ_discrete}

-- ---- a good name

slash_any : (name : List ℕ) → list_any (λ y. eqb y slash) name ≡ holds slash name
unfolding holds
slash_any [] = refl
slash_any (x ∷ xs) = elim (ℕ_discrete x slash) [
  | yes h ↦ rw (eqb_yes h, eqb_yes (sym h)) refl
  | no h ↦ rw (eqb_no h, eqb_no (λ u. h (sym u)), slash_any xs)
]

pub name-short : (name : List ℕ) → eqb (length name) 0 ≡ true → false ≡ good_name name
unfolding good_name
name-short name h = rw (leb_no {a = 1} {b = length name} (omega (arith, eqb-true (length name) 0 h)))

module _ (name : List ℕ) (n : ℕ) (e : n ≡ longest_name) where
  module _ (some : eqb (length name) 0 ≡ false) where
    filled : 1 ≤ length name
    filled = let z : length name ≢ 0 = eqb-false (length name) 0 some in omega arith

    pub name-long : leb (length name) n ≡ false → false ≡ good_name name
    unfolding good_name
    name-long h = rw (leb_yes {a = 1} {b = length name} filled, ← e, h)

    pub name-rest : (r : Bool) → leb (length name) n ≡ true → r ≡ list_any (λ y. eqb y slash) name → not r ≡ good_name name
    unfolding good_name
    name-rest r h f = rw (leb_yes {a = 1} {b = length name} filled, ← e, h, f, slash_any name)

-- ---- compared

pub same_length : (xs ys : List ℕ) → length xs ≢ length ys → false ≡ same xs ys
unfolding same
same_length [] [] h = absurd (h refl)
same_length [] (y ∷ ys) h = refl
same_length (x ∷ xs) [] h = refl
same_length (x ∷ xs) (y ∷ ys) h = go (eqb x y) (same_length xs ys (λ e. h (ap suc e)))
  where
    go : (b : Bool) → false ≡ same xs ys → false ≡ both b (same xs ys)
    go true e = e
    go false e = refl

pub matches-same : (l xs ys : List ℕ) (at : ℕ) → length xs ≡ length ys → ((k : ℕ) → k < length xs → get_or l (at + k) 0 ≡ get_or xs k 0) → matches l at ys ≡ same xs ys
unfolding matches same
matches-same l [] [] at e h = refl
matches-same l [] (y ∷ ys) at e h = absurd (omega arith)
matches-same l (x ∷ xs) [] at e h = absurd (omega arith)
matches-same l (x ∷ xs) (y ∷ ys) at e h =
    let a : get_or l at 0 ≡ x = let z : at + 0 ≡ at = omega arith in rw z at (h 0 (omega arith)) in
    let b : matches l (at + 1) ys ≡ same xs ys = matches-same l xs ys (at + 1) (omega arith) (λ k u. let z : at + 1 + k ≡ at + suc k = omega arith in rw z (h (suc k) (omega arith))) in
    rw (a, b)

module _ (l name : List ℕ) (n m k : ℕ) (e : n ≡ name_length l 0) (f : m ≡ min n k) (g : k ≡ length l - 6) where
  abbrev part : List ℕ
  part = (entry_at l 0).name

  long : length part ≡ m
  long = rw (length-take, length-drop) (omega arith)

  pub name_other : m ≢ length name → eqb m (length name) ≡ same part name
  name_other h = rw (eqb_no h) (same_length part name (λ u. h (sym long ∙ u)))

  pub name_compared : (r : Bool) → m ≡ length name → r ≡ matches l 6 name → r ≡ same part name
  name_compared r h u =
      u ∙ matches-same l part name 6 (long ∙ h)
      (λ i a. sym (get_or-take (name_length l 0) (drop 6 l) i 0 (omega (arith, long)) ∙ get_or-drop 6 l i 0))
