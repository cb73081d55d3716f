-- Buckets of names: who is met there, and that names which differ from all earlier ones differ.
use mathlib.Core.Path.{◌≡◌, refl, sym, ap, ◌∙◌}
use mathlib.Core.Logic.{◌≢◌}
use mathlib.Core.Bool.{Bool, true, false}
use mathlib.Core.List.{List, [], ◌∷◌}
use Prim.Native.Nat.{ℕ, zero, suc, ◌+◌, ◌-◌, ◌*◌, ◌%◌, ◌≤◌, ◌<◌}
use native.Mathlib.Numerals.{add-one}
use native.Mathlib.Decide.{ℕ_discrete}
use native.Mathlib.Omega.{arith}
use lib.ListN.{length, get_or, drop, drop_of_length-le}
use lib.Seq.{drop-cons}
use lib.Dec.{leb, eqb, T}
use borrow.Author.Tests.{eq-eqb, ne_eqb}
use Rattle.layout.specs.Bytes.{pick, same}
use Rattle.layout.specs.Filing.{Entry, name_length, entry_at, entries_from, entries, nothing}
use Rattle.laws.proofs.Tests.{is_same}
use Rattle.naming.specs.Buckets.{hash_from, bucket_of, name_at, among, last_in, up_to, unlinked, Linked}
use Rattle.naming.specs.declared.apart.Link.{Link}

-- ---- the bucket of a name, byte by byte

pub hash_turn : (name : List ℕ) (h i b : ℕ) → i < length name → b ≡ get_or name i 0 → hash_from ((h * 31 + b) % 65536) (drop (i + 1) name) ≡ hash_from h (drop i name)
unfolding hash_from
hash_turn name h i b l e = rw (add-one i, drop-cons name i 0 l, e)

pub hash_done : (name : List ℕ) (h i : ℕ) → length name ≤ i → hash_from h (drop i name) ≡ hash_from 0 name → h % 1024 ≡ bucket_of name
unfolding hash_from bucket_of
hash_done name h i l e = let a : h ≡ hash_from 0 name = rw (drop_of_length-le name {i = i} l) at e in rw a

-- ---- who is met

module _ (es : List Entry) where
  pub last_le : (h i : ℕ) → last_in es h i ≤ i
  unfolding last_in
  last_le h zero = omega arith
  last_le h (suc i) = go (eqb (bucket_of (name_at es i)) h) (last_le h i)
    where
      go : (b : Bool) → last_in es h i ≤ i → pick b (suc i) (last_in es h i) ≤ suc i
      go true l = omega arith
      go false l = omega arith

  pub last_own : (h i : ℕ) → last_in es h i ≢ 0 → bucket_of (name_at es (last_in es h i - 1)) ≡ h
  unfolding last_in
  last_own h zero z = absurd (z refl)
  last_own h (suc i) z = elim (ℕ_discrete (bucket_of (name_at es i)) h) [
    | yes e ↦ rw (eq-eqb (bucket_of (name_at es i)) h e) (let a : suc i - 1 ≡ i = omega arith in rw a e)
    | no n ↦ (let b = ne_eqb (bucket_of (name_at es i)) h n in rw b (last_own h i (rw b at z)))
  ]

  -- those after the bucket's last one have other names
  pub among-last : (name : List ℕ) (h i : ℕ) → bucket_of name ≡ h → among es (last_in es h i) name ≡ among es i name
  unfolding among last_in
  among-last name h zero e = refl
  among-last name h (suc i) e = elim (ℕ_discrete (bucket_of (name_at es i)) h) [
    | yes g ↦ rw (eq-eqb (bucket_of (name_at es i)) h g)
    | no n ↦ rw (ne_eqb (bucket_of (name_at es i)) h n, among-last name h i e, other (name_at es i) name (λ g. n (ap bucket_of g ∙ e)))
  ]
    where
      other : (a b : List ℕ) → (a ≡ b → ⊥) → same a b ≡ false
      other a b n = no (same a b) (λ t. n ((is_same a b).out t))
        where
          no : (x : Bool) → (T x → ⊥) → x ≡ false
          no true f = absurd (f tt)
          no false f = refl

  -- the entry before place `left`, and those before it in its bucket
  module _ (name : List ℕ) (links : List Link) (x left j : ℕ) (r : Bool) (more : left ≡ suc j) (low : left ≤ x) (linked : Linked es x links) (own : left ≢ 0 → bucket_of (name_at es (left - 1)) ≡ bucket_of name)
      (inv : among es left name ≡ among es x name) (e : r ≡ same (name_at es j) name) where
    step : among es left name ≡ pick (same (name_at es j) name) true (among es j name)
    unfolding among
    step = rw more

    pub met_here : r ≡ true → true ≡ among es x name
    met_here t = rw (step, ← e, t) at inv

    module _ (next : ℕ) (f : next ≡ up_to (get_or links j unlinked).before) where
      next_is : next ≡ last_in es (bucket_of name) j
      next_is =
          let z : left - 1 ≡ j = omega arith in
          let o = own (λ z. omega arith) in
          f ∙ (linked j (omega arith)).1 ∙ ap (λ (h : ℕ). last_in es h j) (rw z at o)

      pub met_less : next < left
      met_less = omega (arith, next_is, last_le (bucket_of name) j)

      pub met_own : next ≢ 0 → bucket_of (name_at es (next - 1)) ≡ bucket_of name
      met_own = rw next_is (last_own (bucket_of name) j)

      pub met_next : r ≡ false → among es next name ≡ among es x name
      met_next t =
          let a : among es j name ≡ among es x name = rw (step, ← e, t) at inv in
          rw (next_is, among-last name (bucket_of name) j refl) a

  pub met_none : (name : List ℕ) (x left : ℕ) → left ≤ 0 → among es left name ≡ among es x name → false ≡ among es x name
  unfolding among
  met_none name x zero h inv = inv
  met_none name x (suc left) h inv = absurd (omega arith)

-- ---- an entry is the one at its place

module _ (r : List ℕ) where
  own_place : (g at j : ℕ) → j < length (entries_from g r at) → get_or (entries_from g r at) j nothing ≡ entry_at r (get_or (entries_from g r at) j nothing).at
  unfolding entries_from
  own_place zero at j h = absurd (omega arith)
  own_place (suc g) at j h = go (leb (length r) at) j h (own_place g (at + 6 + name_length r at))
    where
      go : (b : Bool) (j : ℕ) → (let l = pick b [] (entry_at r at ∷ entries_from g r (at + 6 + name_length r at)) in
          j < length l → ((i : ℕ) → i < length (entries_from g r (at + 6 + name_length r at)) → get_or (entries_from g r (at + 6 + name_length r at)) i nothing ≡ entry_at r (get_or (entries_from g r (at + 6 + name_length r at)) i nothing).at)
          → get_or l j nothing ≡ entry_at r (get_or l j nothing).at)
      go true j h f = absurd (omega arith)
      go false zero h f = refl
      go false (suc j) h f = f j (omega arith)

  -- its name, as it is read there
  own_name : (links : List Link) (x j at : ℕ) → j < x → x ≤ length (entries r) → Linked (entries r) x links → at ≡ (get_or links j unlinked).at → (entry_at r at).name ≡ name_at (entries r) j
  unfolding entries
  own_name links x j at h l linked e =
      let a : at ≡ (get_or (entries r) j nothing).at = e ∙ (linked j h).0 in
      let b = own_place (length r) 0 j (omega arith) in
      rw a (ap (λ (x : Entry). x.name) (sym b))

  pub met-same : (links : List Link) (name : List ℕ) (x j at : ℕ) (q : Bool) → j < x → x ≤ length (entries r) → Linked (entries r) x links → at ≡ (get_or links j unlinked).at
      → q ≡ same (entry_at r at).name name → q ≡ same (name_at (entries r) j) name
  met-same links name x j at q low l linked e g = g ∙ ap (λ (v : List ℕ). same v name) (own_name links x j at low l linked e)
