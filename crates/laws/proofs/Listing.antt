-- A directory's bytes as a list of keys, index and name: read, lengthened, cut; how long it is, and where its entries are.
use mathlib.Core.Path.{◌≡◌, refl, sym, ap, ◌∙◌}
use mathlib.Core.List.{List, [], ◌∷◌, ◌++◌, map}
use Prim.Native.Nat.{ℕ, zero, suc, ◌+◌, ◌^◌, ◌≤◌, ◌<◌}
use native.Mathlib.Nat.{zero-add}
use native.Mathlib.Decide.{dec_le}
use native.Mathlib.Omega.{arith}
use lib.ListN.{length, get_or, take, drop, length-take, length-drop, length-append, drop_of_length-le, take-append-drop, get_or-append}
use lib.Seq.{get_or-drop, drop-drop, take-append-le, drop-append-le, drop_at, get_or-append-add, get_or-take, take-add, take-length}
use lib.Dec.{T, leb, leb→le}
use Rattle.layout.specs.Bytes.{both, num, bytes}
use Rattle.layout.specs.Filing.{Entry, entries, entries_from, reads, reads_from, name_length, entry_bytes, nothing}
use Rattle.laws.proofs.Picks.{leb_yes, leb_no, eqb_yes}
use Rattle.laws.proofs.ByteLaws.{num_agree, num-at, length-bytes}
use Rattle.laws.proofs.Lists.{both_left, both_right}
use Rattle.laws.proofs.Joins.{total, total_map}
use Rattle.laws.proofs.Removal.{map-take}

-- an entry, wherever it starts
pub record Key : Type 0 where
  pub index : ℕ
  pub name : List ℕ

abbrev pub key : Entry → Key
key e = record { index = e.index; name = e.name }

abbrev pub keys : List ℕ → List Key
keys r = map key (entries r)

-- the bytes that it takes
abbrev pub span : Key → ℕ
span k = 6 + length k.name

-- r is the entries ks, one after the other
abbrev pub Listed : List ℕ → List Key → Type 0
Listed r [] = r ≡ []
Listed r (k ∷ ks) =
    (num 4 r 0 ≡ k.index) × (num 2 r 4 ≡ length k.name) × (take (length k.name) (drop 6 r) ≡ k.name) × (span k ≤ length r) × (Listed (drop (span k) r) ks)

num-drop : (n : ℕ) (r : List ℕ) (at p q : ℕ) → q ≡ at + p → num n (drop at r) p ≡ num n r q
unfolding num
num-drop zero r at p q e = refl
num-drop (suc n) r at p q e = rw (get_or-drop at r p 0, ← e, num-drop n r at (p + 1) (q + 1) (omega arith))

-- ---- one entry read

-- what the reading of one entry says: it fits, its name is as long as it says, and the rest reads
record Step (g : ℕ) (r : List ℕ) (at : ℕ) : Type 0 where
  fits : at + 6 + name_length r at ≤ length r
  long : length (take (name_length r at) (drop (at + 6) r)) ≡ name_length r at
  rest : T (reads_from g r (at + 6 + name_length r at))

step : (g : ℕ) (r : List ℕ) (at : ℕ) → at < length r → T (reads_from (suc g) r at) → Step g r at
unfolding reads_from
step g r at l h =
    let to = at + 6 + name_length r at in
    let h' : T (both (leb to (length r)) (reads_from g r to)) = rw (leb_no l) at h in
    let fits : to ≤ length r = leb→le to (length r) (both_left (leb to (length r)) (reads_from g r to) h') in
    record { fits = fits; long = rw (length-take, length-drop) (omega arith); rest = both_right (leb to (length r)) (reads_from g r to) h' }

-- ---- read

pub reads-listed : (g : ℕ) (r : List ℕ) (at : ℕ) → T (reads_from g r at) → Listed (drop at r) (map key (entries_from g r at))
unfolding entries_from
reads-listed zero r at h = drop_of_length-le r (leb→le (length r) at (unfold reads_from in h))
reads-listed (suc g) r at h = elim (dec_le (length r) at) [
  | yes a ↦ rw (leb_yes a) (drop_of_length-le r a)
  | no a ↦ (let s = step g r at (omega arith) h in
      let n = length (take (name_length r at) (drop (at + 6) r)) in
      let to : at + (6 + n) ≡ at + 6 + name_length r at = omega (arith, s.long) in
      rw (leb_no {a = length r} {b = at} (omega arith)) (
        num-drop 4 r at 0 at (omega arith),
        num-drop 2 r at 4 (at + 4) refl ∙ sym s.long,
        rw (s.long, drop-drop 6 at r),
        rw (length-drop at r) (omega (arith, s.fits, s.long)),
        rw (drop-drop (6 + n) at r, to) (reads-listed g r (at + 6 + name_length r at) s.rest),
      ))
]

-- ---- and written

pub listed-reads : (g : ℕ) (r : List ℕ) (at : ℕ) (ks : List Key) → length r ≤ at + g → at ≤ length r → Listed (drop at r) ks
    → T (reads_from g r at) × (map key (entries_from g r at) ≡ ks)
unfolding reads_from entries_from
listed-reads zero r at [] f l h = (rw (leb_yes {a = length r} {b = at} (omega arith)) tt, refl)
listed-reads (suc g) r at [] f l h =
    let z : length r ≡ at = omega (arith, sym (length-drop at r) ∙ ap length h) in
    rw (leb_yes {a = length r} {b = at} (omega arith), eqb_yes z) (tt, refl)
listed-reads zero r at (k ∷ ks) f l h = absurd (omega (arith, h.3, length-drop at r))
listed-reads (suc g) r at (k ∷ ks) f l h =
    let len = length k.name in
    let d = length-drop at r in
    let fits : at + 6 + len ≤ length r = omega (arith, h.3) in
    let e₁ = leb_no {a = length r} {b = at} (omega arith) in
    let e₂ : num 2 r (at + 4) ≡ len = sym (num-drop 2 r at 4 (at + 4) refl) ∙ h.1 in
    let e₃ : num 4 r at ≡ k.index = sym (num-drop 4 r at 0 at (omega arith)) ∙ h.0 in
    let e₄ : take len (drop (at + 6) r) ≡ k.name = rw (← drop-drop 6 at r) h.2 in
    let to : at + (6 + len) ≡ at + 6 + len = omega arith in
    let more : Listed (drop (at + 6 + len) r) ks = rw (drop-drop (6 + len) at r, to) at h.4 in
    let rest = listed-reads g r (at + 6 + len) ks (omega arith) fits more in
    rw (e₁, e₂, e₃, e₄, leb_yes fits) (rest.0, ap {B = List Key} (λ l. k ∷ l) rest.1)

-- ---- one after the other

module _ (x : List ℕ) where
  num_front : (n : ℕ) (r : List ℕ) (p : ℕ) → p + n ≤ length r → num n (r ++ x) p ≡ num n r p
  num_front n r p h = num_agree n (r ++ x) r p (λ i a b. get_or-append r x 0 i (omega arith))

  pub listed-append : (r : List ℕ) (ks ls : List Key) → Listed r ks → Listed x ls → Listed (r ++ x) (ks ++ ls)
  listed-append r [] ls a b = rw a b
  listed-append r (k ∷ ks) ls a b = (
    num_front 4 r 0 (omega (arith, a.3)) ∙ a.0,
    num_front 2 r 4 (omega (arith, a.3)) ∙ a.1,
    rw (drop-append-le 6 r x (omega (arith, a.3)), take-append-le (length k.name) (drop 6 r) x (rw length-drop (omega (arith, a.3)))) a.2,
    rw length-append (omega (arith, a.3)),
    rw (drop-append-le (span k) r x a.3) (listed-append (drop (span k) r) ks ls a.4 b),
  )

-- ---- cut

drop-take : (a b : ℕ) (r : List ℕ) → a ≤ length r → drop a (take (a + b) r) ≡ take b (drop a r)
drop-take a b r h = rw (take-add a b r) (drop_at (take a r) (take b (drop a r)) a (rw length-take (omega arith)))

-- where the first keys end, the bytes of the others begin
pub listed-cut : (r : List ℕ) (ks ls : List Key) (m : ℕ) → m ≡ total span ks → Listed r (ks ++ ls) → (Listed (take m r) ks) × (Listed (drop m r) ls) × (m ≤ length r)
unfolding total
listed-cut r [] ls m e h = rw e (refl, h, omega arith)
listed-cut r (k ∷ ks) ls m e h =
    let len = length k.name in
    let m' = total span ks in
    let q = listed-cut (drop (span k) r) ks ls m' refl h.4 in
    let ld = length-drop (span k) r in
    let long : m ≤ length r = omega (arith, q.2, h.3) in
    let lt : length (take m r) ≡ m = rw length-take (omega arith) in
    let num₄ : num 4 (take m r) 0 ≡ num 4 r 0 = num_agree 4 (take m r) r 0 (λ i a b. get_or-take m r i 0 (omega arith)) in
    let num₂ : num 2 (take m r) 4 ≡ num 2 r 4 = num_agree 2 (take m r) r 4 (λ i a b. get_or-take m r i 0 (omega arith)) in
    let front : take len (drop 6 (take m r)) ≡ take len (drop 6 r) =
    sym (take-append-le len (drop 6 (take m r)) (drop m r) (rw (length-drop, lt) (omega arith)))
    ∙ ap (take len) (sym (drop-append-le 6 (take m r) (drop m r) (omega arith)))
    ∙ rw (take-append-drop m r) in
    let e' : m ≡ span k + m' = e in
    let rest : drop (span k) (take m r) ≡ take m' (drop (span k) r) = rw e' (drop-take (span k) m' r h.3) in
    let back : drop m' (drop (span k) r) ≡ drop m r = drop-drop m' (span k) r ∙ ap (λ (x : ℕ). drop x r) (sym e') in
    ((num₄ ∙ h.0, num₂ ∙ h.1, front ∙ h.2, omega arith, rw rest q.0), rw back at q.1, long)

-- ---- one entry written

pub length-entry : (k : ℕ) (name : List ℕ) → length (entry_bytes k name) ≡ 6 + length name
unfolding entry_bytes
length-entry k name = simp (length-append, length-bytes) refl

pub listed-one : (k : ℕ) (name : List ℕ) → k < 256 ^ 4 → length name < 256 ^ 2 → Listed (entry_bytes k name) (record { index = k; name = name } ∷ [])
unfolding entry_bytes
listed-one k name small short =
    let fore = bytes 4 k ++ bytes 2 (length name) in
    let h : length fore ≡ 6 = simp (length-append, length-bytes) refl in
    let l : length (fore ++ name) ≡ 6 + length name = rw (length-append, h) in (
      num-at 4 _ 0 k small (λ i b. rw (zero-add i)
          (get_or-append fore name 0 i (omega arith) ∙ get_or-append (bytes 4 k) (bytes 2 (length name)) 0 i (rw length-bytes b))),
      num-at 2 _ 4 (length name) short (λ i b. get_or-append fore name 0 (4 + i) (omega arith)
          ∙ (rw (length-bytes 4 k) at (get_or-append-add (bytes 4 k) (bytes 2 (length name)) i 0))),
      rw (drop_at fore name 6 h) (take-length name),
      omega arith,
      drop_of_length-le (fore ++ name) {i = 6 + length name} (omega arith),
    )

-- ---- a whole directory

pub entries-listed : (r : List ℕ) → T (reads r) → Listed r (keys r)
unfolding reads entries
entries-listed r h = reads-listed (length r) r 0 h

pub listed-entries : (r : List ℕ) (ks : List Key) → Listed r ks → T (reads r) × (keys r ≡ ks)
unfolding reads entries
listed-entries r ks h = listed-reads (length r) r 0 ks (omega arith) (omega arith) h

pub listed-length : (r : List ℕ) (ks : List Key) → Listed r ks → length r ≡ total span ks
unfolding total
listed-length r [] h = ap length h
listed-length r (k ∷ ks) h = omega (arith, listed-length (drop (span k) r) ks h.4, length-drop (span k) r, h.3)

-- its length is its entries'
pub reads-length : (r : List ℕ) → T (reads r) → length r ≡ total (λ e. span (key e)) (entries r)
reads-length r h = listed-length r (keys r) (entries-listed r h) ∙ total_map span key (entries r)

-- ---- where entry i is: after those before it

entry_from : (g : ℕ) (r : List ℕ) (at i : ℕ) → T (reads_from g r at) → i < length (entries_from g r at)
    → (get_or (entries_from g r at) i nothing).at ≡ at + total (λ e. span (key e)) (take i (entries_from g r at))
unfolding entries_from total
entry_from zero r at i h l = absurd (omega arith)
entry_from (suc g) r at zero h l = elim (dec_le (length r) at) [
  | yes a ↦ (let l' = rw (leb_yes a) at l in absurd (omega arith))
  | no a ↦ rw (leb_no {a = length r} {b = at} (omega arith)) (omega arith)
]
entry_from (suc g) r at (suc i) h l = elim (dec_le (length r) at) [
  | yes a ↦ (let l' = rw (leb_yes a) at l in absurd (omega arith))
  | no a ↦ (let e = leb_no {a = length r} {b = at} (omega arith) in
      let l' = rw e at l in
      let s = step g r at (omega arith) h in
      rw (e, s.long) (omega (arith, entry_from g r (at + 6 + name_length r at) i s.rest (omega arith))))
]

pub entry_at_lem : (r : List ℕ) (i : ℕ) → T (reads r) → i < length (entries r) → (get_or (entries r) i nothing).at ≡ total span (take i (keys r))
unfolding reads entries
entry_at_lem r i h l = entry_from (length r) r 0 i h l ∙ rw (← map-take, total_map) (omega arith)
