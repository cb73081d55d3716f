-- Entries: a head on a page, and the search going from one to the next.
use mathlib.Core.Path.{◌≡◌, refl, ap, ◌∙◌}
use mathlib.Core.Bool.{Bool, true, false}
use Rattle.std.specs.Prelude.{Option, Some, None, Result, Ok, Err}
use mathlib.Core.List.{List, [], ◌∷◌}
use Prim.Native.Nat.{ℕ, zero, suc, ◌+◌, ◌-◌, min, ◌≤◌, ◌<◌}
use native.Mathlib.Numerals.{sub-one}
use native.Mathlib.Decide.{dec_le}
use native.Mathlib.Omega.{arith}
use lib.ListN.{length, take, drop, length-take, length-drop}
use Rattle.layout.specs.Bytes.{num, same}
use Rattle.layout.specs.Streams.{data_of, contents, stream, stream_bytes}
use Rattle.layout.specs.Filing.{Entry, name_length, entry_at, entries_from, entries, entries_of}
use Rattle.laws.proofs.Picks.{leb_yes, leb_no}
use Rattle.filing.specs.Located.{located, numbered}
use Rattle.layout.specs.declared.Shape.{Shape}
use Rattle.layout.specs.declared.Desc.{Desc}
use Rattle.filing.specs.declared.entries.Found.{Found}
use Rattle.filing.specs.declared.listing.Row.{Row}

-- ---- the search

module _ (r : List ℕ) where
  -- the bound does not matter where it is not below the bytes that are left
  entries_bound : (g g' at : ℕ) → length r ≤ at + g → length r ≤ at + g' → entries_from g r at ≡ entries_from g' r at
  unfolding entries_from
  entries_bound zero zero at h k = refl
  entries_bound zero (suc g') at h k = rw (leb_yes {a = length r} {b = at} (omega arith))
  entries_bound (suc g) zero at h k = rw (leb_yes {a = length r} {b = at} (omega arith))
  entries_bound (suc g) (suc g') at h k = elim (dec_le (length r) at) [
    | yes l ↦ rw (leb_yes l)
    | no l ↦ rw (leb_no {a = length r} {b = at} (omega arith)) (ap (λ (t : List Entry). entry_at r at ∷ t) (entries_bound g g' _ (omega arith) (omega arith)))
  ]

  pub entries-start : entries_from (length r) r 0 ≡ entries r
  unfolding entries
  entries-start = refl

  opened : (g at : ℕ) → at < length r → entries_from (suc g) r at ≡ entry_at r at ∷ entries_from g r (at + 6 + name_length r at)
  unfolding entries_from
  opened g at h = rw (leb_no {a = length r} {b = at} h)

  pub entries-step : (at : ℕ) → at < length r → entries_from (length r) r at ≡ entry_at r at ∷ entries_from (length r) r (at + 6 + name_length r at)
  entries-step at h = entries_bound (length r) (suc (length r)) at (omega arith) (omega arith) ∙ opened (length r) at h

  pub entries_stop : (at : ℕ) → length r ≤ at → entries_from (length r) r at ≡ []
  unfolding entries_from
  entries_stop at h = entries_bound (length r) 0 at (omega arith) (omega arith)

  module _ (name : List ℕ) (size at n i l : ℕ) (b : Bool) (long : size ≡ length r) (inside : at < size) (e : i ≡ num 4 r at) (f : l ≡ name_length r at) (g : b ≡ same (entry_at r at).name name) where
    pub find_here : b ≡ true → Ok (record { number = n; index = i; at = at }) ≡ located (entries_from (length r) r at) name n
    unfolding located
    find_here t = rw (entries-step at (omega arith), ← g, t, e)

    pub find-next : b ≡ false → located (entries_from (length r) r (at + (6 + l))) name (n + 1) ≡ located (entries_from (length r) r at) name n
    unfolding located
    find-next t = let z : at + (6 + l) ≡ at + 6 + l = omega arith in rw (z, entries-step at (omega arith), ← g, t, f)

  pub find_none : (name : List ℕ) (at n m : ℕ) (f : Result Found ℕ) → located (entries_from (length r) r at) name n ≡ f → m ≡ length r → m ≤ at → Err n ≡ f
  unfolding located
  find_none name at n m f t e h = rw (entries_stop at (omega arith)) at t

  -- ---- by number

  module _ (size at i l : ℕ) (long : size ≡ length r) (inside : at < size) (e : i ≡ num 4 r at) (f : l ≡ name_length r at) where
    pub nth_here : (n k m : ℕ) → n ≡ 0 → k ≡ size - (at + 6) → m ≡ min l k → Some (record { index = i; at = at; length = m }) ≡ numbered (entries_from (length r) r at) n
    unfolding numbered
    nth_here n k m z u v =
        let w : m ≡ length (take (name_length r at) (drop (at + 6) r)) = rw (length-take, length-drop, ← f) (omega arith) in
        rw (entries-step at (omega arith), z) (λ j. Some (record { index = e j; at = at; length = w j }))

    pub nth_next : (n : ℕ) → (n ≡ 0 → ⊥) → numbered (entries_from (length r) r (at + (6 + l))) (n - 1) ≡ numbered (entries_from (length r) r at) n
    unfolding numbered
    nth_next zero z = absurd (z refl)
    nth_next (suc n) z = let w : at + (6 + l) ≡ at + 6 + l = omega arith in rw (w, entries-step at (omega arith), sub-one (suc n), f)

  pub nth_none : (at n m : ℕ) (f : Option Row) → numbered (entries_from (length r) r at) n ≡ f → m ≡ length r → m ≤ at → None ≡ f
  unfolding numbered
  nth_none at n m f t e h = rw (entries_stop at (omega arith)) at t

-- ---- in a directory

pub looked_up : (c name : List ℕ) (s : Shape) (k : ℕ) (t : Desc) (f : Result Found ℕ) → t ≡ stream c s k → f ≡ located (entries (contents c s t.top (data_of s t) t.size)) name 0 → f ≡ located (entries_of c s k) name 0
unfolding entries_of stream_bytes
looked_up c name s k t f e g = rw e at g
