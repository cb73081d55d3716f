-- A directory read entry by entry: one turn, and what it says of the entry.
use mathlib.Core.Path.{◌≡◌, refl, sym, ap, ◌∙◌}
use mathlib.Core.Bool.{Bool, true, false, not}
use mathlib.Core.List.{List, ◌∷◌}
use Prim.Native.Nat.{ℕ, zero, suc, ◌+◌, ◌≤◌, ◌<◌}
use native.Mathlib.Nat.{add-zero}
use native.Mathlib.Decide.{dec_le}
use native.Mathlib.Omega.{arith}
use lib.ListN.{length, get_or, drop, length-take, length-drop}
use lib.Seq.{get_or-drop, drop-drop}
use lib.Dec.{leb, T}
use borrow.Author.Tests.{eq-eqb}
use Rattle.layout.specs.Limits.{longest_name, slash}
use Rattle.layout.specs.Bytes.{both, all_b, holds}
use Rattle.layout.specs.Filing.{Entry, name_length, entry_at, entries_from, entries, nothing, good_name, reads_from}
use Rattle.laws.proofs.Picks.{leb_yes, leb_no}
use Rattle.laws.proofs.Tests.{is_both, is_leb, is_itself}
use Rattle.filing.proofs.Finding.{entries-step, entries_stop}
use Rattle.naming.specs.Rooted.{good_at, named, tidy_from, Tidy, Here}

four : (a b c d : Bool) → both (both a b) (both c d) ≡ both (both a c) (both b d)
four true b true d = refl
four true true false d = refl
four true false false d = refl
four false b c d = refl

module _ (r : List ℕ) where
  reads_bound : (g g' at : ℕ) → at ≤ length r → length r ≤ at + g → length r ≤ at + g' → reads_from g r at ≡ reads_from g' r at
  unfolding reads_from
  reads_bound zero zero at a h k = refl
  reads_bound zero (suc g') at a h k = rw (leb_yes {a = length r} {b = at} (omega arith), eq-eqb (length r) at (omega arith))
  reads_bound (suc g) zero at a h k = rw (leb_yes {a = length r} {b = at} (omega arith), eq-eqb (length r) at (omega arith))
  reads_bound (suc g) (suc g') at a h k = elim (dec_le (length r) at) [
    | yes l ↦ rw (leb_yes l)
    | no l ↦ rw (leb_no {a = length r} {b = at} (omega arith)) (elim (dec_le (at + 6 + name_length r at) (length r)) [
      | yes m ↦ rw (leb_yes m) (reads_bound g g' _ m (omega arith) (omega arith))
      | no m ↦ rw (leb_no {a = at + 6 + name_length r at} {b = length r} (omega arith))
    ])
  ]

  reads_open : (g at : ℕ) → at < length r → reads_from (suc g) r at ≡ both (leb (at + 6 + name_length r at) (length r)) (reads_from g r (at + 6 + name_length r at))
  unfolding reads_from
  reads_open g at h = rw (leb_no {a = length r} {b = at} h)

  reads-step : (at : ℕ) → at < length r → reads_from (length r) r at ≡ both (leb (at + 6 + name_length r at) (length r)) (reads_from (length r) r (at + 6 + name_length r at))
  reads-step at h = reads_bound (length r) (suc (length r)) at (omega arith) (omega arith) (omega arith) ∙ reads_open (length r) at h

  pub tidy_step : (at : ℕ) → at < length r → tidy_from r at ≡ both (good_at r at) (tidy_from r (at + 6 + name_length r at))
  unfolding tidy_from all_b
  tidy_step at h = rw (reads-step at h, entries-step r at h) (four (leb (at + 6 + name_length r at) (length r)) (reads_from (length r) r (at + 6 + name_length r at)) (named (entry_at r at)) (all_b named (entries_from (length r) r (at + 6 + name_length r at))))

  reads_stop : reads_from 0 r (length r) ≡ true
  unfolding reads_from
  reads_stop = leb_yes {a = length r} {b = length r} (omega arith)

  pub tidy_stop : tidy_from r (length r) ≡ true
  unfolding tidy_from all_b
  tidy_stop = rw (entries_stop r (length r) (omega arith), reads_bound (length r) 0 (length r) (omega arith) (omega arith) (omega arith), reads_stop)

  -- ---- a good entry

  module _ (at : ℕ) (good : T (good_at r at)) where
    pub parts : (at + 6 + name_length r at ≤ length r) × (1 ≤ length (entry_at r at).name) × (length (entry_at r at).name ≤ longest_name) × T (not (holds slash (entry_at r at).name))
    unfolding good_name
    parts =
        let name = (entry_at r at).name in
        let w = (is_both (is_leb (at + 6 + name_length r at) (length r)) (is_both (is_leb 1 (length name)) (is_both (is_leb (length name) longest_name) (is_itself (not (holds slash name)))))).out good in
        (w.0, w.1.0, w.1.1.0, w.1.1.1)

    pub name-long : length (entry_at r at).name ≡ name_length r at
    name-long = rw (length-take, length-drop) (omega (arith, parts.0))

    -- it stands as entry i where the rest of the entries starts with it
    pub here_is : Tidy r → (i : ℕ) → at < length r → drop i (entries r) ≡ entries_from (length r) r at → Here r at i
    here_is t i h e =
        let o : drop i (entries r) ≡ entry_at r at ∷ entries_from (length r) r (at + 6 + name_length r at) = e ∙ entries-step r at h in
        let n = length-drop i (entries r) in
        let l = ap length o in
        record {
          entry = (let z : i + 0 ≡ i = add-zero i in rw z at (sym (get_or-drop i (entries r) 0 nothing))) ∙ ap (λ (x : List Entry). get_or x 0 nothing) o;
          inside = omega arith;
          few = omega (arith, t.few);
          low = omega (arith, t.low);
          whole = parts.0;
          some = omega (arith, parts.1, name-long);
          short = omega (arith, parts.2, name-long);
        }

  pub rest-turn : (i at : ℕ) → at < length r → drop i (entries r) ≡ entries_from (length r) r at → drop (i + 1) (entries r) ≡ entries_from (length r) r (at + 6 + name_length r at)
  rest-turn i at h e = sym (drop-drop 1 i (entries r)) ∙ ap (drop 1) (e ∙ entries-step r at h)
