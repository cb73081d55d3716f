-- An entry filed in its bucket: what is read of it, and what the buckets then say.
use mathlib.Core.Path.{◌≡◌, sym, ap, ◌∙◌}
use mathlib.Core.Logic.{◌≢◌}
use mathlib.Core.Bool.{Bool, true, false}
use mathlib.Core.List.{List}
use Prim.Native.Nat.{ℕ, ◌+◌, ◌-◌, ◌≤◌, ◌<◌}
use native.Mathlib.Numerals.{add-one}
use native.Mathlib.Decide.{ℕ_discrete, dec_lt}
use native.Mathlib.Omega.{arith}
use lib.ListN.{length, get_or, set, take, drop, length-take, length-set}
use borrow.Author.Tests.{eq-eqb, ne_eqb}
use Rattle.std.specs.Prelude.{Option, Some, None}
use Rattle.std.proofs.Common.{get_or-set_same, get_or-set_other}
use Rattle.layout.specs.Bytes.{pick}
use Rattle.layout.specs.Filing.{Entry, name_length, entries, nothing}
use Rattle.filing.specs.Paged.{piece_at}
use Rattle.filing.proofs.Paging.{length_piece, piece_length, piece_name}
use Rattle.naming.specs.Buckets.{bucket_of, name_at, among, last_in, up_to, unlinked, Linked, Filed}
use Rattle.naming.specs.Rooted.{Here}
use Rattle.naming.specs.declared.apart.Link.{Link}
use Rattle.naming.specs.declared.apart.Buckets.{Buckets}
use Rattle.naming.proofs.Buckets.{last_le, last_own, among-last}

module _ (r : List ℕ) (at i : ℕ) (here : Here r at i) (m : Buckets) (filed : Filed (entries r) i m) (piece : List ℕ) (e : piece ≡ piece_at r at) (n : ℕ) (f : n ≡ name_length piece 0) where
  abbrev es : List Entry
  es = entries r

  n_is : n ≡ name_length r at
  n_is = piece_length r at piece e n f

  pub entry_fits : 6 + n ≤ length piece
  entry_fits = omega (arith, ap length e, length_piece r at, n_is, here.short, here.whole)

  module _ (name : List ℕ) (g : name ≡ take (6 + n - 6) (drop 6 piece)) where
    pub name_is : name ≡ name_at es i
    name_is =
        let z : 6 + n - 6 ≡ name_length piece 0 = omega (arith, f) in
        g ∙ rw z (piece_name r at piece e (omega (arith, here.short)) ∙ ap (λ (x : Entry). x.name) (sym here.entry))

    pub name-short : length name ≤ 64
    name-short = omega (arith, ap length g, length-take (6 + n - 6) (drop 6 piece), n_is, here.short)

    module _ (h : ℕ) (x : Option ℕ) (b : h ≡ bucket_of name) (low : h < 1024) (d : x ≡ get_or m.last h None) where
      x_is : up_to x ≡ last_in es h i
      x_is = ap up_to d ∙ filed.headed h low

      pub x_le : up_to x ≤ i
      x_le = omega (arith, x_is, last_le es h i)

      pub x_linked : Linked es (up_to x) m.links
      x_linked j l = filed.linked j (omega (arith, x_le))

      pub x_own : up_to x ≢ 0 → bucket_of (name_at es (up_to x - 1)) ≡ bucket_of name
      x_own = rw (← b, x_is) (last_own es h i)

      module _ (q : Bool) (w : q ≡ among es (up_to x) name) where
        met_is : q ≡ among es i (name_at es i)
        met_is = w ∙ rw (x_is, name_is) (among-last es (name_at es i) h i (ap bucket_of (sym name_is) ∙ sym b))

        pub file_met : q ≡ true → None ≡ pick (among es i (name_at es i)) None (Some (name_length r at))
        file_met t = rw (← met_is, t)

        pub file_new : q ≡ false → Some n ≡ pick (among es i (name_at es i)) None (Some (name_length r at))
        file_new t = rw (← met_is, t) (ap (λ (x : ℕ). Some x) n_is)

      -- the buckets then
      bucket_i : bucket_of (name_at es i) ≡ h
      bucket_i = ap bucket_of (sym name_is) ∙ sym b

      abbrev links' : List Link
      links' = set m.links i (record { at = at; before = x })

      abbrev last' : List (Option ℕ)
      last' = set m.last h (Some i)

      own_link : ((get_or links' i unlinked).at ≡ (get_or es i nothing).at) × (up_to (get_or links' i unlinked).before ≡ last_in es (bucket_of (name_at es i)) i)
      own_link =
          let lt : i < length m.links = omega (arith, here.few, filed.long) in
          rw get_or-set_same (ap (λ (x : Entry). x.at) (sym here.entry), rw bucket_i x_is)

      old_link : (j : ℕ) → j < i → ((get_or links' j unlinked).at ≡ (get_or es j nothing).at) × (up_to (get_or links' j unlinked).before ≡ last_in es (bucket_of (name_at es j)) j)
      old_link j l = let ne : j ≢ i = λ z. omega arith in rw get_or-set_other (filed.linked j l)

      own_head : up_to (get_or last' h None) ≡ last_in es h (i + 1)
      unfolding last_in
      own_head =
          let lt : h < length m.last = omega (arith, low, filed.wide) in
          rw (get_or-set_same, add-one i, eq-eqb (bucket_of (name_at es i)) h bucket_i)

      old_head : (k : ℕ) → k < 1024 → (k ≡ h → ⊥) → up_to (get_or last' k None) ≡ last_in es k (i + 1)
      unfolding last_in
      old_head k l z = let ne : k ≢ h = z in rw (get_or-set_other, add-one i, ne_eqb (bucket_of (name_at es i)) k (λ y. z (sym y ∙ bucket_i))) (filed.headed k l)

      pub file_filed : Filed es (i + 1) (record { last = last'; links = links' })
      file_filed = record {
        linked = λ j l. elim (dec_lt j i) [
          | yes k ↦ old_link j k
          | no k ↦ (let y : j ≡ i = omega arith in rw y own_link)
        ];
        headed = λ k l. elim (ℕ_discrete k h) [
          | yes y ↦ rw y own_head
          | no y ↦ old_head k l y
        ];
        long = rw length-set filed.long;
        wide = rw length-set filed.wide;
      }
