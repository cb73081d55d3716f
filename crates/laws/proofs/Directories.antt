-- A good directory stays one when an entry is added to it or taken out of it.
use mathlib.Core.Path.{◌≡◌, ap, ◌∙◌}
use mathlib.Core.Logic.{◌⊎◌, inl, inr}
use mathlib.Core.Bool.{not}
use mathlib.Core.List.{List, [], ◌∷◌, ◌++◌}
use Prim.Native.Nat.{ℕ, suc, ◌^◌, ◌≤◌, ◌<◌}
use native.Mathlib.Omega.{arith}
use lib.ListN.{length, take, drop, length-map, get_or-map}
use lib.Seq.{split_at}
use lib.Dec.{T, leb, leb→le}
use Rattle.layout.specs.Limits.{longest_name, slash}
use Rattle.layout.specs.Bytes.{holds}
use Rattle.layout.specs.Filing.{Entry, entries, reads, good_name, good_directory, nothing, with_entry, without_entry}
use Rattle.laws.proofs.Lists.{In, Distinct, distinct-both, in_either, in_map, map_in, both_left, both_right}
use Rattle.laws.proofs.Tests.{Is, is_itself, is_both, is_all}
use Rattle.laws.proofs.Removal.{in_more, distinct_remove}
use Rattle.laws.proofs.Listing.{Key}
use Rattle.laws.proofs.Entries.{names, indices, is_names, entry, with_entry_lem, with_map, without_entry_lem, without_map}

-- ---- what a good directory is

pub record Directory (r : List ℕ) : Type 0 where
  pub whole : T (reads r)
  pub good : (n : List ℕ) → In n (names (entries r)) → T (good_name n)
  pub once : Distinct (names (entries r))

pub is_directory : (r : List ℕ) → Is (good_directory r) (Directory r)
unfolding good_directory
is_directory r =
    let es = entries r in
    let each = is_all (λ e. good_name e.name) (λ e. T (good_name e.name)) es (λ e. is_itself (good_name e.name)) in
    let d = is_both (is_itself (reads r)) (is_both each (is_names es)) in
    record {
      out = λ t. record { whole = (d.out t).0; good = spread (d.out t).1.0; once = (d.out t).1.1 };
      back = λ g. d.back (g.whole, (λ e i. g.good e.name (in_map (λ e. e.name) e es i), g.once));
    }
  where
    spread : ((e : Entry) → In e (entries r) → T (good_name e.name)) → (n : List ℕ) → In n (names (entries r)) → T (good_name n)
    spread f n i = let m = map_in (λ (e : Entry). e.name) n (entries r) i in rw m.2 (f m.0 m.1)

-- a good name is short, so that two bytes hold its length
pub good_short : (name : List ℕ) → T (good_name name) → length name ≤ longest_name
unfolding good_name
good_short name h =
    leb→le (length name) longest_name (both_left (leb (length name) longest_name) (not (holds slash name)) (both_right (leb 1 (length name)) _ h))

-- ---- one more

module _ (r : List ℕ) (k : ℕ) (name : List ℕ) (h : T (reads r)) (small : k < 256 ^ 4) (short : length name < 256 ^ 2) where
  pub with_names : names (entries (with_entry r k name)) ≡ names (entries r) ++ (name ∷ [])
  with_names = with_map (λ (k : Key). k.name) r k name h small short

  pub with_indices : indices (entries (with_entry r k name)) ≡ indices (entries r) ++ (k ∷ [])
  with_indices = with_map (λ (k : Key). k.index) r k name h small short

pub with_good : (r : List ℕ) (k : ℕ) (name : List ℕ) → Directory r → k < 256 ^ 4 → T (good_name name) → (In name (names (entries r)) → ⊥) → Directory (with_entry r k name)
with_good r k name g small ok new =
    let short : length name < 256 ^ 2 = omega (arith, good_short name ok) in
    let e = with_names r k name g.whole small short in
    record {
      whole = (with_entry_lem r k name g.whole small short).0;
      good = λ n i. each n (in_either n (names (entries r)) (name ∷ []) (rw e at i));
      once = rw e (distinct-both (names (entries r)) (name ∷ []) g.once (λ i. i, tt) (λ n i. elim [ inl u ↦ new (rw u at i) | inr z ↦ z ]));
    }
  where
    each : (n : List ℕ) → In n (names (entries r)) ⊎ In n (name ∷ []) → T (good_name n)
    each n (inl i) = g.good n i
    each n (inr (inl u)) = rw u ok
    each n (inr (inr z)) = absurd z

-- ---- one less

module _ (r : List ℕ) (i : ℕ) (h : T (reads r)) (l : i < length (entries r)) where
  pub without_names : names (entries (without_entry r (entry r i))) ≡ take i (names (entries r)) ++ drop (suc i) (names (entries r))
  without_names = without_map (λ (k : Key). k.name) r i h l

  pub without_indices : indices (entries (without_entry r (entry r i))) ≡ take i (indices (entries r)) ++ drop (suc i) (indices (entries r))
  without_indices = without_map (λ (k : Key). k.index) r i h l

  -- its name between the others
  names_parted : names (entries r) ≡ take i (names (entries r)) ++ (entry r i).name ∷ drop (suc i) (names (entries r))
  names_parted =
      split_at (names (entries r)) i [] (rw length-map l)
      ∙ ap {B = List (List ℕ)} (λ n. take i (names (entries r)) ++ n ∷ drop (suc i) (names (entries r))) (get_or-map (λ e. e.name) (entries r) i nothing)

-- and its name is gone
pub without_good : (r : List ℕ) (i : ℕ) → Directory r → i < length (entries r)
    → Directory (without_entry r (entry r i)) × (In (entry r i).name (names (entries (without_entry r (entry r i)))) → ⊥)
without_good r i g l =
    let ns = names (entries r) in
    let e = without_names r i g.whole l in
    let p = names_parted r i g.whole l in
    let d = distinct_remove (take i ns) (entry r i).name (drop (suc i) ns) (rw p at g.once) in (
      record {
        whole = (without_entry_lem r i g.whole l).0;
        good = λ n j. g.good n (rw p (in_more n (take i ns) (entry r i).name (drop (suc i) ns) (rw e at j)));
        once = rw e d.0;
      },
      rw e d.1,
    )
