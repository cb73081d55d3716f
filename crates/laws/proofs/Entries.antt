-- An entry added to a directory's bytes, one taken out of them, and names looked up.
use mathlib.Core.Path.{◌≡◌, refl, sym, ap, ◌∙◌}
use mathlib.Core.Logic.{inl, inr}
use mathlib.Core.Bool.{Bool, true, false}
use mathlib.Core.List.{List, [], ◌∷◌, ◌++◌, map, map-map, map-append}
use Prim.Native.Nat.{ℕ, zero, suc, ◌+◌, ◌^◌, ◌≤◌, ◌<◌}
use native.Mathlib.Decide.{dec_lt}
use native.Mathlib.Omega.{arith}
use lib.ListN.{length, get_or, take, drop, length-take, length-drop, length-append, length-map, get_or-map}
use lib.Seq.{split_at, take_at, drop_at, drop-drop}
use lib.Dec.{T, ltb, eqb}
use Rattle.layout.specs.Bytes.{pick, same}
use Rattle.layout.specs.Filing.{Entry, entries, reads, entry_bytes, look_in, distinct_names, nothing, with_entry, without_entry}
use Rattle.laws.proofs.Picks.{is_true, is_false}
use Rattle.laws.proofs.Lists.{In, Distinct, in_map}
use Rattle.laws.proofs.Tests.{Is, is_both, is_eqb, is_ltb, is_yes, is_same}
use Rattle.laws.proofs.Removal.{in_at, map-take, map-drop}
use Rattle.laws.proofs.Listing.{Key, key, keys, span, Listed, entries-listed, listed-entries, listed-append, listed-cut, listed-one, length-entry, entry_at_lem}

-- entry number i
abbrev pub entry : List ℕ → ℕ → Entry
entry r i = get_or (entries r) i nothing

-- ---- one more

module _ (r : List ℕ) (k : ℕ) (name : List ℕ) where
  -- it stands behind the others
  pub with_entry_lem : T (reads r) → k < 256 ^ 4 → length name < 256 ^ 2 → T (reads (with_entry r k name)) × (keys (with_entry r k name) ≡ keys r ++ (record { index = k; name = name } ∷ []))
  unfolding with_entry
  with_entry_lem h small short =
      listed-entries (r ++ entry_bytes k name) _
      (listed-append (entry_bytes k name) r (keys r) (record { index = k; name = name } ∷ []) (entries-listed r h) (listed-one k name small short))

  pub with_length : length (with_entry r k name) ≡ length r + 6 + length name
  unfolding with_entry
  with_length = rw (length-append, length-entry k name) (omega arith)

  pub with_new : drop (length r) (with_entry r k name) ≡ entry_bytes k name
  unfolding with_entry
  with_new = drop_at r (entry_bytes k name) (length r) refl

-- ---- one less

module _ (r : List ℕ) (i : ℕ) (h : T (reads r)) (l : i < length (entries r)) where
  -- the keys before it, its own, and those behind it
  parted : keys r ≡ take i (keys r) ++ key (entry r i) ∷ drop (suc i) (keys r)
  parted =
      split_at (keys r) i (key nothing) (rw length-map l)
      ∙ ap {B = List Key} (λ k. take i (keys r) ++ k ∷ drop (suc i) (keys r)) (get_or-map key (entries r) i nothing)

  -- and their bytes
  cut : (Listed (take (entry r i).at r) (take i (keys r))) × (Listed (drop (entry r i).at r) (key (entry r i) ∷ drop (suc i) (keys r))) × ((entry r i).at ≤ length r)
  cut = listed-cut r (take i (keys r)) (key (entry r i) ∷ drop (suc i) (keys r)) (entry r i).at (entry_at_lem r i h l) (rw parted at (entries-listed r h))

  -- it ends within the directory
  pub entry-ends : (entry r i).at + 6 + length (entry r i).name ≤ length r
  entry-ends = omega (arith, cut.1.3, length-drop (entry r i).at r, cut.2)

  front : length (take (entry r i).at r) ≡ (entry r i).at
  front = rw length-take (omega (arith, cut.2))

  -- the others stay, in their order
  pub without_entry_lem : T (reads (without_entry r (entry r i))) × (keys (without_entry r (entry r i)) ≡ take i (keys r) ++ drop (suc i) (keys r))
  unfolding without_entry
  without_entry_lem =
      let at = (entry r i).at in
      let len = length (entry r i).name in
      let to : at + (6 + len) ≡ at + 6 + len = omega arith in
      listed-entries (take at r ++ drop (at + 6 + len) r) _
      (listed-append (drop (at + 6 + len) r) (take at r) (take i (keys r)) (drop (suc i) (keys r)) cut.0 (rw (drop-drop (6 + len) at r, to) at cut.1.4))

  pub without_length : length (without_entry r (entry r i)) + span (key (entry r i)) ≡ length r
  unfolding without_entry
  without_length = rw (length-append, front, length-drop) (omega (arith, entry-ends))

  -- only what is behind its start changes: the bytes behind it are pulled forward
  pub without_front : take (entry r i).at (without_entry r (entry r i)) ≡ take (entry r i).at r
  unfolding without_entry
  without_front = take_at (take (entry r i).at r) _ (entry r i).at front

  pub without_rest : drop (entry r i).at (without_entry r (entry r i)) ≡ drop ((entry r i).at + 6 + length (entry r i).name) r
  unfolding without_entry
  without_rest = drop_at (take (entry r i).at r) _ (entry r i).at front

-- ---- what the keys give: names, indices, whatever a key stands for

abbrev pub names : List Entry → List (List ℕ)
names es = map (λ e. e.name) es

abbrev pub indices : List Entry → List ℕ
indices es = map (λ e. e.index) es

module _ {A : Type 0} (g : Key → A) where
  pub by_keys : (es : List Entry) → map (λ e. g (key e)) es ≡ map g (map key es)
  by_keys es = sym (map-map g key es)

  pub with_map : (r : List ℕ) (k : ℕ) (name : List ℕ) → T (reads r) → k < 256 ^ 4 → length name < 256 ^ 2
      → map (λ e. g (key e)) (entries (with_entry r k name)) ≡ map (λ e. g (key e)) (entries r) ++ (g (record { index = k; name = name }) ∷ [])
  with_map r k name h small short = rw (by_keys (entries (with_entry r k name)), (with_entry_lem r k name h small short).1, map-append, ← by_keys (entries r))

  pub without_map : (r : List ℕ) (i : ℕ) → T (reads r) → i < length (entries r)
      → map (λ e. g (key e)) (entries (without_entry r (entry r i))) ≡ take i (map (λ e. g (key e)) (entries r)) ++ drop (suc i) (map (λ e. g (key e)) (entries r))
  without_map r i h l =
      rw (by_keys (entries (without_entry r (entry r i))), (without_entry_lem r i h l).1, map-append, map-take, map-drop, ← by_keys (entries r))

-- ---- names looked up

-- only the names matter
pub look_same : (es es' : List Entry) (name : List ℕ) → names es ≡ names es' → look_in es name ≡ look_in es' name
unfolding look_in
look_same [] [] name h = refl
look_same [] (x ∷ es') name h = let z : ◌≡◌ {A = ℕ} 0 1 = cc in omega arith
look_same (x ∷ es) [] name h = let z : ◌≡◌ {A = ℕ} 0 1 = cc in omega arith
look_same (x ∷ es) (y ∷ es') name h =
    let a : x.name ≡ y.name = cc in
    let b : names es ≡ names es' = cc in
    rw (a, look_same es es' name b)

pub look_le : (es : List Entry) (name : List ℕ) → look_in es name ≤ length es
unfolding look_in
look_le [] name = omega arith
look_le (e ∷ es) name = go (same e.name name) (look_le es name)
  where
    go : (t : Bool) → look_in es name ≤ length es → pick t 0 (suc (look_in es name)) ≤ suc (length es)
    go true h = omega arith
    go false h = omega arith

-- the entry that is found has the name
pub look_name : (es : List Entry) (name : List ℕ) → look_in es name < length es → (get_or es (look_in es name) nothing).name ≡ name
unfolding look_in
look_name [] name h = absurd (omega arith)
look_name (e ∷ es) name h = go (same e.name name) (is_same e.name name).out h (look_name es name)
  where
    go : (t : Bool) → (T t → e.name ≡ name) → pick t 0 (suc (look_in es name)) < suc (length es)
        → (look_in es name < length es → (get_or es (look_in es name) nothing).name ≡ name) → (get_or (e ∷ es) (pick t 0 (suc (look_in es name))) nothing).name ≡ name
    go true a h r = a tt
    go false a h r = r (omega arith)

-- a name that no entry has
pub is_unknown : (es : List Entry) (name : List ℕ) → Is (eqb (look_in es name) (length es)) (In name (names es) → ⊥)
unfolding look_in
is_unknown [] name = record { out = λ t i. i; back = λ f. tt }
is_unknown (e ∷ es) name = go (same e.name name) (is_same e.name name) (is_unknown es name)
  where
    go : (t : Bool) → Is t (e.name ≡ name) → Is (eqb (look_in es name) (length es)) (In name (names es) → ⊥)
        → Is (eqb (pick t 0 (suc (look_in es name))) (suc (length es))) (In name (names (e ∷ es)) → ⊥)
    go true a r = record { out = λ t. absurd (omega (arith, (is_eqb 0 (suc (length es))).out t)); back = λ f. absurd (f (inl (sym (a.out tt)))) }
    go false a r = record { out = λ t. elim [ inl u ↦ a.back (sym u) | inr i ↦ r.out (lower t) i ]; back = λ f. raise (r.back (λ i. f (inr i))) }
      where
        lower : T (eqb (suc (look_in es name)) (suc (length es))) → T (eqb (look_in es name) (length es))
        lower t = (is_eqb (look_in es name) (length es)).back (omega (arith, (is_eqb (suc (look_in es name)) (suc (length es))).out t))

        raise : T (eqb (look_in es name) (length es)) → T (eqb (suc (look_in es name)) (suc (length es)))
        raise t = (is_eqb (suc (look_in es name)) (suc (length es))).back (omega (arith, (is_eqb (look_in es name) (length es)).out t))

-- a name that one has
pub is_known : (es : List Entry) (name : List ℕ) → Is (ltb (look_in es name) (length es)) (In name (names es))
is_known es name = record { out = λ t. out ((is_ltb (look_in es name) (length es)).out t); back = λ i. (is_ltb (look_in es name) (length es)).back (back i) }
  where
    out : look_in es name < length es → In name (names es)
    out l = rw (look_name es name l) at (in_map (λ e. e.name) (get_or es (look_in es name) nothing) es (in_at es (look_in es name) nothing l))

    back : In name (names es) → look_in es name < length es
    back i = elim (dec_lt (look_in es name) (length es)) [
      | yes l ↦ l
      | no n ↦ absurd ((is_unknown es name).out ((is_eqb (look_in es name) (length es)).back (omega (arith, look_le es name))) i)
    ]

-- no name twice
pub is_names : (es : List Entry) → Is (distinct_names es) (Distinct (names es))
unfolding distinct_names
is_names [] = is_yes
is_names (e ∷ es) = is_both (is_unknown es e.name) (is_names es)

-- then each name finds its own entry
pub look_own : (es : List Entry) (i : ℕ) → Distinct (names es) → i < length es → look_in es (get_or es i nothing).name ≡ i
unfolding look_in
look_own [] i d l = absurd (omega arith)
look_own (e ∷ es) zero d l = rw (is_true (same e.name e.name) ((is_same e.name e.name).back refl))
look_own (e ∷ es) (suc i) d l =
    let n = (get_or es i nothing).name in
    let own : In n (names es) = in_map (λ e. e.name) (get_or es i nothing) es (in_at es i nothing (omega arith)) in
    rw (is_false (same e.name n) (λ t. d.0 (rw ((is_same e.name n).out t) own))) (ap suc (look_own es i d.1 (omega arith)))
