-- Lists of items: made of a directory's entries, looked up, edited, removed.
use mathlib.Core.Path.{◌≡◌, refl, sym, ap, ◌∙◌}
use mathlib.Core.Logic.{◌≢◌}
use mathlib.Core.Bool.{Bool, true, false}
use mathlib.Core.List.{List, [], ◌∷◌, ◌++◌, map}
use Prim.Native.Nat.{ℕ, zero, suc, ◌≤◌, ◌<◌}
use native.Mathlib.Decide.{ℕ_discrete}
use native.Mathlib.Omega.{arith}
use lib.ListN.{length, get_or, set, take, drop, length-map, length-set, length-append, length-take, length-drop}
use lib.Seq.{ext_get_or, get_or-set_same, get_or-set_other}
use Rattle.layout.specs.Bytes.{pick, same}
use Rattle.layout.specs.Filing.{Entry, look_in, nothing}
use Rattle.laws.proofs.Lists.{In, Distinct, in-get_or, get_or-apart}
use Rattle.laws.proofs.Entries.{indices}
use Rattle.demands.specs.Plain.{Item, look_up, no_item, edited, removed}

-- each entry's name with the bytes that B has for its index
abbrev pub items_of : (ℕ → List ℕ) → List Entry → List Item
items_of B es = map (λ e. record { name = e.name; bytes = B e.index }) es

abbrev pub found : List Entry → List ℕ → Entry
found es name = get_or es (look_in es name) nothing

pub map_at : {A B : Type 0} (f : A → B) (l : List A) (i : ℕ) (d : A) (d' : B) → i < length l → get_or (map f l) i d' ≡ f (get_or l i d)
map_at f [] i d d' h = absurd (omega arith)
map_at f (x ∷ l) zero d d' h = refl
map_at f (x ∷ l) (suc i) d d' h = map_at f l i d d' (omega arith)

-- an entry and its item are found at the same place
pub look_items : (B : ℕ → List ℕ) (es : List Entry) (name : List ℕ) → look_up (items_of B es) name ≡ look_in es name
unfolding look_up look_in
look_items B [] name = refl
look_items B (e ∷ es) name = rw (look_items B es name)

-- ---- edited and removed, by the place where the name is

abbrev changed : (List ℕ → List ℕ) → Item → Item
changed f x = record { name = x.name; bytes = f x.bytes }

module _ (name : List ℕ) where
  pub edited_is : (f : List ℕ → List ℕ) (xs : List Item) → edited name f xs ≡ set xs (look_up xs name) (changed f (get_or xs (look_up xs name) no_item))
  unfolding edited look_up
  edited_is f [] = refl
  edited_is f (x ∷ xs) = go (same x.name name) (look_up xs name) (edited_is f xs)
    where
      go : (t : Bool) (i : ℕ) → edited name f xs ≡ set xs i (changed f (get_or xs i no_item))
          → pick t (changed f x ∷ xs) (x ∷ edited name f xs) ≡ set (x ∷ xs) (pick t 0 (suc i)) (changed f (get_or (x ∷ xs) (pick t 0 (suc i)) no_item))
      go true i r = refl
      go false i r = ap {B = List Item} (λ l. x ∷ l) r

  pub length-edited : (f : List ℕ → List ℕ) (xs : List Item) → length (edited name f xs) ≡ length xs
  length-edited f xs = rw (edited_is f xs, length-set)

  pub removed_is : (xs : List Item) → removed name xs ≡ take (look_up xs name) xs ++ drop (suc (look_up xs name)) xs
  unfolding removed look_up
  removed_is [] = refl
  removed_is (x ∷ xs) = go (same x.name name) (look_up xs name) (removed_is xs)
    where
      go : (t : Bool) (i : ℕ) → removed name xs ≡ take i xs ++ drop (suc i) xs → pick t xs (x ∷ removed name xs) ≡ take (pick t 0 (suc i)) (x ∷ xs) ++ drop (suc (pick t 0 (suc i))) (x ∷ xs)
      go true i r = refl
      go false i r = ap {B = List Item} (λ l. x ∷ l) r

  pub length_removed : (xs : List Item) → length (removed name xs) ≤ length xs
  length_removed xs = rw (removed_is xs, length-append, length-take, length-drop) (omega arith)

-- ---- the bytes change for one index, that of the entry with the name

module _ (es : List Entry) (name : List ℕ) (B B' : ℕ → List ℕ) (f : List ℕ → List ℕ) (once : Distinct (indices es)) (known : look_in es name < length es)
    (others : (j : ℕ) → In j (indices es) → j ≢ (found es name).index → B' j ≡ B j) (mine : B' (found es name).index ≡ f (B (found es name).index)) where
  abbrev i : ℕ
  i = look_in es name

  index_at : (q : ℕ) → q < length es → get_or (indices es) q 0 ≡ (get_or es q nothing).index
  index_at q l = map_at (λ (e : Entry). e.index) es q nothing 0 l

  abbrev item : (ℕ → List ℕ) → Entry → Item
  item B e = record { name = e.name; bytes = B e.index }

  -- no other entry has its index
  other : (q : ℕ) → q < length es → q ≢ i → B' (get_or es q nothing).index ≡ B (get_or es q nothing).index
  other q l n =
      let l' : q < length (indices es) = rw length-map l in
      let k' : i < length (indices es) = rw length-map known in
      others _ (rw (index_at q l) at (in-get_or (indices es) q l')) (λ e. n (get_or-apart (indices es) once q i l' k' (index_at q l ∙ e ∙ sym (index_at i known))))

  each : (q : ℕ) → q < length es → get_or (items_of B' es) q no_item ≡ get_or (set (items_of B es) i (changed f (get_or (items_of B es) i no_item))) q no_item
  each q l = map_at (item B') es q nothing no_item l ∙ elim (ℕ_discrete q i) [
    | yes e ↦ rw (e, map_at (item B) es i nothing no_item known, get_or-set_same (items_of B es) i (changed f (item B (found es name))) no_item (rw length-map known), mine)
    | no n ↦ rw (get_or-set_other (items_of B es) i q (changed f (get_or (items_of B es) i no_item)) no_item n, map_at (item B) es q nothing no_item l, other q l n)
  ]

  pub items-edited : items_of B' es ≡ edited name f (items_of B es)
  items-edited = rw (edited_is name f (items_of B es), look_items B es name)
      (ext_get_or no_item _ _ (length-map es (item B') ∙ sym (rw (length-set, length-map))) (λ q l. each q (rw length-map at l)))
