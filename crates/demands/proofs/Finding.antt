-- An entry is found by its name wherever it stands, so a name keeps its index as long as its entry stays.
use mathlib.Core.Path.{◌≡◌, sym, ap, ◌∙◌}
use mathlib.Core.Logic.{inl, inr}
use mathlib.Core.List.{List, ◌∷◌, map}
use Prim.Native.Nat.{ℕ, suc, ◌<◌}
use native.Mathlib.Omega.{arith}
use lib.ListN.{length, get_or}
use Rattle.layout.specs.Filing.{Entry, look_in, nothing}
use Rattle.laws.proofs.Lists.{In, Distinct, in_map, map_in}
use Rattle.laws.proofs.Removal.{in_at}
use Rattle.laws.proofs.Listing.{Key, key}
use Rattle.laws.proofs.Entries.{names, look_name, look_own}
use Rattle.demands.proofs.Items.{found}

-- where an element stands
at_in : {A : Type 0} (x d : A) (xs : List A) → In x xs → (i : ℕ) × (i < length xs) × (get_or xs i d ≡ x)
at_in {A = A} x d mathlib.Core.List.[] x'' = elim x'' [ ]
at_in x d (y ∷ xs) (inl e) = (0, omega arith, sym e)
at_in x d (y ∷ xs) (inr h) = let r = at_in x d xs h in (suc r.0, omega (arith, r.1), r.2)

pub found_key : (es : List Entry) (k : Key) → Distinct (names es) → In k (map key es) → key (found es k.name) ≡ k
found_key es k once i =
    let m = map_in key k es i in
    let r = at_in m.0 nothing es m.1 in
    let e : (get_or es r.0 nothing).name ≡ k.name = ap (λ (x : Entry). x.name) r.2 ∙ sym (ap (λ (x : Key). x.name) m.2) in
    let l : look_in es k.name ≡ r.0 = rw e at (look_own es r.0 once r.1) in
    ap (λ (j : ℕ). key (get_or es j nothing)) l ∙ ap key r.2 ∙ sym m.2

-- a name that both lists know, by the same entry
pub index_kept : (es es' : List Entry) (name : List ℕ) → look_in es name < length es → Distinct (names es') → In (key (found es name)) (map key es') → (found es' name).index ≡ (found es name).index
index_kept es es' name l once i = ap (λ (k : Key). k.index) (rw (look_name es name l) at (found_key es' (key (found es name)) once i))

pub found_in : (es : List Entry) (name : List ℕ) → look_in es name < length es → In (key (found es name)) (map key es)
found_in es name l = in_map key (found es name) es (in_at es (look_in es name) nothing l)
