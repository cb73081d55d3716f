-- The chain of the free descriptors, as a list: kept, with its first one taken, with one put first.
use mathlib.Core.Path.{◌≡◌, refl, sym, ap, ◌∙◌}
use mathlib.Core.Logic.{◌≢◌, inl, inr}
use mathlib.Core.List.{List, [], ◌∷◌}
use Prim.Native.Nat.{ℕ, ◌+◌, ◌≤◌, ◌<◌}
use native.Mathlib.Decide.{ℕ_discrete}
use native.Mathlib.Omega.{arith}
use Rattle.layout.specs.Bytes.{num, end8}
use Rattle.layout.specs.Blocks.{walk}
use Rattle.layout.specs.Streams.{offset, slots, desc_of, frees, first_desc, desc_chain}
use Rattle.layout.specs.declared.Desc.{Desc}
use Rattle.laws.proofs.Lists.{In, Distinct}
use Rattle.laws.proofs.Links.{Links, walk_links, links_walk, links_same}
use Rattle.laws.proofs.Sets.{Same, distinct_le, same_of, same_back}
use Rattle.laws.proofs.Descs.{desc_size}
use Rattle.laws.proofs.Lives.{frees_in, in_frees, frees-distinct, frees-few}

-- the free descriptors of a table of n are those along the chain
pub record Frees (t : List ℕ) (n : ℕ) (xs : List ℕ) : Type 0 where
  pub links : Links (num 8 t) (first_desc t) xs
  pub once : Distinct xs
  pub gone : (x : ℕ) → In x xs → (k : ℕ) × (k < n) × ((desc_of t k).top ≡ end8) × (x ≡ offset k)
  pub all : (k : ℕ) → k < n → (desc_of t k).top ≡ end8 → In (offset k) xs

-- ---- as rule 5 tests it

pub chained_frees : (t : List ℕ) → Same (desc_chain t) (frees t) → Frees t (slots t) (desc_chain t)
unfolding desc_chain
chained_frees t h = record {
  links = links_walk (slots t + 1) (num 8 t) (first_desc t) (omega (arith, h.many, frees-few t));
  once = h.once;
  gone = λ x i. frees_in t x (h.all x i);
  all = λ k l e. same_back (desc_chain t) (frees t) h (offset k) (in_frees t k l e);
}

pub frees_chained : (t xs : List ℕ) → Frees t (slots t) xs → Same (desc_chain t) (frees t)
unfolding desc_chain
frees_chained t xs f =
    let to : (x : ℕ) → In x xs → In x (frees t) = λ x i. (let r = f.gone x i in rw r.3 (in_frees t r.0 r.1 r.2)) in
    let fro : (x : ℕ) → In x (frees t) → In x xs = λ x i. (let r = frees_in t x i in rw r.3 (f.all r.0 r.1 r.2)) in
    let e : walk (slots t + 1) (num 8 t) (first_desc t) ≡ xs = walk_links (slots t + 1) (num 8 t) (first_desc t) xs f.links (omega (arith, frees-few t, distinct_le xs (frees t) f.once to)) in
    rw e (same_of xs (frees t) f.once (frees-distinct t) to fro)

-- every link is small, where there are not too many descriptors
pub links_small : (t : List ℕ) (n o : ℕ) (xs : List ℕ) → n < 0xffff_ffff → Links (num 8 t) o xs → ((x : ℕ) → In x xs → (k : ℕ) × (k < n) × ((desc_of t k).top ≡ end8) × (x ≡ offset k)) → o ≤ end8
links_small t n o [] few l d = omega arith
links_small t n o (x ∷ xs) few l d = let r = d x (inl refl) in omega (arith, l.0, r.1, r.3)

-- ---- descriptor j alone changes

module _ (t t' : List ℕ) (n j : ℕ) (in_range : j < n) (others : (k : ℕ) → k < n → k ≢ j → desc_of t' k ≡ desc_of t k) where
  link : (k : ℕ) → k < n → k ≢ j → num 8 t' (offset k) ≡ num 8 t (offset k)
  unfolding desc_of
  link k l e = sym (desc_size t' (offset k)) ∙ ap (λ (d : Desc). d.size) (others k l e) ∙ desc_size t (offset k)

  still : (k : ℕ) → k < n → k ≢ j → (desc_of t k).top ≡ end8 → (desc_of t' k).top ≡ end8
  still k l e g = ap (λ (d : Desc). d.top) (others k l e) ∙ g

  was : (k : ℕ) → k < n → k ≢ j → (desc_of t' k).top ≡ end8 → (desc_of t k).top ≡ end8
  was k l e g = sym (ap (λ (d : Desc). d.top) (others k l e)) ∙ g

  -- it lived and lives: the chain stays
  pub frees_keep : (xs : List ℕ) → Frees t n xs → first_desc t' ≡ first_desc t → (desc_of t j).top ≢ end8 → (desc_of t' j).top ≢ end8 → Frees t' n xs
  frees_keep xs f first lived lives = record {
    links = rw first (links_same (num 8 t) (num 8 t') (first_desc t) xs f.links (λ x i. let r = f.gone x i in rw r.3 (link r.0 r.1 (other x i r.0 r.2))));
    once = f.once;
    gone = λ x i. (let r = f.gone x i in (r.0, r.1, still r.0 r.1 (other x i r.0 r.2) r.2, r.3));
    all = λ k l e. f.all k l (was k l (λ u. lives (rw u at e)) e);
  }
    where
      other : (x : ℕ) → In x xs → (k : ℕ) → (desc_of t k).top ≡ end8 → k ≢ j
      other x i k g u = lived (rw u at g)

  -- the first one is taken
  pub frees_pop : (xs : List ℕ) → Frees t n (offset j ∷ xs) → first_desc t' ≡ num 8 t (offset j) → (desc_of t' j).top ≢ end8 → Frees t' n xs
  frees_pop xs f first alive = record {
    links = rw first (links_same (num 8 t) (num 8 t') (num 8 t (offset j)) xs f.links.2 (λ x i. let r = f.gone x (inr i) in rw r.3 (link r.0 r.1 (other x i r.0 r.3))));
    once = f.once.1;
    gone = λ x i. (let r = f.gone x (inr i) in (r.0, r.1, still r.0 r.1 (other x i r.0 r.3) r.2, r.3));
    all = λ k l g. (let m : k ≢ j = λ e. alive (rw e at g) in later k m (f.all k l (was k l m g)));
  }
    where
      other : (x : ℕ) → In x xs → (k : ℕ) → x ≡ offset k → k ≢ j
      other x i k e u = f.once.0 (let z : offset j ≡ x = omega arith in rw z i)

      later : (k : ℕ) → k ≢ j → In (offset k) (offset j ∷ xs) → In (offset k) xs
      later k m (inl e) = absurd (omega arith)
      later k m (inr i) = i

  -- one that lived is put first
  pub frees_push : (xs : List ℕ) → Frees t n xs → (desc_of t j).top ≢ end8 → first_desc t' ≡ offset j → offset j ≢ end8 → num 8 t' (offset j) ≡ first_desc t → (desc_of t' j).top ≡ end8
      → Frees t' n (offset j ∷ xs)
  frees_push xs f lived first small next gone = record {
    links = (first, (λ e. small (sym first ∙ e)), rw next (links_same (num 8 t) (num 8 t') (first_desc t) xs f.links (λ x i. let r = f.gone x i in rw r.3 (link r.0 r.1 (λ u. lived (rw u at r.2))))));
    once = ((λ i. let r = f.gone (offset j) i in lived (let z : r.0 ≡ j = omega (arith, r.3) in rw z at r.2)), f.once);
    gone = gones;
    all = λ k l g. elim (ℕ_discrete k j) [ yes e ↦ inl (rw e) | no m ↦ inr (f.all k l (was k l m g)) ];
  }
    where
      gones : (x : ℕ) → In x (offset j ∷ xs) → (k : ℕ) × (k < n) × ((desc_of t' k).top ≡ end8) × (x ≡ offset k)
      gones x (inl e) = (j, in_range, gone, e)
      gones x (inr i) = let r = f.gone x i in (r.0, r.1, still r.0 r.1 (λ u. lived (rw u at r.2)) r.2, r.3)
