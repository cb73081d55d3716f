-- The descriptors of a card: how many live, and when one is free.
use mathlib.Core.Path.{◌≡◌, refl, sym, ap, ◌∙◌}
use mathlib.Core.Logic.{◌≢◌, inl, inr}
use mathlib.Core.List.{List, [], ◌∷◌}
use Prim.Native.Nat.{ℕ, suc, ◌≤◌, ◌<◌}
use native.Mathlib.Omega.{arith}
use lib.ListN.{length, length-map}
use Rattle.layout.specs.Bytes.{end8, run}
use Rattle.layout.specs.Streams.{table_bytes, offset, first_desc, desc_chain, stream_bytes}
use Rattle.layout.specs.Filing.{Entry, entries}
use Rattle.laws.proofs.Lists.{In, in_run, run_in, length_run, run-distinct}
use Rattle.laws.proofs.Sets.{distinct_le}
use Rattle.laws.proofs.Lives.{lives_in, in_lives, lives-distinct}
use Rattle.laws.proofs.Frees.{Frees}
use Rattle.laws.proofs.State.{slots_of, lives_of, Filed, Core}
use Rattle.laws.proofs.Cores.{core_frees}
use Rattle.layout.specs.declared.Shape.{Shape}

module _ (c : List ℕ) (s : Shape) (w : Core c s) where
  abbrev t : List ℕ
  t = table_bytes c s

  abbrev n : ℕ
  n = slots_of c s

  in_range : (k : ℕ) → In k (lives_of c s) → In k (run 0 n)
  in_range k i = in_run 0 n k (omega arith) (omega (arith, (lives_in t k i).0))

  pub lives-few : length (lives_of c s) ≤ n
  lives-few = omega (arith, length_run 0 n, distinct_le (lives_of c s) (run 0 n) (lives-distinct t) in_range)

  -- one that does not live leaves room for one more
  pub room_left : (j : ℕ) → j < n → (In j (lives_of c s) → ⊥) → length (lives_of c s) < n
  room_left j r o = omega (arith, length_run 0 n, distinct_le (j ∷ lives_of c s) (run 0 n) (o, lives-distinct t) to)
    where
      to : (k : ℕ) → In k (j ∷ lives_of c s) → In k (run 0 n)
      to k (inl e) = in_run 0 n k (omega arith) (omega arith)
      to k (inr i) = in_range k i

  -- the first free one heads the chain
  pub first-free : first_desc t ≢ end8 → (j : ℕ) × (xs : List ℕ) × (desc_chain t ≡ offset j ∷ xs) × (first_desc t ≡ offset j)
  first-free u = go (desc_chain t) refl (core_frees c s w)
    where
      go : (l : List ℕ) → desc_chain t ≡ l → Frees t n l → (j : ℕ) × (xs : List ℕ) × (desc_chain t ≡ offset j ∷ xs) × (first_desc t ≡ offset j)
      go [] e f = absurd (u f.links)
      go (x ∷ xs) e f = let r = f.gone x (inl refl) in (r.0, xs, e ∙ ap {B = List ℕ} (λ y. y ∷ xs) r.3, f.links.0 ∙ r.3)

  pub none_free : first_desc t ≡ end8 → desc_chain t ≡ []
  none_free z = go (desc_chain t) refl (core_frees c s w)
    where
      go : (l : List ℕ) → desc_chain t ≡ l → Frees t n l → desc_chain t ≡ []
      go [] e f = e
      go (x ∷ xs) e f = absurd (f.links.1 z)

  -- then all live
  pub all_live : first_desc t ≡ end8 → length (lives_of c s) ≡ n
  all_live z =
      let f : Frees t n [] = rw (none_free z) at (core_frees c s w) in
      let to : (k : ℕ) → In k (run 0 n) → In k (lives_of c s) = λ k i. (let l : k < n = omega (arith, run_in 0 n k i) in in_lives t k l (λ u. f.all k l u)) in
      omega (arith, lives-few, length_run 0 n, distinct_le (run 0 n) (lives_of c s) (run-distinct 0 n) to)

  -- else one does not
  pub some-free : first_desc t ≢ end8 → length (lives_of c s) < n
  some-free u =
      let r = first-free u in
      let f : Frees t n (offset r.0 ∷ r.1) = rw r.2 at (core_frees c s w) in
      let d = f.gone (offset r.0) (inl refl) in
      room_left d.0 d.1 (λ i. (lives_in t d.0 i).1 d.2)

  -- the root and what it names
  pub as_many : Filed (stream_bytes c s 0) (lives_of c s) → length (lives_of c s) ≡ suc (length (entries (stream_bytes c s 0)))
  as_many f = sym f.reach.many ∙ ap suc (length-map (entries (stream_bytes c s 0)) (λ (e : Entry). e.index))
