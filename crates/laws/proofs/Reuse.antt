-- The first free descriptor is taken off the chain and zeroed.
use mathlib.Core.Path.{◌≡◌, refl, sym, ap, ◌∙◌}
use mathlib.Core.Logic.{◌≢◌, inl, inr}
use mathlib.Core.List.{List, [], ◌∷◌}
use Prim.Native.Nat.{ℕ, zero, suc, ◌^◌, ◌<◌}
use native.Mathlib.Decide.{dec_lt}
use native.Mathlib.Omega.{arith}
use lib.ListN.{replicate}
use Rattle.layout.specs.Bytes.{num, bytes, over, put, end8}
use Rattle.layout.specs.Blocks.{chain}
use Rattle.layout.specs.Streams.{table_bytes, offset, slots, desc_of, first_desc, desc_chain, in_table, stream}
use Rattle.layout.specs.declared.Desc.{Desc}
use Rattle.laws.proofs.ByteLaws.{num-over, num-put-same, length-bytes, length_over}
use Rattle.laws.proofs.Lists.{In}
use Rattle.laws.proofs.Descs.{desc_away, blank, zeros-at}
use Rattle.laws.proofs.Lives.{lives_in}
use Rattle.laws.proofs.Frees.{Frees, links_small, frees_pop}
use Rattle.laws.proofs.Parts.{own_of, parts_own}
use Rattle.laws.proofs.State.{slots_of, own, owners, Core}
use Rattle.laws.proofs.Cores.{core_good, length_core, core_frees, owner_table, owner_stream}
use Rattle.laws.proofs.InTable.{InTable, in_table_lem, in_table_then}
use Rattle.laws.proofs.Adding.{Described, retabled, Added, described}
use Rattle.layout.specs.declared.Shape.{Shape}

module _ (c : List ℕ) (s : Shape) (w : Core c s) (j : ℕ) (xs : List ℕ) (ch : desc_chain (table_bytes c s) ≡ offset j ∷ xs) where
  abbrev tb : List ℕ
  tb = table_bytes c s

  abbrev tb₁ : List ℕ
  tb₁ = over tb 0 (bytes 8 (num 8 tb (offset j)))

  abbrev tb₂ : List ℕ
  tb₂ = over tb₁ (offset j) (replicate 25 0)

  abbrev c₀ : List ℕ
  c₀ = in_table c s 0 (bytes 8 (num 8 tb (offset j)))

  abbrev c₁ : List ℕ
  c₁ = in_table c₀ s (offset j) (replicate 25 0)

  frees : Frees tb (slots tb) (offset j ∷ xs)
  frees = rw ch at (core_frees c s w)

  pub reused_range : j < slots tb
  reused_range = let r = frees.gone (offset j) (inl refl) in omega (arith, r.1, r.3)

  dead-j : (desc_of tb j).top ≡ end8
  dead-j = let r = frees.gone (offset j) (inl refl) in let e : r.0 ≡ j = omega (arith, r.3) in rw e at r.2

  -- the one after it, or the end
  small : num 8 tb (offset j) < 256 ^ 8
  small = omega (arith, links_small tb (slots tb) (num 8 tb (offset j)) xs (omega (arith, w.few)) frees.links.2 (λ x i. frees.gone x (inr i)))

  table_step : InTable c c₁ s (owners c s) (own c s) (chain c s) tb₂
  table_step =
      let g = core_good c s w in
      let i = owner_table c s w in
      let a = in_table_lem s g c (owners c s) (own c s) (chain c s) w.parts i refl 0 (bytes 8 (num 8 tb (offset j))) (omega (arith, length-bytes 8 (num 8 tb (offset j)), w.size)) in
      let t = a.table_is in
      let a₂ = in_table_lem s g c₀ (owners c s) (own c s) (chain c s) a.parts i (ap (own_of s) (sym t)) (offset j) (replicate 25 0) (rw t (omega (arith, w.size, reused_range))) in
      in_table_then s g c c₀ c₁ (owners c s) (own c s) (chain c s) tb₁ tb₂ a (rw a.bytes_is at a₂)

  others : (k : ℕ) → k ≢ j → desc_of tb₂ k ≡ desc_of tb k
  unfolding desc_of
  others k n =
      desc_away tb₁ (offset j) (replicate 25 0) (offset k) (elim (dec_lt k j) [ yes a ↦ inl (omega arith) | no a ↦ inr (omega arith) ])
      ∙ desc_away tb 0 (bytes 8 (num 8 tb (offset j))) (offset k) (inr (omega (arith, length-bytes 8 (num 8 tb (offset j)))))

  mine : desc_of tb₂ j ≡ blank
  unfolding desc_of
  mine = zeros-at tb₁ (offset j) (rw length_over (omega (arith, length_core c s w, reused_range)))

  first : first_desc tb₂ ≡ num 8 tb (offset j)
  first = num-over 8 tb₁ (offset j) (replicate 25 0) 0 (omega arith) ∙ (unfold put in num-put-same 8 tb 0 (num 8 tb (offset j)) small (omega (arith, length_core c s w)))

  pub reused_slots : slots_of c₁ s ≡ slots tb
  reused_slots = rw (table_step.bytes_is, length_over tb₁ (offset j) (replicate 25 0), length_over tb 0 (bytes 8 (num 8 tb (offset j))))

  same_owners : (k : ℕ) → In k (owners c s) → retabled (own c s) (own c s 0) k ≡ own c s k
  same_owners zero i = refl
  same_owners (suc k) i = refl

  added : Added c c₁ s j [] (chain c s) xs (own c s 0)
  unfolding stream
  added = record {
    more = omega (arith, reused_slots);
    inside = λ k l n. omega (arith, reused_slots);
    range = omega (arith, reused_slots, reused_range);
    fresh = λ i. (lives_in tb j i).1 dead-j;
    others = λ k l n. rw table_step.bytes_is (others k n);
    mine = rw table_step.bytes_is mine;
    size = ap (λ (d : Desc). d.size) table_step.table_is ∙ w.size ∙ sym (ap offset reused_slots);
    few = rw reused_slots w.few;
    right = rw table_step.table_is w.right;
    frees = rw (reused_slots, table_step.bytes_is) (frees_pop tb tb₂ (slots tb) j reused_range (λ k l n. others k n) xs frees first (rw mine (omega arith)));
    owner = ap (own_of s) table_step.table_is;
    parts = parts_own c₁ s (owners c s) (own c s) (retabled (own c s) (own c s 0)) (chain c s) same_owners table_step.parts;
    kept = λ k i. table_step.kept k (owner_stream c s w k i);
    from = λ b m. inl (rw table_step.blocks_is at m);
    long = table_step.long;
    rest-same = λ i n t b m. table_step.rest-same i n m;
  }

  pub reused : Described c c₁ s j [] (chain c s)
  reused = described c c₁ s w j [] (chain c s) xs (own c s 0) added
