-- The free blocks are those that P leaves: the plain list tells their number.
use mathlib.Core.Path.{◌≡◌, refl, sym, ap, ap₂, ◌∙◌}
use mathlib.Core.List.{List, [], ◌∷◌}
use Prim.Native.Nat.{ℕ, suc, ◌+◌}
use native.Mathlib.Omega.{arith}
use lib.ListN.{length}
use Rattle.layout.specs.Pyramid.{P}
use Rattle.layout.specs.Blocks.{fan, chain}
use Rattle.layout.specs.Streams.{table, stream, stream_bytes}
use Rattle.layout.specs.declared.Desc.{Desc}
use Rattle.layout.specs.Filing.{entries, entries_of}
use Rattle.layout.specs.Header.{shape_of}
use Rattle.layout.specs.Calls.{root_of}
use Rattle.laws.proofs.Joins.{total, total_map, total_agree, total_same}
use Rattle.laws.proofs.Listing.{reads-length}
use Rattle.laws.proofs.Lists.{In}
use Rattle.laws.proofs.Entries.{indices}
use Rattle.laws.proofs.Lives.{lives_in}
use Rattle.laws.proofs.Parts.{own_of, cost}
use Rattle.laws.proofs.State.{lives_of, own, owners, Right, Whole, right_data, length-stream}
use Rattle.laws.proofs.Cores.{core_good}
use Rattle.demands.specs.Plain.{Item, needs, sum, root_size, table_size, block_size, used_by, free_of}
use Rattle.demands.specs.Shows.{item_of, plain}
use Rattle.layout.specs.declared.Shape.{Shape}

sum_total : {A : Type 0} (g : A → ℕ) (xs : List A) → sum g xs ≡ total g xs
unfolding total
sum_total g [] = refl
sum_total g (x ∷ xs) = ap (λ (n : ℕ). g x + n) (sum_total g xs)

module _ (c : List ℕ) (w : Whole c) where
  abbrev s : Shape
  s = shape_of c

  -- a descriptor costs what its size needs
  cost_is : (t : Desc) → Right s t → cost s (own_of s t) ≡ needs s.size t.size
  cost_is t r = ap (P (fan s)) (right_data s (core_good c s w.core) t r)

  -- the directory's length is its items'
  pub root-size : (stream c s 0).size ≡ root_size (plain c).items
  unfolding plain entries_of
  root-size =
      sym (length-stream c s 0) ∙ reads-length (stream_bytes c s 0) w.filed.directory.whole
      ∙ sym (sum_total (λ f. 6 + length f.name) (plain c).items ∙ total_map (λ (f : Item). 6 + length f.name) (item_of c s) (entries (stream_bytes c s 0)))

  table_cost : cost s (own c s 0) ≡ needs (block_size (plain c)) (table_size (plain c).descs)
  unfolding plain shape_of
  table_cost = cost_is (table c s) w.core.right ∙ ap (needs s.size) w.core.size

  live_cost : (k : ℕ) → In k (lives_of c s) → cost s (own c s (suc k)) ≡ needs s.size (stream c s k).size
  unfolding stream
  live_cost k i = let r = lives_in _ k i in cost_is (stream c s k) ((w.core.forms k r.0).alive r.1)

  -- the live streams are the root and those that it names
  live_costs : total (λ k. cost s (own c s (suc k))) (lives_of c s) ≡ needs s.size (stream c s 0).size + total (λ e. needs s.size (stream c s e.index).size) (root_of c)
  unfolding total entries_of
  live_costs =
      let f = w.filed.reach in
      total_agree (λ k. needs s.size (stream c s k).size) _ (lives_of c s) live_cost
      ∙ sym (total_same (λ k. needs s.size (stream c s k).size) (0 ∷ indices (root_of c)) (lives_of c s) f.once f.many f.all)
      ∙ ap (λ (x : ℕ). needs s.size (stream c s 0).size + x) (total_map (λ k. needs s.size (stream c s k).size) (λ e. e.index) (root_of c))

  item_costs : sum (λ f. needs (block_size (plain c)) (length f.bytes)) (plain c).items ≡ total (λ e. needs s.size (stream c s e.index).size) (root_of c)
  unfolding plain shape_of
  item_costs = sum_total _ (plain c).items ∙ total_map _ (item_of c s) (root_of c) ∙ total_agree _ _ (root_of c) (λ e i. ap (needs s.size) (length-stream c s e.index))

  -- the table's and all of theirs
  all_costs : total (λ k. cost s (own c s k)) (owners c s) ≡ cost s (own c s 0) + total (λ k. cost s (own c s (suc k))) (lives_of c s)
  unfolding owners total
  all_costs = ap (λ (x : ℕ). cost s (own c s 0) + x) (total_map (λ k. cost s (own c s k)) suc (lives_of c s))

  shape_is : (block_size (plain c) ≡ s.size) × ((plain c).count ≡ s.count)
  unfolding plain shape_of
  shape_is = (refl, refl)

  root_cost : needs (block_size (plain c)) (root_size (plain c).items) ≡ needs s.size (stream c s 0).size
  root_cost = ap₂ needs shape_is.0 (sym root-size)

  pub used_and_free : used_by (plain c) + length (chain c s) ≡ (plain c).count
  unfolding used_by
  used_and_free = omega (arith, item_costs, root_cost, table_cost, shape_is.1, w.core.parts.sum, all_costs, live_costs)

  -- so the count of the chain is a matter of the plain list
  pub free-count : length (chain c s) ≡ free_of (plain c)
  unfolding free_of
  free-count = omega (arith, used_and_free)
