-- Truncation, block by block: a block that the stream keeps has every byte that it had, and a freed one all but its first 4.
use mathlib.Core.Path.{◌≡◌, ap, ap₂, subst}
use mathlib.Core.List.{List}
use Prim.Native.Nat.{ℕ, ◌+◌, ◌≤◌}
use native.Mathlib.Omega.{arith}
use Rattle.layout.specs.Blocks.{place, chain}
use Rattle.layout.specs.Streams.{table_bytes, table_blocks, stream_blocks}
use Rattle.layout.specs.Filing.{Entry}
use Rattle.layout.specs.Header.{shape_of}
use Rattle.layout.specs.Calls.{index_of}
use Rattle.laws.proofs.Lists.{In, in_left, holds_read}
use Rattle.laws.proofs.Frame.{Inside}
use Rattle.laws.proofs.Chain.{Good, one_block}
use Rattle.laws.proofs.Hanging.{block_field, beyond}
use Rattle.laws.proofs.GiveBack.{in_rising}
use Rattle.laws.proofs.Lives.{lives_in}
use Rattle.laws.proofs.State.{lives_of, Core}
use Rattle.laws.proofs.Cores.{core_good}
use Rattle.laws.proofs.Edits.{NotDesc, beyond_desc}
use Rattle.demands.specs.Owners.{blocks_of}
use Rattle.demands.specs.Demand3.{SameByte, Cut}
use Rattle.demands.proofs.Items.{found}
use Rattle.demands.proofs.Named.{found_live}
use Rattle.demands.proofs.Ownership.{Owned, owned}
use Rattle.demands.proofs.Spares.{surplus_of, spare}
use Rattle.demands.proofs.Cutting.{cut_low}
use Rattle.demands.proofs.Truncates.{Truncated}
use Rattle.layout.specs.declared.Shape.{Shape}

module _ (c name : List ℕ) (n : ℕ) (c' : List ℕ) (t : Truncated c name n c') where
  abbrev s : Shape
  s = shape_of c

  abbrev k : ℕ
  k = index_of c name

  w : Core c s
  w = t.before.core

  g : Good s
  g = core_good c s w

  shape : shape_of c' ≡ s
  shape = t.edit.core.shape_is

  lk : In k (lives_of c s)
  lk = found_live c t.before name t.known

  lk' : In k (lives_of c' s)
  lk' = rw t.edit.lives_is lk

  o : Owned c' s
  o = subst (λ (z : Shape). Owned c' z) shape (owned c' t.after)

  -- a byte in a block that is not the table's is in no descriptor
  no_desc : (b i : ℕ) → Inside s b i → (In b (table_blocks c' s) → ⊥) → NotDesc c s k i
  no_desc b i m u = beyond_desc c s w k (lives_in (table_bytes c s) k lk).0 i (beyond s g b (table_blocks c s) i (λ v. u (rw t.edit.table_of v)) m)

  -- what the stream gives back is free then
  given : (b : ℕ) → In b (surplus_of c s k n) → In b (chain c' s)
  unfolding spare
  given b m = rw t.edit.chain_is (in_left b (spare c s k n) (chain c s) (in_rising (surplus_of c s k n) s.count 0 b (omega arith) (omega (arith, cut_low c s w k lk n t.place b m)) m))

  kept : (b : ℕ) → In b (stream_blocks c' s k) → (i : ℕ) → Inside s b i → SameByte c c' i
  kept b m i v = t.rest-same i (block_field s g b i v) (no_desc b i v (λ u. o.table-stream k lk' b u m))
      (λ x y p q. o.stream-chain k lk' b m (rw (one_block s g b x i v (p, omega (arith, g.wide))) (given x y)))

  freed : (b : ℕ) → In b (chain c' s) → (i : ℕ) → Inside s b i → place s b + 4 ≤ i → SameByte c c' i
  freed b m i v l = t.rest-same i (block_field s g b i v) (no_desc b i v (λ u. o.table-chain b u m))
      (λ x y p q. (let e : b ≡ x = one_block s g b x i v (p, omega (arith, g.wide)) in omega (arith, rw (← e) at q)))

  pub cut : Cut c name c'
  cut = record {
    kept = λ b m i v. kept b (rw (blocks_is) at (holds_read b (blocks_of c' name) m)) i v;
    freed = λ b m i v l. freed b (rw (chain_is) at (holds_read b (chain c' (shape_of c')) m.0)) i v l;
  }
    where
      blocks_is : blocks_of c' name ≡ stream_blocks c' s k
      blocks_is = ap₂ (λ (z : Shape) j. stream_blocks c' z j) shape (ap (λ (es : List Entry). (found es name).index) t.root_of_lem)

      chain_is : chain c' (shape_of c') ≡ chain c' s
      chain_is = ap (λ (z : Shape). chain c' z) shape
