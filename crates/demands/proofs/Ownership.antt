-- Every block of a whole card belongs to exactly one: the table, a live stream (0 is the directory), or the free chain.
use mathlib.Core.Logic.{◌≢◌, ◌⊎◌, inl, inr}
use mathlib.Core.List.{List}
use Prim.Native.Nat.{ℕ, zero, suc, ◌≤◌, ◌<◌}
use native.Mathlib.Omega.{arith}
use Rattle.layout.specs.Blocks.{fan, chain}
use Rattle.layout.specs.Streams.{table_blocks, stream_blocks}
use Rattle.layout.specs.Header.{shape_of}
use Rattle.laws.proofs.Lists.{In, Distinct}
use Rattle.laws.proofs.Hanging.{two}
use Rattle.laws.proofs.Bones.{skeleton_out, skeleton_low, surplus-distinct}
use Rattle.laws.proofs.Parts.{Own, blocks}
use Rattle.laws.proofs.State.{lives_of, own, owners, owners_distinct, Whole, room-long, parts_all}
use Rattle.laws.proofs.Cores.{core_good, owner_table, owner_stream, owner_in}
use Rattle.layout.specs.declared.Shape.{Shape}

pub record Owned (c : List ℕ) (s : Shape) : Type 0 where
  -- some has it
  pub all : (b : ℕ) → b < s.count → In b (table_blocks c s) ⊎ (((k : ℕ) × In k (lives_of c s) × In b (stream_blocks c s k)) ⊎ In b (chain c s))
  -- no two have it
  pub table-stream : (k : ℕ) → In k (lives_of c s) → (b : ℕ) → In b (table_blocks c s) → In b (stream_blocks c s k) → ⊥
  pub stream-stream : (j k : ℕ) → In j (lives_of c s) → In k (lives_of c s) → j ≢ k → (b : ℕ) → In b (stream_blocks c s j) → In b (stream_blocks c s k) → ⊥
  pub table-chain : (b : ℕ) → In b (table_blocks c s) → In b (chain c s) → ⊥
  pub stream-chain : (k : ℕ) → In k (lives_of c s) → (b : ℕ) → In b (stream_blocks c s k) → In b (chain c s) → ⊥
  -- none has it twice
  pub table_once : Distinct (table_blocks c s)
  pub stream_once : (k : ℕ) → In k (lives_of c s) → Distinct (stream_blocks c s k)
  pub chain_once : Distinct (chain c s)
  -- and there are no others
  pub table-low : (b : ℕ) → In b (table_blocks c s) → b < s.count
  pub stream-low : (k : ℕ) → In k (lives_of c s) → (b : ℕ) → In b (stream_blocks c s k) → b < s.count
  pub chain-low : (b : ℕ) → In b (chain c s) → b < s.count

module _ (c : List ℕ) (w : Whole c) where
  abbrev s : Shape
  s = shape_of c

  abbrev o : ℕ → Own
  o = own c s

  two_up : 2 ≤ fan s
  two_up = two s (core_good c s w.core)

  -- of any owner
  out : (k : ℕ) → In k (owners c s) → (b : ℕ) → In b (blocks c s (o k)) → In b (chain c s) → ⊥
  out k i = skeleton_out s two_up c (o k).top (o k).d (chain c s) (w.core.parts.bones k i)

  once : (k : ℕ) → In k (owners c s) → Distinct (blocks c s (o k))
  once k i = surplus-distinct s two_up c (o k).top (o k).d 0 (chain c s) (w.core.parts.bones k i)

  low : (k : ℕ) → In k (owners c s) → (b : ℕ) → In b (blocks c s (o k)) → b < s.count
  low k i = skeleton_low s two_up c (o k).top (o k).d (chain c s) (w.core.parts.bones k i)

  some : (b : ℕ) → (k : ℕ) → In k (owners c s) → In b (blocks c s (o k)) → In b (table_blocks c s) ⊎ (((k : ℕ) × In k (lives_of c s) × In b (stream_blocks c s k)) ⊎ In b (chain c s))
  unfolding table_blocks stream_blocks
  some b zero i m = inl m
  some b (suc k) i m = inr (inl (k, owner_in c s w.core k i, m))

  pub owned : Owned c s
  unfolding table_blocks stream_blocks
  owned =
      let wc = w.core in
      let t = owner_table c s wc in
      let st = owner_stream c s wc in
      let p = wc.parts in
      record {
        all = λ b l. elim (parts_all c s (core_good c s wc) (room-long c wc.headed) (owners c s) o (owners_distinct c s) (chain c s) p b l) [
          | inl a ↦ some b a.0 a.1 a.2
          | inr a ↦ inr (inr a)
        ];
        table-stream = λ k i b. p.apart 0 (suc k) t (st k i) (omega arith) b;
        stream-stream = λ j k i i' n b. p.apart (suc j) (suc k) (st j i) (st k i') (omega arith) b;
        table-chain = out 0 t;
        stream-chain = λ k i. out (suc k) (st k i);
        table_once = once 0 t;
        stream_once = λ k i. once (suc k) (st k i);
        chain_once = p.room.apart;
        table-low = low 0 t;
        stream-low = λ k i. low (suc k) (st k i);
        chain-low = p.room.low;
      }
