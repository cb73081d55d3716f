-- Deletion, block by block: a block that the directory keeps has every byte that it had but those of the directory's bytes, and a freed
-- block all but its first 4.
use mathlib.Core.Path.{◌≡◌, sym, ap, ◌∙◌, subst}
use mathlib.Core.Logic.{◌≢◌, inl, inr}
use mathlib.Core.List.{List, [], ◌++◌}
use Prim.Native.Nat.{ℕ, ◌+◌, ◌/◌, ◌≤◌, ◌<◌}
use native.Mathlib.Nat.{div-lt_iff_lt-mul}
use native.Mathlib.Omega.{arith}
use lib.ListN.{length}
use Rattle.layout.specs.Pyramid.{level}
use Rattle.layout.specs.Blocks.{place, chain, node, rising}
use Rattle.layout.specs.Streams.{data_of, tall, stream, stream_bytes, table_blocks, stream_blocks}
use Rattle.layout.specs.Filing.{without_entry}
use Rattle.layout.specs.Header.{shape_of}
use Rattle.layout.specs.Calls.{entry_of, index_of}
use Rattle.laws.proofs.Lists.{In, in_left, in_either, holds_in, holds_read}
use Rattle.laws.proofs.Frame.{Inside, in_pyramid}
use Rattle.laws.proofs.Chain.{Good, one_block}
use Rattle.laws.proofs.Hanging.{two, block_field, beyond}
use Rattle.laws.proofs.GiveBack.{NotLink, in_rising, rising_in}
use Rattle.laws.proofs.Laying.{spot-inside}
use Rattle.laws.proofs.State.{lives_of, Core, right_fits, length-stream}
use Rattle.laws.proofs.Cores.{core_good, owner_stream}
use Rattle.laws.proofs.Moves.{stream_right}
use Rattle.demands.specs.Demand3.{SameByte, Pulled}
use Rattle.demands.proofs.Named.{root_live, found_live, not_root}
use Rattle.demands.proofs.Ownership.{Owned, owned}
use Rattle.demands.proofs.Spares.{stream_spot, surplus_of, spare}
use Rattle.demands.proofs.Cutting.{cut_low, cut_stays}
use Rattle.demands.proofs.Deletes.{Deleted}
use Rattle.layout.specs.declared.Shape.{Shape}

module _ (c name c' : List ℕ) (t : Deleted c name c') where
  abbrev s : Shape
  s = shape_of c

  abbrev k : ℕ
  k = index_of c name

  w : Core c s
  w = t.before.core

  g : Good s
  g = core_good c s w

  -- the directory's new bytes
  abbrev r' : List ℕ
  r' = without_entry (stream_bytes c s 0) (entry_of c name)

  root : In 0 (lives_of c s)
  root = root_live c t.before

  lk : In k (lives_of c s)
  lk = found_live c t.before name t.known

  o : Owned c s
  o = owned c t.before

  o' : Owned c' s
  o' = subst (λ (z : Shape). Owned c' z) t.shape_is (owned c' t.after)

  root' : In 0 (lives_of c' s)
  root' = subst (λ (z : Shape). In 0 (lives_of c' z)) t.shape_is (root_live c' t.after)

  -- what the directory gives back is free then
  given : (b : ℕ) → In b (surplus_of c s 0 (length r')) → In b (chain c' s)
  unfolding spare
  given b m = rw t.chain_is (in_left b (spare c s 0 (length r')) _
      (in_rising (surplus_of c s 0 (length r')) s.count 0 b (omega arith) (omega (arith, cut_low c s w 0 root (length r') t.shorter b m)) m))

  kept : (b : ℕ) → In b (stream_blocks c' s 0) → (i : ℕ) → Inside s b i → ((q : ℕ) → q < length r' → i ≢ stream_spot c s 0 q) → SameByte c c' i
  kept b m i v far = t.bytes_same i (block_field s g b i v)
      (beyond s g b (table_blocks c s) i (λ u. o'.table-stream 0 root' b (rw t.table_of u) m) v)
      (λ x y p q. o.stream-stream 0 k root lk (not_root c t.before name t.known) b (t.root_from b m) (rw (one_block s g b x i v (p, omega (arith, g.wide))) y))
      (λ x y p q. o'.stream-chain 0 root' b m (rw (one_block s g b x i v (p, omega (arith, g.wide))) (given x y)))
      (λ q a l. far q l)

  -- ---- a freed block

  -- the block that byte q of the directory is in
  abbrev home : ℕ → ℕ
  home q = node c s (stream c s 0).top (tall s (data_of s (stream c s 0))) (q / s.size)

  home_in : (q : ℕ) → q < (stream c s 0).size → In (home q) (stream_blocks c s 0)
  unfolding stream_blocks level
  home_in q l =
      let d = data_of s (stream c s 0) in
      in_pyramid s (two s g) c (stream c s 0).top d (tall s d) 0 (q / s.size) (omega arith)
      ((div-lt_iff_lt-mul {k = s.size} (omega (arith, g.wide))).1 (omega (arith, right_fits s g (stream c s 0) (stream_right c s w 0 root))))

  home_inside : (q : ℕ) → Inside s (home q) (stream_spot c s 0 q)
  home_inside q =
      let d = data_of s (stream c s 0) in
      spot-inside s g c (stream c s 0).top (tall s d) d 0 [] (chain c s) w.parts.room (w.parts.bones 1 (owner_stream c s w 0 root)) q

  -- no freed block has a byte that the directory keeps
  home_kept : (q : ℕ) → q < length r' → In (home q) (chain c' s) → In (home q) (chain c s)
  unfolding spare
  home_kept q l m =
      let b = home q in
      elim (in_either b (spare c s 0 (length r')) (rising s.count 0 (stream_blocks c s k) ++ chain c s) (rw t.chain_is at m)) [
        | inl a ↦ absurd (cut_stays c s w 0 root (length r') t.shorter q l (rising_in (surplus_of c s 0 (length r')) s.count 0 b a))
        | inr a ↦ elim (in_either b (rising s.count 0 (stream_blocks c s k)) (chain c s) a) [
          | inl u ↦ absurd (o.stream-stream 0 k root lk (not_root c t.before name t.known) b (home_in q (omega (arith, t.shorter))) (rising_in (stream_blocks c s k) s.count 0 b u))
          | inr u ↦ u
        ]
      ]

  freed : (b : ℕ) → In b (chain c' s) → (In b (chain c s) → ⊥) → (i : ℕ) → Inside s b i → place s b + 4 ≤ i → SameByte c c' i
  freed b m n i v l =
      let link : (bs : List ℕ) → NotLink s bs i = λ bs x y p q. (let e : b ≡ x = one_block s g b x i v (p, omega (arith, g.wide)) in omega (arith, rw (← e) at q)) in
      t.bytes_same i (block_field s g b i v) (beyond s g b (table_blocks c s) i (λ u. o'.table-chain b (rw t.table_of u) m) v) (link (stream_blocks c s k)) (link (surplus_of c s 0 (length r')))
      (λ q a u e. let z : b ≡ home q = one_block s g b (home q) i v (rw e (home_inside q)) in
      n (rw z (home_kept q u (rw (← z) m))))

  -- ---- both

  pub pulled : Pulled c c'
  pulled = record {
    kept = λ b m i v far. kept b (rw (root_is) at (holds_read b (stream_blocks c' (shape_of c') 0) m)) i v (λ q l. far q (rw (size_is) l));
    freed = λ b m i v l. freed b (rw (chain_is) at (holds_read b (chain c' (shape_of c')) m.0)) (λ u. m.1 (holds_in b (chain c s) u)) i v l;
  }
    where
      root_is : stream_blocks c' (shape_of c') 0 ≡ stream_blocks c' s 0
      root_is = ap (λ (z : Shape). stream_blocks c' z 0) t.shape_is

      chain_is : chain c' (shape_of c') ≡ chain c' s
      chain_is = ap (λ (z : Shape). chain c' z) t.shape_is

      size_is : (stream c' (shape_of c') 0).size ≡ length r'
      size_is = ap (λ (z : Shape). (stream c' z 0).size) t.shape_is ∙ sym (length-stream c' s 0) ∙ ap length t.root_bytes
