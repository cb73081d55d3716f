-- A stream edited: the table keeps all bytes but those of the stream's descriptor.
use mathlib.Core.Path.{◌≡◌, sym, ap, ◌∙◌}
use mathlib.Core.List.{List, []}
use Prim.Native.Nat.{ℕ, suc, ◌+◌, ◌*◌, ◌/◌, ◌≤◌, ◌<◌}
use native.Mathlib.Nat.{div-lt_iff_lt-mul}
use native.Mathlib.Omega.{arith}
use lib.ListN.{get_or}
use Rattle.layout.specs.Pyramid.{level}
use Rattle.layout.specs.Blocks.{chain, node}
use Rattle.layout.specs.Streams.{data_of, tall, table, table_bytes, offset, stream_blocks, table_blocks}
use Rattle.laws.proofs.Lists.{In}
use Rattle.laws.proofs.Frame.{Inside, in_pyramid}
use Rattle.laws.proofs.Hanging.{Beyond, two, block_field, beyond}
use Rattle.laws.proofs.Growth.{Skeleton}
use Rattle.laws.proofs.Laying.{contents-at, spot-inside, spot_apart}
use Rattle.laws.proofs.Bones.{skeleton_out}
use Rattle.laws.proofs.Lives.{lives_in}
use Rattle.laws.proofs.State.{lives_of, Core, right_fits}
use Rattle.laws.proofs.Cores.{core_good, owner_table, owner_stream}
use Rattle.laws.proofs.InTable.{table_spot}
use Rattle.laws.proofs.Edits.{NotDesc, Edit}
use Rattle.layout.specs.declared.Shape.{Shape}

table_at : (c : List ℕ) (s : Shape) (q : ℕ) → q < (table c s).size → get_or (table_bytes c s) q 0 ≡ get_or c (table_spot c s q) 0
unfolding table_bytes
table_at c s q l = contents-at c s (table c s).top (data_of s (table c s)) (table c s).size q l

module _ (c c' : List ℕ) (s : Shape) (w : Core c s) (k : ℕ) (lk : In k (lives_of c s)) (now xs free : List ℕ) (e : Edit c c' s k now xs free)
    (taken : (b : ℕ) → In b xs → In b (chain c s)) (q : ℕ) (l : q < (table c s).size) (away : offset k ≤ q → q < offset k + 24 → ⊥) where
  abbrev top : ℕ
  top = (table c s).top

  abbrev d : ℕ
  d = data_of s (table c s)

  fits : (table c s).size ≤ d * s.size
  fits = right_fits s (core_good c s w) (table c s) w.right

  bones : Skeleton c s top (tall s d) d (chain c s)
  bones = w.parts.bones 0 (owner_table c s w)

  -- the block that byte q of the table is in
  abbrev b : ℕ
  b = node c s top (tall s d) (q / s.size)

  in_table_lem : In b (table_blocks c s)
  unfolding table_blocks level
  in_table_lem = in_pyramid s (two s (core_good c s w)) c top d (tall s d) 0 (q / s.size) (omega arith)
      ((div-lt_iff_lt-mul {k = s.size} (omega (arith, (core_good c s w).wide))).1 (omega (arith, fits)))

  inside : Inside s b (table_spot c s q)
  inside = spot-inside s (core_good c s w) c top (tall s d) d 0 [] (chain c s) w.parts.room bones q

  -- no byte of the descriptor stands there
  apart : NotDesc c s k (table_spot c s q)
  apart n m u =
      let z = spot_apart s (core_good c s w) c top (tall s d) d 0 [] (chain c s) w.parts.room bones q (offset k + n) (omega (arith, fits))
      (omega (arith, fits, w.size, (lives_in (table_bytes c s) k lk).0)) u in
      away (omega arith) (omega arith)

  pub table_kept : get_or (table_bytes c' s) q 0 ≡ get_or (table_bytes c s) q 0
  unfolding table_blocks stream_blocks
  table_kept =
      let g = core_good c s w in
      let size : (table c' s).size ≡ (table c s).size = e.core.size ∙ ap offset e.slots_is ∙ sym w.size in
      let free_of_lem : Beyond s xs (table_spot c s q) = beyond s g b xs (table_spot c s q) (λ i. skeleton_out s (two s g) c top d (chain c s) bones b in_table_lem (taken b i)) inside in
      let apart_of : Beyond s (stream_blocks c s k) (table_spot c s q) = beyond s g b (stream_blocks c s k) (table_spot c s q)
      (w.parts.apart 0 (suc k) (owner_table c s w) (owner_stream c s w k lk) (omega arith) b in_table_lem) inside in
      table_at c' s q (omega arith) ∙ ap (λ (i : ℕ). get_or c' i 0) (e.spots q l)
      ∙ e.rest-same (table_spot c s q) (block_field s g b (table_spot c s q) inside) free_of_lem apart_of apart
      ∙ sym (table_at c s q l)
