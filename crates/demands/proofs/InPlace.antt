-- Bytes written in place leave the stream's own blocks where they are, and change no byte elsewhere.
use mathlib.Core.Path.{◌≡◌, ap, ◌∙◌}
use mathlib.Core.Logic.{◌≢◌}
use mathlib.Core.List.{List, []}
use Prim.Native.Nat.{ℕ, suc, ◌+◌, ◌*◌, ◌≤◌, ◌<◌}
use native.Mathlib.Omega.{arith}
use lib.ListN.{length, get_or}
use Rattle.layout.specs.Blocks.{chain}
use Rattle.layout.specs.Streams.{data_of, tall, table, table_bytes, stream, in_stream, stream_blocks}
use Rattle.layout.specs.declared.Desc.{Desc}
use Rattle.laws.proofs.Lists.{In}
use Rattle.laws.proofs.Hanging.{header_beyond}
use Rattle.laws.proofs.Laying.{laid_else}
use Rattle.laws.proofs.Parts.{own_of, blocks, text, Step, step_keeps, lay, lay-blocks}
use Rattle.laws.proofs.State.{lives_of, own, owners, Core, right_fits}
use Rattle.laws.proofs.Cores.{core_good, owner_table, owner_stream}
use Rattle.laws.proofs.InTable.{table_agree}
use Rattle.laws.proofs.Moves.{stream_right}
use Rattle.demands.proofs.Spares.{stream_spot}
use Rattle.laws.proofs.Rows.{laid_is}
use Rattle.layout.specs.declared.Shape.{Shape}

module _ (c : List ℕ) (s : Shape) (w : Core c s) (k : ℕ) (lk : In k (lives_of c s)) (p : ℕ) (vs : List ℕ) (fits : p + length vs ≤ (stream c s k).size) where
  abbrev c' : List ℕ
  c' = in_stream c s k p vs

  abbrev ks : List ℕ
  ks = owners c s

  fits' : p + length vs ≤ data_of s (stream c s k) * s.size
  fits' = omega (arith, right_fits s (core_good c s w) (stream c s k) (stream_right c s w k lk))

  st : Step s c c' ks (own c s) (own c s) (suc k) [] (chain c s) (chain c s)
  unfolding in_stream
  st = lay s (core_good c s w) c ks (own c s) (suc k) (chain c s) w.parts (owner_stream c s w k lk) p vs fits'

  table_is : table c' s ≡ table c s
  table_is = table_agree c c' s (core_good c s w) (λ i l n. st.rest-same i n (header_beyond s [] i l) (header_beyond s (blocks c s (own c s (suc k))) i l))

  bytes_is : table_bytes c' s ≡ table_bytes c s
  unfolding table_bytes
  bytes_is = ap (λ (t : Desc). text c' s (own_of s t)) table_is
      ∙ (step_keeps s (core_good c s w) c c' ks (own c s) (own c s) (suc k) [] (chain c s) (chain c s) w.parts st 0 (owner_table c s w) (omega arith)).bytes

  pub in_place : stream_blocks c' s k ≡ stream_blocks c s k
  unfolding stream_blocks stream in_stream
  in_place = rw bytes_is (lay-blocks s (core_good c s w) c ks (own c s) (suc k) (chain c s) w.parts (owner_stream c s w k lk) p vs fits')

  -- only where the bytes go does a byte change
  pub in_place_else : (i : ℕ) → ((q : ℕ) → p ≤ q → q < p + length vs → i ≢ stream_spot c s k q) → get_or c' i 0 ≡ get_or c i 0
  unfolding in_stream
  in_place_else i n =
      let t = stream c s k in
      let h = tall s (data_of s t) in
      let sk = w.parts.bones (suc k) (owner_stream c s w k lk) in
      rw (laid_is s (core_good c s w) c t.top h (data_of s t) p vs (chain c s) w.parts.room sk fits')
      (laid_else s (core_good c s w) c t.top h (data_of s t) p vs (chain c s) w.parts.room sk (length vs) i (λ m l. n (p + m) (omega arith) (omega arith)))
