-- What shortening a stream changes, byte by byte: the first-free field, its descriptor, and a link in each block given back. No byte of a block that it keeps.
use mathlib.Core.Path.{◌≡◌, sym, ap, ◌∙◌}
use mathlib.Core.List.{List, [], ◌++◌}
use Prim.Native.Nat.{ℕ, suc, ◌+◌, ◌/◌, ◌≤◌, ◌<◌}
use native.Mathlib.Nat.{div-lt_iff_lt-mul}
use native.Mathlib.Omega.{arith}
use lib.ListN.{length, get_or}
use Rattle.layout.specs.Pyramid.{level}
use Rattle.layout.specs.Blocks.{chain, node, rising, given_back, lowered_top}
use Rattle.layout.specs.Streams.{data_of, data_for, fields, spot, tall, table, table_bytes, offset, stream, desc_set, shortened}
use Rattle.layout.specs.declared.Desc.{Desc}
use Rattle.laws.proofs.Lists.{In}
use Rattle.laws.proofs.Levels.{up_covers}
use Rattle.laws.proofs.Chain.{Good, Room}
use Rattle.laws.proofs.Hanging.{NotField, header_beyond}
use Rattle.laws.proofs.GiveBack.{NotLink, given_else}
use Rattle.laws.proofs.Growth.{Skeleton}
use Rattle.laws.proofs.Shorter.{gone_low, gone_out, stays}
use Rattle.laws.proofs.Descs.{length_fields}
use Rattle.laws.proofs.Lives.{lives_in}
use Rattle.laws.proofs.Parts.{Own, own_of, blocks, Step, step-parts, step-spot, give}
use Rattle.laws.proofs.State.{lives_of, own, owners, Core, right_data, right_fits}
use Rattle.laws.proofs.Cores.{core_good, owner_table, owner_stream}
use Rattle.laws.proofs.InTable.{table_spot, table_agree, in_table_else}
use Rattle.laws.proofs.Edits.{NotDesc, moved, moved_same, moved_other}
use Rattle.laws.proofs.Moves.{data_mono, stream_right, gives_all}
use Rattle.demands.proofs.Spares.{surplus_of}
use Rattle.layout.specs.declared.Shape.{Shape}

module _ (c : List ℕ) (s : Shape) (w : Core c s) (k : ℕ) (lk : In k (lives_of c s)) (n : ℕ) (less : n ≤ (stream c s k).size) where
  abbrev g : Good s
  g = core_good c s w

  abbrev d : ℕ
  d = data_of s (stream c s k)

  abbrev gone : List ℕ
  gone = surplus_of c s k n

  abbrev c₁ : List ℕ
  c₁ = given_back c s gone

  -- where it is then
  abbrev o : Own
  o = record { top = lowered_top c s (stream c s k).top d (data_for s n); d = data_for s n; size = n }

  abbrev own₁ : ℕ → Own
  own₁ = moved (own c s) k o

  abbrev free : List ℕ
  free = rising s.count 0 gone ++ chain c s

  here : In (suc k) (owners c s)
  here = owner_stream c s w k lk

  fewer : data_for s n ≤ d
  fewer = omega (arith, right_data s g (stream c s k) (stream_right c s w k lk), data_mono s g n (stream c s k).size less)

  st : Step s c c₁ (owners c s) (own c s) own₁ (suc k) [] (chain c s) free
  unfolding surplus_of
  st = give s g c (owners c s) (own c s) (suc k) (chain c s) w.parts here own₁ (data_for s n) n fewer (up_covers s.size (omega (arith, g.wide)) n)
      (moved_same (own c s) k o) (λ j i m. moved_other (own c s) k o j m)

  table₁ : table c₁ s ≡ table c s
  table₁ = table_agree c c₁ s g (λ i l m. st.rest-same i m (header_beyond s [] i l) (header_beyond s (blocks c s (own c s (suc k))) i l))

  spots₁ : (q : ℕ) → q < (table c s).size → table_spot c₁ s q ≡ table_spot c s q
  spots₁ q l = ap (λ (t : Desc). spot c₁ s t.top (tall s (data_of s t)) q) table₁
      ∙ step-spot s g c c₁ (owners c s) (own c s) own₁ (suc k) [] (chain c s) free w.parts st 0 (owner_table c s w) (omega arith) q (omega (arith, right_fits s g (table c s) w.right))

  -- ---- the blocks given back

  room : Room c s (chain c s)
  room = w.parts.room

  bones : Skeleton c s (stream c s k).top (tall s d) d (chain c s)
  bones = w.parts.bones (suc k) here

  -- they are blocks of the card
  pub cut_low : (b : ℕ) → In b gone → b < s.count
  unfolding surplus_of
  cut_low = gone_low s g c (stream c s k).top d (data_for s n) (chain c s) room bones fewer

  pub cut_out : (b : ℕ) → In b gone → In b (chain c s) → ⊥
  unfolding surplus_of
  cut_out = gone_out s g c (stream c s k).top d (data_for s n) (chain c s) room bones fewer

  -- none of them has a byte that is kept
  pub cut_stays : (q : ℕ) → q < n → In (node c s (stream c s k).top (tall s d) (q / s.size)) gone → ⊥
  unfolding surplus_of level
  cut_stays q l =
      let j : q / s.size < data_for s n = (div-lt_iff_lt-mul {k = s.size} (omega (arith, g.wide))).1 (omega (arith, up_covers s.size (omega (arith, g.wide)) n)) in
      stays s g c (stream c s k).top d (data_for s n) (chain c s) room bones fewer (tall s d) 0 (q / s.size) (omega arith) (omega arith) j

  pub cut_else : (i : ℕ) → NotField s i → NotLink s gone i → NotDesc c s k i → get_or (shortened c s k n) i 0 ≡ get_or c i 0
  unfolding shortened desc_set surplus_of
  cut_else i a b e =
      let fs = fields s n o.top o.d in
      let lf = length_fields s n o.top o.d in
      let inside : offset k + length fs ≤ (table c s).size = omega (arith, w.size, (lives_in (table_bytes c s) k lk).0) in
      let p₁ = step-parts s g c c₁ (owners c s) (own c s) own₁ (suc k) [] (chain c s) free w.parts st in
      rw (gives_all c s w k lk n less) (in_table_else s g c₁ (owners c s) own₁ free p₁ (owner_table c s w) (ap (own_of s) (sym table₁)) (offset k) fs (rw table₁ inside) i
      (λ m l u. e m (omega arith) (u ∙ spots₁ (offset k + m) (omega arith)))
      ∙ given_else s g c (chain c s) gone room cut_low cut_out i a b)
