-- A descriptor of a stream with no bytes is put first on the descriptors' chain.
use mathlib.Core.Path.{◌≡◌, refl, sym, ap, ◌∙◌, subst}
use mathlib.Core.Logic.{◌≢◌, inl, inr}
use mathlib.Core.List.{List, ◌∷◌, ◌++◌, map}
use Prim.Native.Nat.{ℕ, zero, suc, ◌+◌, ◌^◌, ◌≤◌, ◌<◌}
use native.Mathlib.Decide.{ℕ_discrete, dec_lt}
use native.Mathlib.Omega.{arith}
use lib.ListN.{length, get_or}
use Rattle.layout.specs.Bytes.{num, bytes, over, put, end8}
use Rattle.layout.specs.Blocks.{chain}
use Rattle.layout.specs.Streams.{data_of, table_bytes, offset, slots, desc_of, first_desc, desc_chain, in_table, stream, stream_bytes, table_blocks, stream_blocks}
use Rattle.layout.specs.declared.Desc.{Desc}
use Rattle.laws.proofs.ByteLaws.{num-put-same, length-bytes, length_over}
use Rattle.laws.proofs.Lists.{In, in_map, map_in}
use Rattle.laws.proofs.Levels.{up-zero}
use Rattle.laws.proofs.Chain.{Good, room-chain}
use Rattle.laws.proofs.Hanging.{NotField, Beyond, header_beyond}
use Rattle.laws.proofs.Descs.{desc_away, desc_size, desc_two, length_two}
use Rattle.laws.proofs.Lives.{lives_in, in_lives}
use Rattle.laws.proofs.Frees.{Frees, links_small, frees_push}
use Rattle.laws.proofs.Parts.{own_of, blocks, text, Parts, parts_own, parts-drop, parts_same}
use Rattle.laws.proofs.State.{slots_of, lives_of, own, owners, Right, Form, Core, owners_distinct, right_data}
use Rattle.laws.proofs.Cores.{core_good, length_core, core_frees, owner_table, owner_stream, core_of}
use Rattle.laws.proofs.InTable.{InTable, in_table_lem, in_table_then}
use Rattle.layout.specs.declared.Shape.{Shape}

-- descriptor j is free now
pub record Undescribed (c c₁ : List ℕ) (s : Shape) (j : ℕ) : Type 0 where
  pub core : Core c₁ s
  pub gone : In j (lives_of c₁ s) → ⊥
  pub rest : (k : ℕ) → In k (lives_of c s) → k ≢ j → In k (lives_of c₁ s)
  pub only : (k : ℕ) → In k (lives_of c₁ s) → In k (lives_of c s)
  pub chain_is : chain c₁ s ≡ chain c s
  pub slots_is : slots_of c₁ s ≡ slots_of c s
  pub descs : (k : ℕ) → In k (lives_of c s) → k ≢ j → stream c₁ s k ≡ stream c s k
  pub blocks_of_lem : (k : ℕ) → In k (lives_of c s) → k ≢ j → stream_blocks c₁ s k ≡ stream_blocks c s k
  pub bytes_of : (k : ℕ) → In k (lives_of c s) → k ≢ j → stream_bytes c₁ s k ≡ stream_bytes c s k
  pub table_of : table_blocks c₁ s ≡ table_blocks c s
  pub long : length c₁ ≡ length c
  pub rest-same : (i : ℕ) → NotField s i → Beyond s (table_blocks c s) i → get_or c₁ i 0 ≡ get_or c i 0

module _ (c : List ℕ) (s : Shape) (w : Core c s) (j : ℕ) (lj : In j (lives_of c s)) (not_root : 0 ≢ j) (none : (stream c s j).size ≡ 0) where
  abbrev tb : List ℕ
  tb = table_bytes c s

  abbrev old : ℕ
  old = first_desc tb

  abbrev fields : List ℕ
  fields = bytes 8 old ++ bytes 8 end8

  abbrev tb₁ : List ℕ
  tb₁ = over tb (offset j) fields

  abbrev tb₂ : List ℕ
  tb₂ = over tb₁ 0 (bytes 8 (offset j))

  abbrev c₀ : List ℕ
  c₀ = in_table c s (offset j) fields

  abbrev c₁ : List ℕ
  c₁ = in_table c₀ s 0 (bytes 8 (offset j))

  abbrev g : Good s
  g = core_good c s w

  frees : Frees tb (slots tb) (desc_chain tb)
  frees = core_frees c s w

  range : j < slots tb
  range = (lives_in tb j lj).0

  room_for : offset j + 16 ≤ length tb
  room_for = omega (arith, length_core c s w, range)

  length_fields : length fields ≡ 16
  length_fields = length_two tb (offset j) old end8 room_for

  small : old < 256 ^ 8
  small = omega (arith, links_small tb (slots tb) old (desc_chain tb) (omega (arith, w.few)) frees.links frees.gone)

  table_step : InTable c c₁ s (owners c s) (own c s) (chain c s) tb₂
  table_step =
      let i = owner_table c s w in
      let a = in_table_lem s g c (owners c s) (own c s) (chain c s) w.parts i refl (offset j) fields (omega (arith, length_fields, w.size, range)) in
      let t = a.table_is in
      let a₂ = in_table_lem s g c₀ (owners c s) (own c s) (chain c s) a.parts i (ap (own_of s) (sym t)) 0 (bytes 8 (offset j)) (rw t (omega (arith, length-bytes 8 (offset j), w.size))) in
      in_table_then s g c c₀ c₁ (owners c s) (own c s) (chain c s) tb₁ tb₂ a (rw a.bytes_is at a₂)

  others : (k : ℕ) → k ≢ j → desc_of tb₂ k ≡ desc_of tb k
  unfolding desc_of
  others k n =
      desc_away tb₁ 0 (bytes 8 (offset j)) (offset k) (inr (omega (arith, length-bytes 8 (offset j))))
      ∙ desc_away tb (offset j) fields (offset k) (elim (dec_lt k j) [ yes a ↦ inl (omega arith) | no a ↦ inr (omega (arith, length_fields)) ])

  mine : desc_of tb₂ j ≡ record { size = old; top = end8; reserved = (desc_of tb j).reserved; flags = (desc_of tb j).flags }
  unfolding desc_of
  mine = desc_away tb₁ 0 (bytes 8 (offset j)) (offset j) (inr (omega (arith, length-bytes 8 (offset j)))) ∙ desc_two tb (offset j) old end8 room_for small (omega arith)

  first : first_desc tb₂ ≡ offset j
  first = unfold put in num-put-same 8 tb₁ 0 (offset j) (omega (arith, range, w.few)) (rw length_over (omega (arith, length_core c s w)))

  link : num 8 tb₂ (offset j) ≡ old
  unfolding desc_of
  link = sym (desc_size tb₂ (offset j)) ∙ ap (λ (d : Desc). d.size) mine

  -- it had no blocks
  right : Right s (stream c s j)
  right = (w.forms j range).alive (unfold stream in (lives_in tb j lj).1)

  no_data : data_of s (stream c s j) ≡ 0
  no_data = right_data s g (stream c s j) right ∙ rw none (up-zero s.size (omega (arith, g.wide)))

  blanks : ((stream c s j).reserved ≡ 0) × ((stream c s j).flags ≡ 0)
  blanks = (right.reserved ∙ rw (none, up-zero s.size (omega (arith, g.wide))) (omega arith), right.flags)

  desc₁ : (k : ℕ) → k ≢ j → stream c₁ s k ≡ stream c s k
  unfolding stream
  desc₁ k n = rw table_step.bytes_is (others k n)

  mine₁ : stream c₁ s j ≡ record { size = old; top = end8; reserved = (stream c s j).reserved; flags = (stream c s j).flags }
  unfolding stream
  mine₁ = rw table_step.bytes_is mine

  slots₁ : slots_of c₁ s ≡ slots tb
  slots₁ = rw (table_step.bytes_is, length_over tb₁ 0 (bytes 8 (offset j)), length_over tb (offset j) fields)

  gone : In j (lives_of c₁ s) → ⊥
  unfolding stream
  gone i = (lives_in (table_bytes c₁ s) j i).1 (ap (λ (d : Desc). d.top) mine₁)

  not_j : (k : ℕ) → In k (lives_of c₁ s) → k ≢ j
  not_j k i e = gone (subst (λ (x : ℕ). In x (lives_of c₁ s)) e i)

  rest : (k : ℕ) → In k (lives_of c s) → k ≢ j → In k (lives_of c₁ s)
  unfolding stream
  rest k i n = let r = lives_in tb k i in in_lives (table_bytes c₁ s) k (rw slots₁ r.0) (rw (desc₁ k n) r.1)

  only : (k : ℕ) → In k (lives_of c₁ s) → In k (lives_of c s)
  unfolding stream
  only k i = let r = lives_in (table_bytes c₁ s) k i in in_lives tb k (rw slots₁ at r.0) (rw (desc₁ k (not_j k i)) at r.1)

  own₁ : (k : ℕ) → In k (owners c₁ s) → own c₁ s k ≡ own c s k
  unfolding owners
  own₁ zero i = ap (own_of s) table_step.table_is
  own₁ (suc k) (inl e) = absurd (omega arith)
  own₁ (suc k) (inr i) =
      let r = map_in suc (suc k) (lives_of c₁ s) i in
      let e : k ≡ r.0 = omega (arith, r.2) in
      ap (own_of s) (desc₁ k (not_j k (rw e r.1)))

  parts₁ : Parts c₁ s (owners c₁ s) (own c₁ s) (chain c s)
  unfolding owners
  parts₁ =
      let q = parts_same c₁ s (owners c s) (own c s) (chain c s) (suc j ∷ owners c₁ s) table_step.parts (fresh, owners_distinct c₁ s) to fro in
      let p = parts-drop c₁ s (owners c₁ s) (own c s) (chain c s) g (suc j) no_data none q in
      parts_own c₁ s (owners c₁ s) (own c s) (own c₁ s) (chain c s) own₁ p
    where
      fresh : In (suc j) (owners c₁ s) → ⊥
      fresh (inl e) = omega arith
      fresh (inr i) = let r = map_in suc (suc j) (lives_of c₁ s) i in gone (let e : r.0 ≡ j = omega (arith, r.2) in subst (λ (x : ℕ). In x (lives_of c₁ s)) e r.1)

      to : (k : ℕ) → In k (suc j ∷ owners c₁ s) → In k (owners c s)
      to k (inl e) = inr (subst (λ (x : ℕ). In x (map suc (lives_of c s))) (sym e) (in_map suc j (lives_of c s) lj))
      to k (inr (inl e)) = inl e
      to k (inr (inr i)) = let r = map_in suc k (lives_of c₁ s) i in inr (subst (λ (x : ℕ). In x (map suc (lives_of c s))) (sym r.2) (in_map suc r.0 (lives_of c s) (only r.0 r.1)))

      fro : (k : ℕ) → In k (owners c s) → In k (suc j ∷ owners c₁ s)
      fro k (inl e) = inr (inl e)
      fro k (inr i) = let r = map_in suc k (lives_of c s) i in elim (ℕ_discrete r.0 j) [
        | yes e ↦ inl (r.2 ∙ ap suc e)
        | no n ↦ inr (inr (subst (λ (x : ℕ). In x (map suc (lives_of c₁ s))) (sym r.2) (in_map suc r.0 (lives_of c₁ s) (rest r.0 r.1 n))))
      ]

  form₁ : (k : ℕ) → k < slots_of c₁ s → Form s (stream c₁ s k)
  form₁ k l = elim (ℕ_discrete k j) [
    | yes e ↦ rw (e, mine₁) (record { alive = λ n. absurd (n refl); empty = λ n. absurd (n refl); free = λ u. blanks })
    | no n ↦ rw (desc₁ k n) (w.forms k (rw slots₁ at l))
  ]

  core₁ : Core c₁ s
  core₁ = core_of c s w c₁ (offset j ∷ desc_chain tb) (chain c s) table_step.long (λ i l n m. table_step.rest-same i n (header_beyond s (table_blocks c s) i l))
      (ap (λ (d : Desc). d.size) table_step.table_is ∙ w.size ∙ sym (ap offset slots₁)) (rw slots₁ w.some) (rw slots₁ w.few) (rw table_step.table_is w.right) form₁
      (rw (slots₁, table_step.bytes_is) (frees_push tb tb₂ (slots tb) j range (λ k l n. others k n) (desc_chain tb) frees (lives_in tb j lj).1 first (omega (arith, range, w.few)) link (ap (λ (d : Desc). d.top) mine)))
      (rw (desc₁ 0 not_root) w.root) parts₁

  pub undescribe : Undescribed c c₁ s j
  unfolding stream_bytes stream_blocks
  undescribe = record {
    core = core₁;
    gone = gone;
    rest = rest;
    only = only;
    chain_is = room-chain c₁ s (chain c s) parts₁.room (omega (arith, parts₁.sum));
    slots_is = slots₁;
    descs = λ k i n. desc₁ k n;
    blocks_of_lem = λ k i n. ap (λ (d : Desc). blocks c₁ s (own_of s d)) (desc₁ k n) ∙ (table_step.kept k (owner_stream c s w k i)).blocks;
    bytes_of = λ k i n. ap (λ (d : Desc). text c₁ s (own_of s d)) (desc₁ k n) ∙ (table_step.kept k (owner_stream c s w k i)).bytes;
    table_of = table_step.blocks_is;
    long = table_step.long;
    rest-same = table_step.rest-same;
  }
