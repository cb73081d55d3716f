-- On a card that passes its check the tests for room say what the definitions ask.
use mathlib.Core.Path.{◌≡◌}
use mathlib.Core.Logic.{◌≢◌, inl, inr}
use mathlib.Core.Bool.{not}
use mathlib.Core.List.{List, [], ◌∷◌}
use Prim.Native.Nat.{ℕ, zero, suc, ◌*◌, min, ◌≤◌, ◌<◌}
use native.Mathlib.Nat.{mul-le-mul_right}
use native.Mathlib.Decide.{dec_le, ℕ_discrete}
use native.Mathlib.Omega.{arith}
use lib.ListN.{length}
use lib.Dec.{leb, ltb}
use Rattle.layout.specs.Limits.{most_streams}
use Rattle.layout.specs.Bytes.{num, end8, run}
use Rattle.layout.specs.Blocks.{fan, walk, next, first_free, chain, enough}
use Rattle.layout.specs.Streams.{data_for, data_at, wants, table_bytes, offset, slots, live, lives, first_desc, desc_chain, stream}
use Rattle.laws.proofs.Picks.{leb_yes, leb_no, eqb_yes, eqb_no}
use Rattle.laws.proofs.Lists.{In, in_run, run_in, length_run, run-distinct}
use Rattle.laws.proofs.Joins.{total_has}
use Rattle.laws.proofs.Levels.{up_covers}
use Rattle.laws.proofs.Hanging.{two}
use Rattle.laws.proofs.Parts.{cost}
use Rattle.laws.proofs.Sets.{distinct_le}
use Rattle.laws.proofs.Links.{Links}
use Rattle.laws.proofs.Frees.{Frees}
use Rattle.laws.proofs.Lives.{lives_in, in_lives, lives-distinct, those-few}
use Rattle.laws.proofs.State.{lives_of, own, owners, Core}
use Rattle.laws.proofs.Cores.{P-has, core_good, core_frees, owner_stream}
use Rattle.acts.specs.Full.{full_table}
use Rattle.layout.specs.declared.Shape.{Shape}

-- ---- whether so many blocks are free

walk_many : (n : ℕ) (next : ℕ → ℕ) (b : ℕ) (xs : List ℕ) → Links next b xs → length (walk n next b) ≡ min n (length xs)
unfolding walk
walk_many zero next b xs l = omega arith
walk_many (suc n) next b [] l = rw (eqb_yes l) (omega arith)
walk_many (suc n) next b (x ∷ xs) l = let h = walk_many n next (next x) xs l.2 in rw (eqb_no l.1, l.0) (omega arith)

module _ (c : List ℕ) (s : Shape) (w : Core c s) where
  pub enough_is : (n : ℕ) → not (enough c s n) ≡ ltb (length (chain c s)) n
  unfolding enough
  enough_is n =
      let e = walk_many n (next c s) (first_free c s) (chain c s) w.parts.room.links in
      elim (dec_le n (length (chain c s))) [
        | yes h ↦ rw (leb_yes {a = n} {b = length (walk n (next c s) (first_free c s))} (omega arith), leb_no {a = suc (length (chain c s))} {b = n} (omega arith))
        | no h ↦ rw (leb_no {a = n} {b = length (walk n (next c s) (first_free c s))} (omega arith), leb_yes {a = suc (length (chain c s))} {b = n} (omega arith))
      ]

  -- more bytes than all blocks hold find no room
  pub too_long : (k : ℕ) → In k (lives_of c s) → (n : ℕ) → s.count * s.size < n → length (chain c s) < wants s (stream c s k) n
  too_long k i n h =
      let g = core_good c s w in
      let D = data_at s (stream c s k) n in
      let many : s.count < data_for s n = elim (dec_le (data_for s n) s.count) [
        | yes l ↦ absurd (omega (arith, up_covers s.size (omega (arith, g.wide)) n, mul-le-mul_right s.size l))
        | no l ↦ omega arith
      ] in
      omega (arith, P-has (fan s) (two s g) D, total_has (λ k. cost s (own c s k)) (suc k) (owners c s) (owner_stream c s w k i), w.parts.sum)

-- ---- whether the table can take no more streams

module _ (c : List ℕ) (s : Shape) (w : Core c s) where
  abbrev tb : List ℕ
  tb = table_bytes c s

  abbrev frees : Frees tb (slots tb) (desc_chain tb)
  frees = core_frees c s w

  none_on : (o : ℕ) (xs : List ℕ) → Links (num 8 tb) o xs → o ≡ end8 → (x : ℕ) → In x xs → ⊥
  none_on o [] l e x i = elim i [ ]
  none_on o (y ∷ xs) l e x i = l.1 e

  -- a chain with no link: all live
  all_live : first_desc tb ≡ end8 → slots tb ≤ length (lives tb)
  all_live e = rw length_run at (distinct_le (run 0 (slots tb)) (lives tb) (run-distinct 0 (slots tb)) (λ k i.
      let l : k < slots tb = omega (arith, run_in 0 (slots tb) k i) in
      in_lives tb k l (λ z. none_on (first_desc tb) (desc_chain tb) frees.links e (offset k) (frees.all k l z))))

  -- one with a link: one of them is not
  one_on : (o : ℕ) (xs : List ℕ) → Links (num 8 tb) o xs → o ≢ end8 → In o xs
  one_on o [] l n = absurd (n l)
  one_on o (x ∷ xs) l n = inl l.0

  one_less : first_desc tb ≢ end8 → length (lives tb) < slots tb
  one_less n =
      let r = frees.gone (first_desc tb) (one_on (first_desc tb) (desc_chain tb) frees.links n) in
      rw length_run at (distinct_le (r.0 ∷ lives tb) (run 0 (slots tb)) (λ i. (lives_in tb r.0 i).1 r.2, lives-distinct tb)
      (λ k i. elim i [ inl z ↦ in_run 0 (slots tb) k (omega arith) (omega (arith, r.1)) | inr j ↦ in_run 0 (slots tb) k (omega arith) (omega (arith, (lives_in tb k j).0)) ]))

  few-live : length (lives tb) ≤ slots tb
  unfolding lives
  few-live = rw length_run at (those-few (live tb) (run 0 (slots tb)))

  pub full_is : full_table tb ≡ leb most_streams (length (lives tb))
  full_is = elim (ℕ_discrete (first_desc tb) end8) [
    | yes e ↦ (let n : length (lives tb) ≡ slots tb = omega (arith, all_live e, few-live) in rw (eqb_yes e, n))
    | no n ↦ rw (eqb_no n, leb_no {a = most_streams} {b = length (lives tb)} (omega (arith, one_less n, w.few)))
  ]
