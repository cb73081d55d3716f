-- One stream changed, with its descriptor: the card keeps rules 1 to 7, and no other stream changes.
use mathlib.Core.Path.{◌≡◌, refl, sym, ap, ◌∙◌, subst}
use mathlib.Core.Logic.{◌≢◌, ◌⊎◌, inl, inr}
use mathlib.Core.Bool.{not}
use mathlib.Core.List.{List, ◌++◌}
use Prim.Native.Nat.{ℕ, zero, suc, ◌+◌, ◌*◌, ◌/◌, ◌%◌, ◌^◌, ◌≤◌, ◌<◌}
use native.Mathlib.Nat.{mod-lt, div-lt_iff_lt-mul}
use native.Mathlib.Decide.{ℕ_discrete, dec_lt}
use native.Mathlib.Omega.{arith}
use lib.ListN.{length, get_or}
use lib.Dec.{eqb}
use Rattle.layout.specs.Bytes.{pick, over, end8}
use Rattle.layout.specs.Pyramid.{level}
use Rattle.layout.specs.Blocks.{fan, node, chain}
use Rattle.layout.specs.Streams.{data_of, data_for, fields, spot, tall, table, table_bytes, offset, slots, desc_of, lives, dead, live, first_desc, desc_chain, desc_set, stream, stream_bytes, table_blocks, stream_blocks}
use Rattle.layout.specs.declared.Desc.{Desc}
use Rattle.laws.proofs.Picks.{eqb_yes, eqb_no, is_true}
use Rattle.laws.proofs.ByteLaws.{num-over, length_over}
use Rattle.laws.proofs.Lists.{In, in_left, in_right, run_in}
use Rattle.laws.proofs.Joins.{total_has}
use Rattle.laws.proofs.Levels.{one-top, div_is}
use Rattle.laws.proofs.Frame.{in_pyramid}
use Rattle.laws.proofs.Chain.{Good, room-chain}
use Rattle.laws.proofs.Hanging.{NotField, Beyond, header_beyond, two}
use Rattle.laws.proofs.Growth.{Skeleton}
use Rattle.laws.proofs.Others.{Kept}
use Rattle.laws.proofs.Descs.{length_fields, desc_put, desc_away}
use Rattle.laws.proofs.Lives.{is_live, lives_in, those_agree}
use Rattle.laws.proofs.Frees.{frees_keep}
use Rattle.laws.proofs.Parts.{Own, own_of, blocks, text, cost, Parts, Step, step-parts, step_keeps, step-spot, parts_own}
use Rattle.laws.proofs.State.{slots_of, lives_of, own, owners, Form, Core, right_fits}
use Rattle.laws.proofs.Cores.{P-has, core_good, count-few, count-some, small-reserved, length_core, core_frees, owner_table, owner_stream, core_of}
use Rattle.laws.proofs.InTable.{table_spot, table_agree, InTable, in_table_lem, in_table_else}
use Rattle.layout.specs.declared.Shape.{Shape}

-- byte i is in no field of stream k's descriptor
abbrev pub NotDesc : List ℕ → Shape → ℕ → ℕ → Type 0
NotDesc c s k i = (n : ℕ) → n < 24 → i ≢ table_spot c s (offset k + n)

-- stream k holds `now`, and the chain is `free`; xs are the blocks taken
pub record Edit (c c' : List ℕ) (s : Shape) (k : ℕ) (now xs free : List ℕ) : Type 0 where
  pub core : Core c' s
  pub mine : stream_bytes c' s k ≡ now
  pub chain_is : chain c' s ≡ free
  pub first_is : first_desc (table_bytes c' s) ≡ first_desc (table_bytes c s)
  pub slots_is : slots_of c' s ≡ slots_of c s
  pub lives_is : lives_of c' s ≡ lives_of c s
  pub blocks_of_lem : (j : ℕ) → In j (lives_of c s) → j ≢ k → stream_blocks c' s j ≡ stream_blocks c s j
  pub bytes_of : (j : ℕ) → In j (lives_of c s) → j ≢ k → stream_bytes c' s j ≡ stream_bytes c s j
  pub table_of : table_blocks c' s ≡ table_blocks c s
  pub from : (b : ℕ) → In b (stream_blocks c' s k) → In b (stream_blocks c s k) ⊎ In b xs
  pub spots : (q : ℕ) → q < (table c s).size → table_spot c' s q ≡ table_spot c s q
  pub long : length c' ≡ length c
  pub rest-same : (i : ℕ) → NotField s i → Beyond s xs i → Beyond s (stream_blocks c s k) i → NotDesc c s k i → get_or c' i 0 ≡ get_or c i 0

-- ---- a stream that moved

-- stream k is where o says
abbrev pub moved : (ℕ → Own) → ℕ → Own → ℕ → Own
moved w k o zero = w zero
moved w k o (suc j) = pick (eqb j k) o (w (suc j))

pub moved_same : (w : ℕ → Own) (k : ℕ) (o : Own) → moved w k o (suc k) ≡ o
moved_same w k o = rw (eqb_yes {a = k} refl)

pub moved_other : (w : ℕ → Own) (k : ℕ) (o : Own) (j : ℕ) → j ≢ suc k → moved w k o j ≡ w j
moved_other w k o zero n = refl
moved_other w k o (suc j) n = rw (eqb_no {a = j} {b = k} (λ e. n (ap suc e)))

-- ---- a table in which descriptor k alone changed, and lived before and after

pub record Redescribed (t t' : List ℕ) (k : ℕ) : Type 0 where
  pub long : length t' ≡ length t
  pub first : first_desc t' ≡ first_desc t
  pub others : (j : ℕ) → j < slots t → j ≢ k → desc_of t' j ≡ desc_of t j
  pub lived : (desc_of t k).top ≢ end8
  pub alive : (desc_of t' k).top ≢ end8

module _ (t t' : List ℕ) (k : ℕ) (r : Redescribed t t' k) where
  pub slots_same : slots t' ≡ slots t
  slots_same = rw r.long

  live_same : (j : ℕ) → j < slots t → live t' j ≡ live t j
  live_same j l = elim (ℕ_discrete j k) [
    | yes e ↦ rw e (is_true (live t' k) ((is_live t' k).back r.alive) ∙ sym (is_true (live t k) ((is_live t k).back r.lived)))
    | no n ↦ unfold live dead in ap (λ (d : Desc). not (eqb d.top end8)) (r.others j l n)
  ]

  pub lives-same : lives t' ≡ lives t
  unfolding lives
  lives-same = rw slots_same (those_agree (live t) (live t') _ (λ j i. live_same j (omega (arith, run_in 0 (slots t) j i))))

-- ---- the card then

module _ (c c' : List ℕ) (s : Shape) (k : ℕ) (w : Core c s) (lk : In k (lives_of c s)) (long : length c' ≡ length c)
    (head : (i : ℕ) → i < s.base → NotField s i → get_or c' i 0 ≡ get_or c i 0) (r : Redescribed (table_bytes c s) (table_bytes c' s) k)
    (form : Form s (stream c' s k)) where
  pub owners_same : owners c' s ≡ owners c s
  unfolding owners
  owners_same = rw (lives-same (table_bytes c s) (table_bytes c' s) k r)

  pub chain_again : (free : List ℕ) → Parts c' s (owners c s) (own c' s) free → chain c' s ≡ free
  chain_again free p = room-chain c' s free p.room (omega (arith, p.sum))

  pub core_again : (free : List ℕ) → Parts c' s (owners c s) (own c' s) free → Core c' s
  unfolding stream
  core_again free p =
      let sl : slots_of c' s ≡ slots_of c s = slots_same (table_bytes c s) (table_bytes c' s) k r in
      let t : table c' s ≡ table c s = table_agree c c' s (core_good c s w) head in
      let range = lives_in (table_bytes c s) k lk in
      core_of c s w c' (desc_chain (table_bytes c s)) free long (λ i l n m. head i l n)
      (ap (λ (d : Desc). d.size) t ∙ w.size ∙ sym (ap offset sl)) (rw sl w.some) (rw sl w.few) (rw t w.right)
      (λ j l. forms j (rw sl at l))
      (rw sl (frees_keep (table_bytes c s) (table_bytes c' s) (slots_of c s) k range.0 r.others (desc_chain (table_bytes c s)) (core_frees c s w) r.first r.lived r.alive))
      root (rw owners_same p)
    where
      forms : (j : ℕ) → j < slots_of c s → Form s (desc_of (table_bytes c' s) j)
      forms j l = elim (ℕ_discrete j k) [ yes e ↦ rw e (unfold stream in form) | no n ↦ rw (r.others j l n) (unfold stream in w.forms j l) ]

      root : (desc_of (table_bytes c' s) 0).top ≢ end8
      root = elim (ℕ_discrete 0 k) [ yes e ↦ subst (λ (x : ℕ). (desc_of (table_bytes c' s) x).top ≢ end8) (sym e) r.alive | no n ↦ rw (r.others 0 w.some n) (unfold stream in w.root) ]

-- ---- a step of stream k, and its descriptor set

module _ (c : List ℕ) (s : Shape) (w : Core c s) (k : ℕ) (lk : In k (lives_of c s)) (o : Own) (c₁ xs free : List ℕ)
    (st : Step s c c₁ (owners c s) (own c s) (moved (own c s) k o) (suc k) xs (chain c s) free)
    (right : o.d ≡ data_for s o.size) (none : o.d ≡ 0 → o.top ≡ 0) where
  abbrev g : Good s
  g = core_good c s w

  abbrev ks : List ℕ
  ks = owners c s

  abbrev own₁ : ℕ → Own
  own₁ = moved (own c s) k o

  abbrev fs : List ℕ
  fs = fields s o.size o.top o.d

  abbrev c₂ : List ℕ
  c₂ = desc_set c₁ s k o.size o.top o.d

  abbrev tb : List ℕ
  tb = table_bytes c s

  p₁ : Parts c₁ s ks own₁ free
  p₁ = step-parts s g c c₁ ks (own c s) own₁ (suc k) xs (chain c s) free w.parts st

  -- the numbers fit
  fits : o.d ≤ s.count
  fits =
      let a = total_has (λ j. cost s (own₁ j)) (suc k) ks st.there in
      let e : cost s (own₁ (suc k)) ≡ cost s o = ap (cost s) (moved_same (own c s) k o) in
      omega (arith, P-has (fan s) (two s g) o.d, p₁.sum)

  small_size : o.size < 256 ^ 8
  small_size = omega (arith, small-reserved c s w o.d fits, rw (moved_same (own c s) k o) at st.fits)

  top-low : o.top < s.count
  unfolding node
  top-low = elim (ℕ_discrete o.d 0) [
    | yes e ↦ omega (arith, none e, count-some c s w)
    | no n ↦ (let b : Skeleton c₁ s o.top (tall s o.d) o.d free = rw (moved_same (own c s) k o) at st.bones in
        b.low 0 (tall s o.d) 0 (omega arith) (omega (arith, one-top (fan s) (two s g) o.d (omega arith))))
  ]

  range : k < slots tb
  range = (lives_in tb k lk).0

  -- the table, after the step
  head₁ : (i : ℕ) → i < s.base → NotField s i → get_or c₁ i 0 ≡ get_or c i 0
  head₁ i l n = st.rest-same i n (header_beyond s xs i l) (header_beyond s (blocks c s (own c s (suc k))) i l)

  table₁ : table c₁ s ≡ table c s
  table₁ = table_agree c c₁ s g head₁

  kept₁ : (j : ℕ) → In j ks → j ≢ suc k → Kept s c c₁ (own c s j).top (own c s j).d (own c s j).size
  kept₁ = step_keeps s g c c₁ ks (own c s) own₁ (suc k) xs (chain c s) free w.parts st

  bytes₁ : table_bytes c₁ s ≡ tb
  unfolding table_bytes
  bytes₁ = ap (λ (t : Desc). text c₁ s (own_of s t)) table₁ ∙ (kept₁ 0 (owner_table c s w) (omega arith)).bytes

  spots₁ : (q : ℕ) → q < (table c s).size → table_spot c₁ s q ≡ table_spot c s q
  spots₁ q l = ap (λ (t : Desc). spot c₁ s t.top (tall s (data_of s t)) q) table₁
      ∙ step-spot s g c c₁ ks (own c s) own₁ (suc k) xs (chain c s) free w.parts st 0 (owner_table c s w) (omega arith) q (omega (arith, right_fits s g (table c s) w.right))

  -- the descriptor is laid
  room_for : offset k + length fs ≤ (table c s).size
  room_for = omega (arith, length_fields s o.size o.top o.d, w.size, range)

  laid₂ : InTable c₁ c₂ s ks own₁ free (over tb (offset k) fs)
  unfolding desc_set
  laid₂ = rw bytes₁ at (in_table_lem s g c₁ ks own₁ free p₁ (owner_table c s w) (ap (own_of s) (sym table₁)) (offset k) fs (rw table₁ room_for))

  head₂ : (i : ℕ) → i < s.base → NotField s i → get_or c₂ i 0 ≡ get_or c i 0
  head₂ i l n = laid₂.rest-same i n (header_beyond s (table_blocks c₁ s) i l) ∙ head₁ i l n

  table₂ : table c₂ s ≡ table c s
  table₂ = laid₂.table_is ∙ table₁

  new_desc : stream c₂ s k ≡ record { size = o.size; top = o.top; reserved = o.d * s.size; flags = (stream c s k).flags }
  unfolding stream desc_of
  new_desc = rw laid₂.bytes_is (desc_put s tb (offset k) o.size o.top o.d (omega (arith, length_core c s w, range)) small_size (omega (arith, top-low, count-few c s w)) (small-reserved c s w o.d fits))

  other_desc : (j : ℕ) → j ≢ k → stream c₂ s j ≡ stream c s j
  unfolding stream desc_of
  other_desc j n = rw laid₂.bytes_is (desc_away tb (offset k) fs (offset j) (elim (dec_lt j k) [
    | yes a ↦ inl (omega arith)
    | no a ↦ inr (omega (arith, length_fields s o.size o.top o.d))
  ]))

  data_is : o.d * s.size / s.size ≡ o.d
  data_is = div_is {r = 0} (omega arith) (omega (arith, g.wide))

  own_new : own_of s (stream c₂ s k) ≡ o
  own_new = ap (own_of s) new_desc ∙ ap {B = Own} (λ (d : ℕ). record { top = o.top; d = d; size = o.size }) data_is

  alive₂ : (stream c₂ s k).top ≢ end8
  alive₂ = rw new_desc (omega (arith, top-low, count-few c s w))

  form₂ : Form s (stream c₂ s k)
  form₂ = rw new_desc (record {
    alive = λ n. record { flags = unfold stream in ((w.forms k range).alive (lives_in tb k lk).1).flags; reserved = ap (λ (d : ℕ). d * s.size) right; fits = rw data_is fits };
    empty = λ n e. none (sym data_is ∙ e);
    free = λ e. absurd (omega (arith, top-low, count-few c s w));
  })

  redescribed : Redescribed tb (table_bytes c₂ s) k
  unfolding stream
  redescribed = record {
    long = rw laid₂.bytes_is (length_over tb (offset k) fs);
    first = rw laid₂.bytes_is (num-over 8 tb (offset k) fs 0 (omega arith));
    others = λ j l n. other_desc j n;
    lived = (lives_in tb k lk).1;
    alive = alive₂;
  }

  own₂ : (j : ℕ) → In j ks → own c₂ s j ≡ own₁ j
  own₂ zero i = ap (own_of s) table₂
  own₂ (suc j) i = elim (ℕ_discrete j k) [
    | yes e ↦ rw e (own_new ∙ sym (moved_same (own c s) k o))
    | no n ↦ ap (own_of s) (other_desc j n) ∙ sym (moved_other (own c s) k o (suc j) (omega arith))
  ]

  parts₂ : Parts c₂ s ks (own c₂ s) free
  parts₂ = parts_own c₂ s ks own₁ (own c₂ s) free own₂ laid₂.parts

  -- the others, from c to c₂
  kept₂ : (j : ℕ) → In j (lives_of c s) → j ≢ k → Kept s c c₂ (own c s (suc j)).top (own c s (suc j)).d (own c s (suc j)).size
  kept₂ j i n =
      let a = kept₁ (suc j) (owner_stream c s w j i) (omega arith) in
      let b : Kept s c₁ c₂ (own c s (suc j)).top (own c s (suc j)).d (own c s (suc j)).size =
      rw (moved_other (own c s) k o (suc j) (omega arith)) at (laid₂.kept j (owner_stream c s w j i)) in
      record { blocks = b.blocks ∙ a.blocks; bytes = b.bytes ∙ a.bytes }

  -- and stream k, from c₁ to c₂
  kept_mine : Kept s c₁ c₂ o.top o.d o.size
  kept_mine = rw (moved_same (own c s) k o) at (laid₂.kept k st.there)

  from₂ : (b : ℕ) → In b (stream_blocks c₂ s k) → In b (stream_blocks c s k) ⊎ In b xs
  unfolding stream_blocks
  from₂ b m =
      let e : blocks c₂ s (own_of s (stream c₂ s k)) ≡ blocks c₁ s o = ap (blocks c₂ s) own_new ∙ kept_mine.blocks in
      st.from b (rw (moved_same (own c s) k o) (rw e at m))

  rest₂ : (i : ℕ) → NotField s i → Beyond s xs i → Beyond s (stream_blocks c s k) i → NotDesc c s k i → get_or c₂ i 0 ≡ get_or c i 0
  unfolding stream_blocks desc_set
  rest₂ i a b m d =
      in_table_else s g c₁ ks own₁ free p₁ (owner_table c s w) (ap (own_of s) (sym table₁)) (offset k) fs (rw table₁ room_for) i
      (λ n l e. d n (omega (arith, length_fields s o.size o.top o.d)) (e ∙ spots₁ (offset k + n) (omega (arith, room_for))))
      ∙ st.rest-same i a b m

  pub redescribe : Edit c c₂ s k (text c₁ s o) xs free
  unfolding stream_bytes stream_blocks table_blocks
  redescribe = record {
    core = core_again c c₂ s k w lk (laid₂.long ∙ st.long) head₂ redescribed form₂ free parts₂;
    mine = ap (text c₂ s) own_new ∙ kept_mine.bytes;
    chain_is = chain_again c c₂ s k w lk (laid₂.long ∙ st.long) head₂ redescribed form₂ free parts₂;
    first_is = redescribed.first;
    slots_is = slots_same tb (table_bytes c₂ s) k redescribed;
    lives_is = lives-same tb (table_bytes c₂ s) k redescribed;
    blocks_of_lem = λ j i n. ap (λ (t : Desc). blocks c₂ s (own_of s t)) (other_desc j n) ∙ (kept₂ j i n).blocks;
    bytes_of = λ j i n. ap (λ (t : Desc). text c₂ s (own_of s t)) (other_desc j n) ∙ (kept₂ j i n).bytes;
    table_of = laid₂.blocks_is ∙ ap (λ (t : Desc). blocks c₁ s (own_of s t)) table₁ ∙ (kept₁ 0 (owner_table c s w) (omega arith)).blocks;
    from = from₂;
    spots = λ q l. laid₂.spots q (rw table₁ l) ∙ spots₁ q l;
    long = laid₂.long ∙ st.long;
    rest-same = rest₂;
  }

-- ---- one edit after the other

pub edit_then : (c c₁ c₂ : List ℕ) (s : Shape) (k : ℕ) (t₁ t₂ xs ys f₁ f₂ : List ℕ) → Core c s → In k (lives_of c s) → Edit c c₁ s k t₁ xs f₁ → Edit c₁ c₂ s k t₂ ys f₂ → Edit c c₂ s k t₂ (xs ++ ys) f₂
edit_then c c₁ c₂ s k t₁ t₂ xs ys f₁ f₂ w lk a b = record {
  core = b.core;
  mine = b.mine;
  chain_is = b.chain_is;
  first_is = b.first_is ∙ a.first_is;
  slots_is = b.slots_is ∙ a.slots_is;
  lives_is = b.lives_is ∙ a.lives_is;
  blocks_of_lem = λ j i n. b.blocks_of_lem j (rw a.lives_is i) n ∙ a.blocks_of_lem j i n;
  bytes_of = λ j i n. b.bytes_of j (rw a.lives_is i) n ∙ a.bytes_of j i n;
  table_of = b.table_of ∙ a.table_of;
  from = λ x m. elim (b.from x m) [
    | inl u ↦ elim (a.from x u) [ inl v ↦ inl v | inr v ↦ inr (in_left x xs ys v) ]
    | inr u ↦ inr (in_right x xs ys u)
  ];
  spots = λ q l. b.spots q (omega (arith, size_is)) ∙ a.spots q l;
  long = b.long ∙ a.long;
  rest-same = λ i n m m' d. b.rest-same i n (λ x u. m x (in_right x xs ys u))
      (λ x u. elim (a.from x u) [ inl v ↦ m' x v | inr v ↦ m x (in_left x xs ys v) ])
      (λ t l e. d t l (e ∙ a.spots (offset k + t) (omega (arith, w.size, (lives_in (table_bytes c s) k lk).0))))
      ∙ a.rest-same i n (λ x u. m x (in_left x xs ys u)) m' d;
}
  where
    size_is : (table c₁ s).size ≡ (table c s).size
    size_is = a.core.size ∙ ap offset a.slots_is ∙ sym w.size

pub edit_free : (c c' : List ℕ) (s : Shape) (k : ℕ) (t xs f : List ℕ) → Edit c c' s k t xs f → Edit c c' s k t xs (chain c' s)
edit_free c c' s k t xs f e = subst (λ (l : List ℕ). Edit c c' s k t xs l) (sym e.chain_is) e

-- a byte in no block of the table is in no descriptor
pub beyond_desc : (c : List ℕ) (s : Shape) (w : Core c s) (k : ℕ) → k < slots_of c s → (i : ℕ) → Beyond s (table_blocks c s) i → NotDesc c s k i
unfolding table_blocks level
beyond_desc c s w k l i tbl n h e =
    let g = core_good c s w in
    let q = offset k + n in
    let d = data_of s (table c s) in
    let j : q / s.size < d = (div-lt_iff_lt-mul {k = s.size} (omega (arith, g.wide))).1 (omega (arith, w.size, right_fits s g (table c s) w.right)) in
    let r : q % s.size < s.size = mod-lt q (omega (arith, g.wide)) in
    tbl (node c s (table c s).top (tall s d) (q / s.size)) (in_pyramid s (two s g) c (table c s).top d (tall s d) 0 (q / s.size) (omega arith) j) (omega arith, omega arith)
