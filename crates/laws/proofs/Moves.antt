-- The three ways in which a stream changes: bytes laid in it, more of it, less of it.
use mathlib.Core.Path.{◌≡◌, refl, sym, ap, ◌∙◌}
use mathlib.Core.Logic.{◌≢◌, inl}
use mathlib.Core.List.{List, [], ◌++◌}
use Prim.Native.Nat.{ℕ, zero, suc, ◌+◌, ◌-◌, ◌*◌, ◌/◌, ◌%◌, ◌≤◌, ◌<◌}
use native.Mathlib.Nat.{mod-lt, div-lt_iff_lt-mul}
use native.Mathlib.Omega.{arith}
use lib.ListN.{length, get_or, take, drop, length-take, take-append-drop}
use lib.Seq.{ext_get_or, get_or-take}
use Rattle.layout.specs.Bytes.{over, separate}
use Rattle.layout.specs.Pyramid.{level, height, P}
use Rattle.layout.specs.Blocks.{fan, node, chain, surplus, rising, Grown, grown, given_back, released, lowered_top}
use Rattle.layout.specs.Streams.{data_of, data_for, spot, tall, contents, table, table_bytes, stream, stream_bytes, in_stream, data_at, lengthened, shortened, table_blocks, stream_blocks}
use Rattle.layout.specs.declared.Desc.{Desc}
use Rattle.laws.proofs.Picks.{eqb_yes, is_true}
use Rattle.laws.proofs.Tests.{is_separate}
use Rattle.laws.proofs.Lists.{In}
use Rattle.laws.proofs.Levels.{level_mono, height_mono, up_covers, P-mono}
use Rattle.laws.proofs.Chain.{Good}
use Rattle.laws.proofs.Hanging.{NotField, header_beyond, two}
use Rattle.laws.proofs.Shorter.{shorter-same, shorter-node, stays, gone_low}
use Rattle.laws.proofs.Bones.{surplus-distinct}
use Rattle.laws.proofs.Laying.{contents-at, length-contents}
use Rattle.laws.proofs.Rows.{contents-laid}
use Rattle.laws.proofs.Others.{Kept}
use Rattle.laws.proofs.Lives.{lives_in}
use Rattle.laws.proofs.Parts.{Own, own_of, blocks, text, Parts, Step, step-parts, step_keeps, step-spot, lay, give, grow, grow-longer, parts_own}
use Rattle.laws.proofs.State.{lives_of, own, owners, Right, Form, Core, right_data, right_fits}
use Rattle.laws.proofs.Cores.{core_good, owner_table, owner_stream}
use Rattle.laws.proofs.InTable.{table_agree}
use Rattle.laws.proofs.Edits.{Edit, moved, moved_same, moved_other, Redescribed, slots_same, lives-same, core_again, chain_again, redescribe}
use Rattle.layout.specs.declared.Shape.{Shape}

-- more bytes want no fewer data blocks
pub data_mono : (s : Shape) → Good s → (a b : ℕ) → a ≤ b → data_for s a ≤ data_for s b
data_mono s g a b h = unfold level in level_mono s.size (omega (arith, g.wide)) 1 a b h

-- where reserved is right, a longer stream has the data blocks that it wants
pub data_at_lem : (s : Shape) → Good s → (t : Desc) → Right s t → (n : ℕ) → t.size ≤ n → data_at s t n ≡ data_for s n
data_at_lem s g t r n h = omega (arith, right_data s g t r, data_mono s g t.size n h)

module _ (c : List ℕ) (s : Shape) (w : Core c s) (k : ℕ) (lk : In k (lives_of c s)) where
  abbrev g : Good s
  g = core_good c s w

  abbrev ks : List ℕ
  ks = owners c s

  abbrev here : In (suc k) (owners c s)
  here = owner_stream c s w k lk

  abbrev old : Own
  old = own c s (suc k)

  pub stream_right : Right s (stream c s k)
  unfolding stream
  stream_right = let r = lives_in (table_bytes c s) k lk in unfold stream in (w.forms k r.0).alive r.1

  -- ---- not at all

  pub unchanged : Edit c c s k (stream_bytes c s k) [] (chain c s)
  unchanged = record {
    core = w;
    mine = refl;
    chain_is = refl;
    first_is = refl;
    slots_is = refl;
    lives_is = refl;
    blocks_of_lem = λ j i n. refl;
    bytes_of = λ j i n. refl;
    table_of = refl;
    from = λ b m. inl m;
    spots = λ q l. refl;
    long = refl;
    rest-same = λ i a b m d. refl;
  }

  -- ---- in place

  module _ (p : ℕ) (vs : List ℕ) (fits : p + length vs ≤ (stream c s k).size) where
    abbrev c' : List ℕ
    c' = in_stream c s k p vs

    within : (stream c s k).size ≤ data_of s (stream c s k) * s.size
    within = right_fits s g (stream c s k) stream_right

    st : Step s c c' ks (own c s) (own c s) (suc k) [] (chain c s) (chain c s)
    unfolding in_stream
    st = lay s g c ks (own c s) (suc k) (chain c s) w.parts here p vs (omega (arith, within))

    kept : (j : ℕ) → In j ks → j ≢ suc k → Kept s c c' (own c s j).top (own c s j).d (own c s j).size
    kept = step_keeps s g c c' ks (own c s) (own c s) (suc k) [] (chain c s) (chain c s) w.parts st

    head : (i : ℕ) → i < s.base → NotField s i → get_or c' i 0 ≡ get_or c i 0
    head i l n = st.rest-same i n (header_beyond s [] i l) (header_beyond s (blocks c s old) i l)

    table_is : table c' s ≡ table c s
    table_is = table_agree c c' s g head

    bytes_is : table_bytes c' s ≡ table_bytes c s
    unfolding table_bytes
    bytes_is = ap (λ (t : Desc). text c' s (own_of s t)) table_is ∙ (kept 0 (owner_table c s w) (omega arith)).bytes

    desc_is : (j : ℕ) → stream c' s j ≡ stream c s j
    unfolding stream
    desc_is j = rw bytes_is

    red : Redescribed (table_bytes c s) (table_bytes c' s) k
    red = rw bytes_is (record {
      long = refl;
      first = refl;
      others = λ j l n. refl;
      lived = (lives_in (table_bytes c s) k lk).1;
      alive = (lives_in (table_bytes c s) k lk).1;
    })

    form : Form s (stream c' s k)
    form = rw (desc_is k) (w.forms k (lives_in (table_bytes c s) k lk).0)

    own_is : (j : ℕ) → In j ks → own c' s j ≡ own c s j
    own_is zero i = ap (own_of s) table_is
    own_is (suc j) i = ap (own_of s) (desc_is j)

    parts : Parts c' s ks (own c' s) (chain c s)
    parts = parts_own c' s ks (own c s) (own c' s) (chain c s) own_is (step-parts s g c c' ks (own c s) (own c s) (suc k) [] (chain c s) (chain c s) w.parts st)

    pub written : Edit c c' s k (over (stream_bytes c s k) p vs) [] (chain c s)
    unfolding stream_bytes stream_blocks table_blocks in_stream
    written = record {
      core = core_again c c' s k w lk st.long head red form (chain c s) parts;
      mine = ap (λ (t : Desc). text c' s (own_of s t)) (desc_is k)
          ∙ contents-laid s g c old.top old.d old.size p vs (chain c s) w.parts.room (w.parts.bones (suc k) here) within fits;
      chain_is = chain_again c c' s k w lk st.long head red form (chain c s) parts;
      first_is = red.first;
      slots_is = slots_same (table_bytes c s) (table_bytes c' s) k red;
      lives_is = lives-same (table_bytes c s) (table_bytes c' s) k red;
      blocks_of_lem = λ j i n. ap (λ (t : Desc). blocks c' s (own_of s t)) (desc_is j) ∙ (kept (suc j) (owner_stream c s w j i) (omega arith)).blocks;
      bytes_of = λ j i n. ap (λ (t : Desc). text c' s (own_of s t)) (desc_is j) ∙ (kept (suc j) (owner_stream c s w j i) (omega arith)).bytes;
      table_of = ap (λ (t : Desc). blocks c' s (own_of s t)) table_is ∙ (kept 0 (owner_table c s w) (omega arith)).blocks;
      from = λ b m. st.from b (rw (ap (λ (t : Desc). blocks c' s (own_of s t)) (desc_is k)) at m);
      spots = λ q l. ap (λ (t : Desc). spot c' s t.top (tall s (data_of s t)) q) table_is
          ∙ step-spot s g c c' ks (own c s) (own c s) (suc k) [] (chain c s) (chain c s) w.parts st 0 (owner_table c s w) (omega arith) q (omega (arith, right_fits s g (table c s) w.right));
      long = st.long;
      rest-same = λ i a b m d. st.rest-same i a b m;
    }

  -- ---- longer

  module _ (size : ℕ) (more : (stream c s k).size < size) (enough : P (fan s) (data_at s (stream c s k) size) ≤ P (fan s) (data_of s (stream c s k)) + length (chain c s)) where
    abbrev d : ℕ
    d = data_of s (stream c s k)

    abbrev D : ℕ
    D = data_at s (stream c s k) size

    abbrev pub grew : Grown
    grew = grown c s (stream c s k).top d (D - d)

    abbrev pub o : Own
    o = record { top = grew.top; d = D; size = size }

    abbrev many : ℕ
    many = P (fan s) D - P (fan s) d

    abbrev xs : List ℕ
    xs = take many (chain c s)

    abbrev rest : List ℕ
    rest = drop many (chain c s)

    wanted : D ≡ data_for s size
    wanted = data_at_lem s g (stream c s k) stream_right size (omega arith)

    up_d : d ≤ D
    up_d = omega arith

    holds : size ≤ D * s.size
    holds = rw wanted (up_covers s.size (omega (arith, g.wide)) size)

    as_many : P (fan s) D ≡ P (fan s) d + length xs
    as_many = rw length-take (omega (arith, P-mono (fan s) (two s g) d D up_d))

    cut : Parts c s ks (own c s) (xs ++ rest)
    cut = rw (take-append-drop many (chain c s)) w.parts

    steps : Step s c grew.card ks (own c s) (moved (own c s) k o) (suc k) xs (chain c s) rest
    steps = rw (take-append-drop many (chain c s)) at (grow s g c ks (own c s) (moved (own c s) k o) (suc k) xs rest cut here D size up_d as_many holds (moved_same (own c s) k o) (λ j i n. moved_other (own c s) k o j n))

    -- the old bytes are where they were
    pub grown_text : (q : ℕ) → q < (stream c s k).size → get_or (text grew.card s o) q 0 ≡ get_or (stream_bytes c s k) q 0
    unfolding stream_bytes
    grown_text q l =
        let lg = grow-longer s g c ks (own c s) (moved (own c s) k o) (suc k) xs rest cut here D size up_d as_many holds in
        let j : q / s.size < d = (div-lt_iff_lt-mul {k = s.size} (omega (arith, g.wide))).1 (omega (arith, right_fits s g (stream c s k) stream_right)) in
        let m : q % s.size < s.size = mod-lt q (omega (arith, g.wide)) in
        contents-at grew.card s grew.top D size q (omega arith)
        ∙ rw (lg.stay (q / s.size) j) (lg.same (q / s.size) j (spot c s old.top (tall s old.d) q) (omega arith) (omega arith))
        ∙ sym (contents-at c s old.top old.d old.size q l)

    pub lengthen : Edit c (lengthened c s k size) s k (text grew.card s o) xs rest
    unfolding lengthened
    lengthen = redescribe c s w k lk o grew.card xs rest steps wanted (λ e. absurd (omega (arith, rw e at holds)))

  -- ---- shorter

  module _ (size : ℕ) (less : size ≤ (stream c s k).size) where
    abbrev e : ℕ
    e = data_of s (stream c s k)

    abbrev e' : ℕ
    e' = data_for s size

    abbrev pub gone : List ℕ
    gone = surplus c s (stream c s k).top e e'

    abbrev o' : Own
    o' = record { top = lowered_top c s (stream c s k).top e e'; d = e'; size = size }

    fewer : e' ≤ e
    fewer = omega (arith, right_data s g (stream c s k) stream_right, data_mono s g size (stream c s k).size less)

    holds' : size ≤ e' * s.size
    holds' = up_covers s.size (omega (arith, g.wide)) size

    gives : Step s c (given_back c s gone) ks (own c s) (moved (own c s) k o') (suc k) [] (chain c s) (rising s.count 0 gone ++ chain c s)
    gives = give s g c ks (own c s) (suc k) (chain c s) w.parts here (moved (own c s) k o') e' size fewer holds' (moved_same (own c s) k o') (λ j i n. moved_other (own c s) k o' j n)

    no_top : e' ≡ 0 → lowered_top c s (stream c s k).top e e' ≡ 0
    unfolding lowered_top
    no_top z = rw (eqb_yes {a = e'} {b = 0} z)

    short-byte : (q : ℕ) → q < size → get_or (given_back c s gone) (spot (given_back c s gone) s o'.top (tall s e') q) 0 ≡ get_or c (spot c s old.top (tall s old.d) q) 0
    unfolding level
    short-byte q l =
        let j : q / s.size < e' = (div-lt_iff_lt-mul {k = s.size} (omega (arith, g.wide))).1 (omega (arith, holds')) in
        let m : q % s.size < s.size = mod-lt q (omega (arith, g.wide)) in
        let some : 1 ≤ e' = omega arith in
        let room = w.parts.room in
        let sk = w.parts.bones (suc k) here in
        let h = height_mono (fan s) (two s g) e' e fewer in
        let up : height (fan s) e - height (fan s) e' + height (fan s) e' ≡ height (fan s) e = omega arith in
        let same = shorter-node s g c old.top e e' (chain c s) room sk fewer some (height (fan s) e') 0 (q / s.size) (omega arith) j in
        rw (same, up) (shorter-same s g c old.top e e' (chain c s) room sk fewer (node c s old.top (height (fan s) e) (q / s.size))
        (stays s g c old.top e e' (chain c s) room sk fewer (height (fan s) e) 0 (q / s.size) (omega arith) (omega arith) j)
        (spot c s old.top (tall s old.d) q) (omega arith) (omega arith))

    short_text : text (given_back c s gone) s o' ≡ take size (stream_bytes c s k)
    unfolding stream_bytes
    short_text = ext_get_or 0 _ _
        (length-contents (given_back c s gone) s o'.top e' size ∙ sym (length-take size (contents c s old.top old.d old.size) ∙ rw length-contents (omega arith)))
        (λ q l. let l' : q < size = rw length-contents at l in
        contents-at (given_back c s gone) s o'.top e' size q l' ∙ short-byte q l'
        ∙ sym (get_or-take size (contents c s old.top old.d old.size) q 0 l' ∙ contents-at c s old.top old.d old.size q (omega arith)))

    pub gives_all : released c s gone ≡ given_back c s gone
    unfolding released
    gives_all =
        let room = w.parts.room in
        let sk = w.parts.bones (suc k) here in
        rw (is_true (separate s.count gone) ((is_separate s.count gone).back
        (gone_low s g c old.top e e' (chain c s) room sk fewer, surplus-distinct s (two s g) c old.top e e' (chain c s) sk)))

    pub shorten : Edit c (shortened c s k size) s k (take size (stream_bytes c s k)) [] (rising s.count 0 gone ++ chain c s)
    unfolding shortened
    shorten = rw (gives_all, ← short_text) (redescribe c s w k lk o' (given_back c s gone) [] (rising s.count 0 gone ++ chain c s) gives refl no_top)
