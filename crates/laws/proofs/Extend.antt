-- The table is lengthened by one descriptor, which is zeroed.
use mathlib.Core.Path.{◌≡◌, refl, sym, ap, ◌∙◌}
use mathlib.Core.Logic.{◌≢◌, ◌⊎◌, inl, inr}
use mathlib.Core.List.{List, [], ◌++◌}
use Prim.Native.Nat.{ℕ, zero, suc, ◌+◌, ◌-◌, ◌*◌, ◌/◌, ◌%◌, ◌≤◌, ◌<◌}
use native.Mathlib.Nat.{mod-lt, div-lt_iff_lt-mul}
use native.Mathlib.Decide.{ℕ_discrete}
use native.Mathlib.Omega.{arith}
use lib.ListN.{length, get_or, take, drop, replicate, length-take, take-append-drop}
use Rattle.layout.specs.Limits.{most_streams}
use Rattle.layout.specs.Bytes.{over, end8}
use Rattle.layout.specs.Pyramid.{P}
use Rattle.layout.specs.Blocks.{fan, node, first_free, next, chain, Grown, grown}
use Rattle.layout.specs.Streams.{data_of, data_for, data_at, fields, spot, tall, table, table_bytes, offset, desc_of, first_desc, desc_chain, in_table, table_set, table_lengthened, stream, table_blocks}
use Rattle.layout.specs.declared.Desc.{Desc}
use Rattle.laws.proofs.ByteLaws.{num_agree, num-over, over_out, length_over}
use Rattle.laws.proofs.Lists.{In}
use Rattle.laws.proofs.Joins.{total_has}
use Rattle.laws.proofs.Levels.{P-mono, one-top, up_covers, div_is}
use Rattle.laws.proofs.Frame.{SameIn, frame_pyramid, frame_contents}
use Rattle.laws.proofs.Links.{links_same}
use Rattle.laws.proofs.Chain.{Good, same_next}
use Rattle.laws.proofs.Hanging.{NotField, Beyond, header_beyond, two}
use Rattle.laws.proofs.Longer.{Longer}
use Rattle.laws.proofs.Laying.{contents-at}
use Rattle.laws.proofs.Others.{Kept}
use Rattle.laws.proofs.Bones.{frame_skeleton, skeleton_out}
use Rattle.laws.proofs.Descs.{desc_agree, desc_away, desc_put, length_fields, blank, zeros-at}
use Rattle.laws.proofs.Lives.{lives_in}
use Rattle.laws.proofs.Frees.{Frees}
use Rattle.laws.proofs.Parts.{Own, own_of, blocks, text, cost, Parts, Step, step-parts, step_keeps, grow, grow-longer}
use Rattle.laws.proofs.State.{slots_of, lives_of, own, owners, Core, length-table, right_fits}
use Rattle.laws.proofs.Heads.{NotTable}
use Rattle.laws.proofs.Cores.{P-has, core_good, count-few, small-reserved, core_frees, owner_table, owner_stream}
use Rattle.laws.proofs.InTable.{InTable, in_table_lem}
use Rattle.laws.proofs.Moves.{data_at_lem}
use Rattle.laws.proofs.Adding.{Described, retabled, Added, described}
use Rattle.layout.specs.declared.Shape.{Shape}

-- ---- the header's descriptor is changed: no block is

module _ (c c' : List ℕ) (s : Shape) (g : Good s) (long : length c' ≡ length c) (same : (i : ℕ) → NotTable s i → get_or c' i 0 ≡ get_or c i 0) where
  all_same : (b : ℕ) → SameIn s c c' b
  all_same b i p q = same i (omega (arith, g.desc, g.header))

  pub header_keeps : (top d size : ℕ) → size ≤ d * s.size → Kept s c c' top d size
  header_keeps top d size fits = record {
    blocks = frame_pyramid s (two s g) c c' top d (λ b i. all_same b);
    bytes = frame_contents s (two s g) c c' top d size fits (λ b i. all_same b);
  }

  pub header_parts : (ks : List ℕ) (w : ℕ → Own) (free : List ℕ) → Parts c s ks w free → Parts c' s ks w free
  header_parts ks w free p = record {
    room = record {
      long = rw long p.room.long;
      links = rw (num_agree 8 c' c s.first (λ i a b. same i (omega (arith, g.field)))) (links_same (next c s) (next c' s) (first_free c s) free p.room.links (λ x i. same_next s g c c' x (all_same x)));
      low = p.room.low;
      apart = p.room.apart;
    };
    fits = p.fits;
    bones = λ k i. frame_skeleton s (two s g) c c' (w k).top (w k).d free free (λ b m. all_same b) (p.bones k i)
        (skeleton_out s (two s g) c (w k).top (w k).d free (p.bones k i));
    apart = λ k k' i i' n b m m'. p.apart k k' i i' n b (rw (header_keeps (w k).top (w k).d (w k).size (p.fits k i)).blocks at m) (rw (header_keeps (w k').top (w k').d (w k').size (p.fits k' i')).blocks at m');
    once = p.once;
    sum = p.sum;
  }

-- ---- the table grows, its descriptor is set, and 25 zeros are laid

module _ (c : List ℕ) (s : Shape) (w : Core c s) (none : desc_chain (table_bytes c s) ≡ []) (few : slots_of c s < most_streams)
    (enough : P (fan s) (data_at s (table c s) ((table c s).size + 25)) ≤ P (fan s) (data_of s (table c s)) + length (chain c s)) where
  abbrev n : ℕ
  n = slots_of c s

  abbrev size : ℕ
  size = (table c s).size + 25

  abbrev d : ℕ
  d = data_of s (table c s)

  abbrev D : ℕ
  D = data_at s (table c s) size

  abbrev gr : Grown
  gr = grown c s (table c s).top d (D - d)

  abbrev o : Own
  o = record { top = gr.top; d = D; size = size }

  abbrev many : ℕ
  many = P (fan s) D - P (fan s) d

  abbrev xs : List ℕ
  xs = take many (chain c s)

  abbrev rest : List ℕ
  rest = drop many (chain c s)

  abbrev ks : List ℕ
  ks = owners c s

  abbrev own₁ : ℕ → Own
  own₁ = retabled (own c s) o

  abbrev g : Good s
  g = core_good c s w

  abbrev ca : List ℕ
  ca = gr.card

  abbrev cb : List ℕ
  cb = table_set ca s size gr.top D

  abbrev c₁ : List ℕ
  c₁ = in_table (table_lengthened c s) s (offset n) (replicate 25 0)

  abbrev tb : List ℕ
  tb = table_bytes c s

  wanted : D ≡ data_for s size
  wanted = data_at_lem s g (table c s) w.right size (omega arith)

  holds : size ≤ D * s.size
  holds = rw wanted (up_covers s.size (omega (arith, g.wide)) size)

  as_many : P (fan s) D ≡ P (fan s) d + length xs
  as_many = rw length-take (omega (arith, P-mono (fan s) (two s g) d D (omega arith)))

  cut : Parts c s ks (own c s) (xs ++ rest)
  cut = rw (take-append-drop many (chain c s)) w.parts

  others_stay : (j : ℕ) → In j ks → j ≢ 0 → own₁ j ≡ own c s j
  others_stay zero i e = absurd (e refl)
  others_stay (suc j) i e = refl

  lg : Longer s c (table c s).top d D xs rest gr
  lg = grow-longer s g c ks (own c s) own₁ 0 xs rest cut (owner_table c s w) D size (omega arith) as_many holds

  sa : Step s c ca ks (own c s) own₁ 0 xs (chain c s) rest
  sa = rw (take-append-drop many (chain c s)) at (grow s g c ks (own c s) own₁ 0 xs rest cut (owner_table c s w) D size (omega arith) as_many holds refl others_stay)

  pa : Parts ca s ks own₁ rest
  pa = step-parts s g c ca ks (own c s) own₁ 0 xs (chain c s) rest w.parts sa

  -- ---- the header

  fits : D ≤ s.count
  fits =
      let a = total_has (λ j. cost s (own₁ j)) 0 ks (owner_table c s w) in
      omega (arith, P-has (fan s) (two s g) D, pa.sum)

  top-low : gr.top < s.count
  unfolding node
  top-low = elim (ℕ_discrete D 0) [
    | yes e ↦ absurd (omega (arith, rw e at holds))
    | no u ↦ lg.bones.low 0 (tall s D) 0 (omega arith) (omega (arith, one-top (fan s) (two s g) D (omega arith)))
  ]

  cb_same : (i : ℕ) → NotTable s i → get_or cb i 0 ≡ get_or ca i 0
  unfolding table_set
  cb_same i h = over_out ca s.table (fields s size gr.top D) i (λ a b. h a (omega (arith, length_fields s size gr.top D)))

  cb_long : length cb ≡ length ca
  unfolding table_set
  cb_long = length_over ca s.table (fields s size gr.top D)

  cb_is : table_lengthened c s ≡ cb
  unfolding table_lengthened
  cb_is = refl

  head_a : (i : ℕ) → i < s.base → NotField s i → get_or ca i 0 ≡ get_or c i 0
  head_a i l m = sa.rest-same i m (header_beyond s xs i l) (header_beyond s (blocks c s (own c s 0)) i l)

  long-a : s.table + 24 ≤ length ca
  long-a = omega (arith, sa.long, g.desc, g.header, w.parts.room.long)

  table-b : table cb s ≡ record { size = size; top = gr.top; reserved = D * s.size; flags = 0 }
  unfolding table_set table
  table-b = desc_put s ca s.table size gr.top D long-a (omega (arith, small-reserved c s w D fits, holds)) (omega (arith, top-low, count-few c s w)) (small-reserved c s w D fits)
      ∙ ap {B = Desc} (λ (f : ℕ). record { size = size; top = gr.top; reserved = D * s.size; flags = f })
      (ap (λ (t : Desc). t.flags) (desc_agree ca c s.table (λ i a b. head_a i (omega (arith, g.desc, g.header)) (omega (arith, g.field)))) ∙ w.right.flags)

  data_is : D * s.size / s.size ≡ D
  data_is = div_is {r = 0} (omega arith) (omega (arith, g.wide))

  own_b : own_of s (table cb s) ≡ o
  own_b = ap (own_of s) table-b ∙ ap {B = Own} (λ (x : ℕ). record { top = gr.top; d = x; size = size }) data_is

  pb : Parts cb s ks own₁ rest
  pb = header_parts ca cb s g cb_long cb_same ks own₁ rest pa

  size-b : (table cb s).size ≡ size
  size-b = ap (λ (t : Desc). t.size) table-b

  sc : InTable cb c₁ s ks own₁ rest (over (table_bytes cb s) (offset n) (replicate 25 0))
  sc = rw cb_is (in_table_lem s g cb ks own₁ rest pb (owner_table c s w) (sym own_b) (offset n) (replicate 25 0) (omega (arith, size-b, w.size)))

  -- ---- the table's bytes

  abbrev tb₂ : List ℕ
  tb₂ = over (table_bytes cb s) (offset n) (replicate 25 0)

  long-b : length (table_bytes cb s) ≡ size
  long-b = length-table cb s ∙ size-b

  front : (q : ℕ) → q < (table c s).size → get_or (table_bytes cb s) q 0 ≡ get_or tb q 0
  unfolding table_bytes
  front q l =
      let j : q / s.size < d = (div-lt_iff_lt-mul {k = s.size} (omega (arith, g.wide))).1 (omega (arith, right_fits s g (table c s) w.right)) in
      let m : q % s.size < s.size = mod-lt q (omega (arith, g.wide)) in
      let e : text cb s (own_of s (table cb s)) ≡ text ca s o = ap (text cb s) own_b ∙ (header_keeps ca cb s g cb_long cb_same gr.top D size holds).bytes in
      rw e (contents-at ca s gr.top D size q (omega arith)
      ∙ rw (lg.stay (q / s.size) j) (lg.same (q / s.size) j (spot c s (table c s).top (tall s d) q) (omega arith) (omega arith))
      ∙ sym (contents-at c s (table c s).top d (table c s).size q l))

  others : (k : ℕ) → k < n → desc_of tb₂ k ≡ desc_of tb k
  unfolding desc_of
  others k l = desc_away (table_bytes cb s) (offset n) (replicate 25 0) (offset k) (inl (omega arith))
      ∙ desc_agree (table_bytes cb s) tb (offset k) (λ i a b. front i (omega (arith, w.size)))

  mine : desc_of tb₂ n ≡ blank
  unfolding desc_of
  mine = zeros-at (table_bytes cb s) (offset n) (omega (arith, long-b, w.size))

  first : first_desc tb₂ ≡ first_desc tb
  first = num-over 8 (table_bytes cb s) (offset n) (replicate 25 0) 0 (omega arith) ∙ num_agree 8 (table_bytes cb s) tb 0 (λ i a b. front i (omega (arith, w.size)))

  table₁ : table c₁ s ≡ record { size = size; top = gr.top; reserved = D * s.size; flags = 0 }
  table₁ = sc.table_is ∙ table-b

  size₁ : (table c₁ s).size ≡ size
  size₁ = ap (λ (t : Desc). t.size) table₁

  pub extended-slots : slots_of c₁ s ≡ suc (slots_of c s)
  extended-slots = omega (arith, length-table c₁ s, size₁, w.size)

  frees₁ : Frees tb₂ (suc n) []
  frees₁ =
      let f : Frees tb n [] = rw none at (core_frees c s w) in
      record {
        links = first ∙ f.links;
        once = tt;
        gone = λ x i. absurd i;
        all = λ k l e. elim (ℕ_discrete k n) [
          | yes u ↦ absurd (alive (rw u at e))
          | no u ↦ (let l' : k < n = omega arith in f.all k l' (sym (ap (λ (t : Desc). t.top) (others k l')) ∙ e))
        ];
      }
    where
      alive : (desc_of tb₂ n).top ≢ end8
      alive e = let z = ap (λ (t : Desc). t.top) mine in omega arith

  from_b : (b : ℕ) → In b (table_blocks cb s) → In b (table_blocks c s) ⊎ In b xs
  unfolding table_blocks
  from_b b m =
      let e : blocks cb s (own_of s (table cb s)) ≡ blocks ca s o = ap (blocks cb s) own_b ∙ (header_keeps ca cb s g cb_long cb_same gr.top D size holds).blocks in
      sa.from b (rw e at m)

  rest₁ : (i : ℕ) → NotField s i → NotTable s i → Beyond s xs i → Beyond s (table_blocks c s) i → get_or c₁ i 0 ≡ get_or c i 0
  unfolding table_blocks
  rest₁ i a t b m = sc.rest-same i a (λ x k. elim (from_b x k) [ inl u ↦ m x u | inr u ↦ b x u ]) ∙ cb_same i t ∙ sa.rest-same i a b m

  kept₁ : (k : ℕ) → In k (lives_of c s) → Kept s c c₁ (own c s (suc k)).top (own c s (suc k)).d (own c s (suc k)).size
  kept₁ k i =
      let a = step_keeps s g c ca ks (own c s) own₁ 0 xs (chain c s) rest w.parts sa (suc k) (owner_stream c s w k i) (omega arith) in
      let b = header_keeps ca cb s g cb_long cb_same (own c s (suc k)).top (own c s (suc k)).d (own c s (suc k)).size (w.parts.fits (suc k) (owner_stream c s w k i)) in
      let e = sc.kept k (owner_stream c s w k i) in
      record { blocks = e.blocks ∙ b.blocks ∙ a.blocks; bytes = e.bytes ∙ b.bytes ∙ a.bytes }

  added : Added c c₁ s n xs rest [] o
  unfolding stream
  added = record {
    more = omega (arith, extended-slots);
    inside = λ k l m. omega (arith, extended-slots);
    range = omega (arith, extended-slots);
    fresh = λ i. (let r = lives_in tb n i in omega (arith, r.0));
    others = λ k l m. rw sc.bytes_is (others k l);
    mine = rw sc.bytes_is mine;
    size = omega (arith, size₁, extended-slots, w.size);
    few = omega (arith, extended-slots);
    right = rw table₁ (record { flags = refl; reserved = ap (λ (x : ℕ). x * s.size) wanted; fits = rw data_is fits });
    frees = rw (extended-slots, sc.bytes_is) frees₁;
    owner = ap (own_of s) sc.table_is ∙ own_b;
    parts = sc.parts;
    kept = kept₁;
    from = λ b m. from_b b (rw sc.blocks_is at m);
    long = sc.long ∙ cb_long ∙ sa.long;
    rest-same = rest₁;
  }

  pub extended : Described c c₁ s n xs rest
  extended = described c c₁ s w n xs rest [] o added
