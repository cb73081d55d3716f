-- A card as streams, each with blocks of its own, and a free chain; and a step that changes one stream.
use mathlib.Core.Path.{◌≡◌, refl, sym, ap, ◌∙◌}
use mathlib.Core.Logic.{◌≢◌, ◌⊎◌, inl, inr}
use mathlib.Core.List.{List, [], ◌∷◌, ◌++◌}
use Prim.Native.Nat.{ℕ, zero, suc, ◌+◌, ◌-◌, ◌*◌, ◌/◌, ◌≤◌, ◌<◌}
use native.Mathlib.Nat.{div-lt_iff_lt-mul}
use native.Mathlib.Decide.{ℕ_discrete}
use native.Mathlib.Omega.{arith}
use lib.ListN.{length, get_or, length-append}
use Rattle.laws.proofs.Lists.{In, Distinct, in_left, in_right, in_either}
use Rattle.laws.proofs.Joins.{total, total_agree, total_change, total_same}
use Rattle.laws.proofs.Sets.{same_many}
use Rattle.layout.specs.Pyramid.{level, height, P}
use Rattle.laws.proofs.Levels.{P-low, level_mono}
use Rattle.layout.specs.Blocks.{fan, node, surplus, pyramid, Grown, grown, given_back, lowered_top, rising}
use Rattle.laws.proofs.Frame.{SameIn, in_pyramid, pyramid_in, frame_pyramid, frame_contents, frame_node}
use Rattle.laws.proofs.Cells.{level_none}
use Rattle.laws.proofs.Chain.{Good, Room}
use Rattle.laws.proofs.Hanging.{NotField, Beyond, two, block_field, beyond}
use Rattle.laws.proofs.Growth.{Skeleton}
use Rattle.laws.proofs.Longer.{Longer, longer}
use Rattle.laws.proofs.GiveBack.{given_else, rising_in}
use Rattle.laws.proofs.Shorter.{shorter-room, shorter_skeleton, shorter-node, surplus_in, gone_low, gone_out, low-enough}
use Rattle.laws.proofs.Counting.{length-surplus, length-pyramid, length-rising}
use Rattle.laws.proofs.Laying.{laid_else, laid-node, laid_skeleton, laid-room, spot-inside, data_in}
use Rattle.laws.proofs.Rows.{laid_is}
use Rattle.laws.proofs.Others.{Kept}
use Rattle.laws.proofs.Lengths.{length-grown, length_given, length-laid}
use Rattle.laws.proofs.Bones.{skeleton_out, skeleton_none, pyramid_nodes, frame_skeleton, surplus-distinct}
use Rattle.layout.specs.Streams.{data_of, tall, spot, contents, laid_to, laid}
use Rattle.layout.specs.declared.Desc.{Desc}
use Rattle.layout.specs.declared.Shape.{Shape}

-- where a stream is
pub record Own : Type 0 where
  pub top : ℕ
  pub d : ℕ
  pub size : ℕ

abbrev pub own_of : Shape → Desc → Own
own_of s t = record { top = t.top; d = data_of s t; size = t.size }

abbrev pub blocks : List ℕ → Shape → Own → List ℕ
blocks c s o = pyramid c s o.top o.d

abbrev pub text : List ℕ → Shape → Own → List ℕ
text c s o = contents c s o.top o.d o.size

abbrev pub cost : Shape → Own → ℕ
cost s o = P (fan s) o.d

-- the streams ks, each where `own` says, and the chain `free`: no block in two of them, and together as many as there are
pub record Parts (c : List ℕ) (s : Shape) (ks : List ℕ) (own : ℕ → Own) (free : List ℕ) : Type 0 where
  pub room : Room c s free
  pub fits : (k : ℕ) → In k ks → (own k).size ≤ (own k).d * s.size
  pub bones : (k : ℕ) → In k ks → Skeleton c s (own k).top (tall s (own k).d) (own k).d free
  pub apart : (k k' : ℕ) → In k ks → In k' ks → k ≢ k' → (b : ℕ) → In b (blocks c s (own k)) → In b (blocks c s (own k')) → ⊥
  pub once : Distinct ks
  pub sum : total (λ k. cost s (own k)) ks + length free ≡ s.count

-- c becomes c': stream k takes the blocks xs, or gives some back
pub record Step (s : Shape) (c c' ks : List ℕ) (own own' : ℕ → Own) (k : ℕ) (xs free free' : List ℕ) : Type 0 where
  pub there : In k ks
  pub others : (j : ℕ) → In j ks → j ≢ k → own' j ≡ own j
  pub room : Room c' s free'
  pub fits : (own' k).size ≤ (own' k).d * s.size
  pub bones : Skeleton c' s (own' k).top (tall s (own' k).d) (own' k).d free'
  pub from : (b : ℕ) → In b (blocks c' s (own' k)) → In b (blocks c s (own k)) ⊎ In b xs
  pub taken : (b : ℕ) → In b xs → In b free
  pub freed : (b : ℕ) → In b free' → In b free ⊎ In b (blocks c s (own k))
  pub sum : cost s (own' k) + length free' ≡ cost s (own k) + length free
  pub rest-same : (i : ℕ) → NotField s i → Beyond s xs i → Beyond s (blocks c s (own k)) i → get_or c' i 0 ≡ get_or c i 0
  pub long : length c' ≡ length c

module _ (s : Shape) (good : Good s) where
  abbrev f2 : 2 ≤ fan s
  f2 = two s good

  -- what a step leaves
  module _ (c c' ks : List ℕ) (own own' : ℕ → Own) (k : ℕ) (xs free free' : List ℕ) (p : Parts c s ks own free) (st : Step s c c' ks own own' k xs free free') where
    step_same : (j : ℕ) → In j ks → j ≢ k → (b : ℕ) → In b (blocks c s (own j)) → SameIn s c c' b
    step_same j i n b m q u v = st.rest-same q (block_field s good b q (u, v))
        (beyond s good b xs q (λ t. skeleton_out s f2 c (own j).top (own j).d free (p.bones j i) b m (st.taken b t)) (u, v))
        (beyond s good b (blocks c s (own k)) q (p.apart j k i st.there n b m) (u, v))

    step_out : (j : ℕ) → In j ks → j ≢ k → (b : ℕ) → In b (blocks c s (own j)) → In b free' → ⊥
    step_out j i n b m t = elim (st.freed b t) [
      | inl a ↦ skeleton_out s f2 c (own j).top (own j).d free (p.bones j i) b m a
      | inr a ↦ p.apart j k i st.there n b m a
    ]

    pub step_keeps : (j : ℕ) → In j ks → j ≢ k → Kept s c c' (own j).top (own j).d (own j).size
    step_keeps j i n = record {
      blocks = frame_pyramid s f2 c c' (own j).top (own j).d (step_same j i n);
      bytes = frame_contents s f2 c c' (own j).top (own j).d (own j).size (p.fits j i) (step_same j i n);
    }

    -- a byte of another stream is where it was
    pub step-spot : (j : ℕ) → In j ks → j ≢ k → (q : ℕ) → q < (own j).d * s.size → spot c' s (own j).top (tall s (own j).d) q ≡ spot c s (own j).top (tall s (own j).d) q
    unfolding level
    step-spot j i n q l = rw (frame_node s f2 c c' (own j).top (own j).d (step_same j i n) (tall s (own j).d) 0 (q / s.size) (omega arith)
        ((div-lt_iff_lt-mul {k = s.size} (omega (arith, good.wide))).1 l))

    step_fits : (j : ℕ) → In j ks → (own' j).size ≤ (own' j).d * s.size
    step_fits j i = elim (ℕ_discrete j k) [ yes e ↦ rw e st.fits | no n ↦ rw (st.others j i n) (p.fits j i) ]

    step_bones : (j : ℕ) → In j ks → Skeleton c' s (own' j).top (tall s (own' j).d) (own' j).d free'
    step_bones j i = elim (ℕ_discrete j k) [
      | yes e ↦ rw e st.bones
      | no n ↦ rw (st.others j i n) (frame_skeleton s f2 c c' (own j).top (own j).d free free' (step_same j i n) (p.bones j i) (step_out j i n))
    ]

    -- another stream has none of stream k's blocks
    step_against : (j : ℕ) → In j ks → j ≢ k → (b : ℕ) → In b (blocks c' s (own' j)) → In b (blocks c' s (own' k)) → ⊥
    step_against j i n b m t =
        let m' = rw (st.others j i n, (step_keeps j i n).blocks) at m in
        elim (st.from b t) [
          | inl a ↦ p.apart j k i st.there n b m' a
          | inr a ↦ skeleton_out s f2 c (own j).top (own j).d free (p.bones j i) b m' (st.taken b a)
        ]

    step_apart : (j j' : ℕ) → In j ks → In j' ks → j ≢ j' → (b : ℕ) → In b (blocks c' s (own' j)) → In b (blocks c' s (own' j')) → ⊥
    step_apart j j' i i' n b m m' = elim (ℕ_discrete j k) [
      | yes e ↦ step_against j' i' (λ u. n (e ∙ sym u)) b m' (rw e at m)
      | no a ↦ elim (ℕ_discrete j' k) [
        | yes e ↦ step_against j i a b m (rw e at m')
        | no a' ↦ p.apart j j' i i' n b (rw (st.others j i a, (step_keeps j i a).blocks) at m) (rw (st.others j' i' a', (step_keeps j' i' a').blocks) at m')
      ]
    ]

    pub step-parts : Parts c' s ks own' free'
    step-parts = record {
      room = st.room;
      fits = step_fits;
      bones = step_bones;
      apart = step_apart;
      once = p.once;
      sum = omega (arith, p.sum, st.sum, total_change (λ j. cost s (own j)) (λ j. cost s (own' j)) k ks p.once st.there (λ j i n. ap (cost s) (st.others j i n)));
    }

  -- ---- the three steps

  module _ (c ks : List ℕ) (own : ℕ → Own) (k : ℕ) (free : List ℕ) (p : Parts c s ks own free) (i : In k ks) where
    -- bytes laid in a stream leave its blocks
    pub lay-blocks : (at : ℕ) (vs : List ℕ) → at + length vs ≤ (own k).d * s.size → blocks (laid c s (own k).top (tall s (own k).d) at vs) s (own k) ≡ blocks c s (own k)
    lay-blocks at vs fits =
        let o = own k in
        let h = tall s o.d in
        let n = length vs in
        rw (laid_is s good c o.top h o.d at vs free p.room (p.bones k i) fits)
        (pyramid_nodes s f2 c (laid_to n c s o.top h at vs) o.top o.d (λ e k' j u v. laid-node s good c o.top h o.d at vs free p.room (p.bones k i) n e k' j fits u v))

    -- bytes laid in a stream
    pub lay : (at : ℕ) (vs : List ℕ) → at + length vs ≤ (own k).d * s.size → Step s c (laid c s (own k).top (tall s (own k).d) at vs) ks own own k [] free free
    unfolding level
    lay at vs fits =
        let o = own k in
        let d = o.d in
        let h = tall s d in
        let n = length vs in
        let is = laid_is s good c o.top h d at vs free p.room (p.bones k i) fits in
        rw is (record {
          there = i;
          others = λ j q n. refl;
          room = laid-room s good c o.top h d at vs free p.room (p.bones k i) n fits;
          fits = p.fits k i;
          bones = laid_skeleton s good c o.top h d at vs free p.room (p.bones k i) n fits;
          from = λ b m. inl (rw (← is, lay-blocks at vs fits) at m);
          taken = λ b m. absurd m;
          freed = λ b m. inl m;
          sum = refl;
          rest-same = λ q a b e. laid_else s good c o.top h d at vs free p.room (p.bones k i) n q (λ t l w.
              e (node c s o.top h ((at + t) / s.size))
              (in_pyramid s f2 c o.top d h 0 ((at + t) / s.size) (omega arith) (data_in s good c o.top h d at vs free p.room (p.bones k i) (at + t) (omega arith)))
              (rw w (spot-inside s good c o.top h d at vs free p.room (p.bones k i) (at + t))));
          long = length-laid s n c o.top h at vs;
        })

    -- fewer blocks
    module _ (own' : ℕ → Own) (d' size : ℕ) (fewer : d' ≤ (own k).d) (fits : size ≤ d' * s.size)
        (new : own' k ≡ record { top = lowered_top c s (own k).top (own k).d d'; d = d'; size = size }) (others : (j : ℕ) → In j ks → j ≢ k → own' j ≡ own j) where
      abbrev d : ℕ
      d = (own k).d

      abbrev gone : List ℕ
      gone = surplus c s (own k).top d d'

      gone_in : (b : ℕ) → In b gone → In b (blocks c s (own k))
      gone_in b m = let r = surplus_in s good c (own k).top d d' free p.room (p.bones k i) fewer b m in
          rw r.6 (in_pyramid s f2 c (own k).top d r.0 r.1 r.2 r.3 r.5)

      low_bones : Skeleton (given_back c s gone) s (lowered_top c s (own k).top d d') (height (fan s) d') d' (rising s.count 0 gone ++ free)
      low_bones = elim (ℕ_discrete d' 0) [
        | yes e ↦ rw e (skeleton_none s f2 _ _ _ _)
        | no n ↦ shorter_skeleton s good c (own k).top d d' free p.room (p.bones k i) fewer (omega arith)
      ]

      low_from : (b : ℕ) → In b (pyramid (given_back c s gone) s (lowered_top c s (own k).top d d') d') → In b (blocks c s (own k))
      low_from b m =
          let r = pyramid_in s f2 (given_back c s gone) (lowered_top c s (own k).top d d') d' b m in
          let some : 1 ≤ d' = positive d' r.1 r.2 r.4 in
          let h = low-enough s good c (own k).top d d' free p.room (p.bones k i) fewer some in
          rw (r.5 ∙ shorter-node s good c (own k).top d d' free p.room (p.bones k i) fewer some r.0 r.1 r.2 r.3 r.4)
          (in_pyramid s f2 c (own k).top d (height (fan s) d - height (fan s) d' + r.0) r.1 r.2 (omega (arith, r.3))
          (omega (arith, r.4, level_mono (fan s) f2 r.1 d' d fewer)))
        where
          positive : (d : ℕ) (k j : ℕ) → j < level (fan s) k d → 1 ≤ d
          positive zero k j l = absurd (omega (arith, level_none (fan s) f2 k))
          positive (suc d) k j l = omega arith

      pub give : Step s c (given_back c s gone) ks own own' k [] free (rising s.count 0 gone ++ free)
      give = record {
        there = i;
        others = others;
        fits = rw new fits;
        room = shorter-room s good c (own k).top d d' free p.room (p.bones k i) fewer;
        bones = rw new low_bones;
        from = λ b m. inl (low_from b (rw new at m));
        taken = λ b m. absurd m;
        freed = λ b m. elim (in_either b (rising s.count 0 gone) free m) [
          | inl a ↦ inr (gone_in b (rising_in gone s.count 0 b a))
          | inr a ↦ inl a
        ];
        sum = rw (new, length-append, length-rising s.count gone (surplus-distinct s f2 c (own k).top d d' free (p.bones k i)) (gone_low s good c (own k).top d d' free p.room (p.bones k i) fewer))
            (omega (arith, length-surplus s f2 c (own k).top d d' fewer));
        rest-same = λ q a b e. given_else s good c free gone p.room (gone_low s good c (own k).top d d' free p.room (p.bones k i) fewer) (gone_out s good c (own k).top d d' free p.room (p.bones k i) fewer)
            q a (λ x m u v. e x (gone_in x m) (u, omega (arith, good.wide)));
        long = length_given s c gone;
      }

  -- more blocks
  module _ (c ks : List ℕ) (own own' : ℕ → Own) (k : ℕ) (xs rest : List ℕ) (p : Parts c s ks own (xs ++ rest)) (i : In k ks) (D size : ℕ) where
    abbrev grew : Grown
    grew = grown c s (own k).top (own k).d (D - (own k).d)

    module _ (more : (own k).d ≤ D) (many : P (fan s) D ≡ P (fan s) (own k).d + length xs) (fits : size ≤ D * s.size) where
      pub grow-longer : Longer s c (own k).top (own k).d D xs rest grew
      grow-longer = longer s good (D - (own k).d) c (own k).top (own k).d D xs rest (omega arith) p.room (p.bones k i) many

      pub grow : own' k ≡ record { top = grew.top; d = D; size = size } → ((j : ℕ) → In j ks → j ≢ k → own' j ≡ own j) → Step s c grew.card ks own own' k xs (xs ++ rest) rest
      grow new others = record {
        there = i;
        others = others;
        room = grow-longer.room;
        fits = rw new fits;
        bones = rw new grow-longer.bones;
        from = λ b m. grow-longer.from b (rw new at m);
        taken = λ b m. in_left b xs rest m;
        freed = λ b m. inl (in_right b xs rest m);
        sum = rw (new, length-append) (omega arith);
        rest-same = grow-longer.rest-same;
        long = length-grown s (D - (own k).d) c (own k).top (own k).d;
      }

-- ---- the streams of a card, in another order, with an empty one more or less

module _ (c : List ℕ) (s : Shape) (ks : List ℕ) (own : ℕ → Own) (free : List ℕ) where
  pub parts_same : (ks' : List ℕ) → Parts c s ks own free → Distinct ks' → ((k : ℕ) → In k ks' → In k ks) → ((k : ℕ) → In k ks → In k ks') → Parts c s ks' own free
  parts_same ks' p d f g = record {
    room = p.room;
    fits = λ k i. p.fits k (f k i);
    bones = λ k i. p.bones k (f k i);
    apart = λ k k' i i'. p.apart k k' (f k i) (f k' i');
    once = d;
    sum = omega (arith, p.sum, total_same (λ k. cost s (own k)) ks' ks d (same_many ks' ks d p.once f g) f);
  }

  module _ (good : Good s) (m : ℕ) (none : (own m).d ≡ 0) (short : (own m).size ≡ 0) where
    no_cost : cost s (own m) ≡ 0
    no_cost = rw none (P-low (fan s) (two s good) 0 (omega arith))

    no_blocks : (b : ℕ) → In b (blocks c s (own m)) → ⊥
    no_blocks b i = nothing (blocks c s (own m)) (length-pyramid s (two s good) c (own m).top (own m).d ∙ no_cost) b i
      where
        nothing : (l : List ℕ) → length l ≡ 0 → (b : ℕ) → In b l → ⊥
        nothing [] e b i = i
        nothing (x ∷ l) e b i = omega arith

    -- one more that is empty
    pub parts_add : Parts c s ks own free → (In m ks → ⊥) → Parts c s (m ∷ ks) own free
    unfolding total
    parts_add p n = record { room = p.room; fits = fits; bones = bones; apart = apart; once = (n, p.once); sum = omega (arith, p.sum, no_cost) }
      where
        fits : (k : ℕ) → In k (m ∷ ks) → (own k).size ≤ (own k).d * s.size
        fits k (inl e) = rw (e, short) (omega arith)
        fits k (inr i) = p.fits k i

        bones : (k : ℕ) → In k (m ∷ ks) → Skeleton c s (own k).top (tall s (own k).d) (own k).d free
        bones k (inl e) = rw (e, none) (skeleton_none s (two s good) c (own m).top _ free)
        bones k (inr i) = p.bones k i

        apart : (k k' : ℕ) → In k (m ∷ ks) → In k' (m ∷ ks) → k ≢ k' → (b : ℕ) → In b (blocks c s (own k)) → In b (blocks c s (own k')) → ⊥
        apart k k' (inl e) i' n b u v = no_blocks b (rw e at u)
        apart k k' (inr i) (inl e) n b u v = no_blocks b (rw e at v)
        apart k k' (inr i) (inr i') n b u v = p.apart k k' i i' n b u v

    pub parts-drop : Parts c s (m ∷ ks) own free → Parts c s ks own free
    unfolding total
    parts-drop p = record {
      room = p.room;
      fits = λ k i. p.fits k (inr i);
      bones = λ k i. p.bones k (inr i);
      apart = λ k k' i i'. p.apart k k' (inr i) (inr i');
      once = p.once.1;
      sum = omega (arith, p.sum, no_cost);
    }

-- streams that are where they were
pub parts_own : (c : List ℕ) (s : Shape) (ks : List ℕ) (w w' : ℕ → Own) (free : List ℕ) → ((j : ℕ) → In j ks → w' j ≡ w j) → Parts c s ks w free → Parts c s ks w' free
parts_own c s ks w w' free e p = record {
  room = p.room;
  fits = λ k i. rw (e k i) (p.fits k i);
  bones = λ k i. rw (e k i) (p.bones k i);
  apart = λ k k' i i' n b m m'. p.apart k k' i i' n b (rw (e k i) at m) (rw (e k' i') at m');
  once = p.once;
  sum = omega (arith, p.sum, total_agree (λ k. cost s (w k)) (λ k. cost s (w' k)) ks (λ k i. ap (cost s) (e k i)));
}
