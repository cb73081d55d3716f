-- A newly formatted card passes its check and shows an empty list; its chain is all blocks but the table's, rising.
use mathlib.Core.Path.{◌≡◌, refl, sym, ap, ap₂, ◌∙◌}
use mathlib.Core.Logic.{inl, inr}
use mathlib.Core.Bool.{Bool, true, false}
use mathlib.Core.List.{List, [], ◌∷◌, ◌++◌, map}
use Prim.Native.Nat.{ℕ, zero, suc, ◌+◌, ◌-◌, ◌/◌, ◌^◌, ◌≤◌, ◌<◌}
use native.Mathlib.Nat.{zero-div, mod-eq_of_lt, pow-le-pow_right}
use native.Mathlib.Decide.{ℕ_discrete}
use native.Mathlib.Omega.{arith}
use lib.ListN.{length, get_or, get_or-append}
use lib.Seq.{ext_get_or, get_or-append-add}
use lib.Dec.{T, eqb}
use Rattle.layout.specs.Bytes.{pick, both, num, bytes, matches, run, those, end4, end8}
use Rattle.layout.specs.Pyramid.{level}
use Rattle.layout.specs.Blocks.{fan, place, first_free, next, walk, chain, node}
use Rattle.layout.specs.Streams.{desc_in, data_of, data_for, spot, tall, contents, table, table_bytes, desc_of, dead, live, lives, frees, desc_chain, stream, stream_bytes}
use Rattle.layout.specs.declared.Desc.{Desc}
use Rattle.layout.specs.Filing.{entries, entries_from, entries_of, reads, reads_from}
use Rattle.layout.specs.Header.{head_length, shaped, shape_of, shift_of, head1, head2, head3, head4, fixed, new_header, good_shape}
use Rattle.layout.specs.Sound.{broken}
use Rattle.layout.specs.Answers.{refused, done}
use Rattle.layout.specs.Calls.{formatted, format}
use Rattle.laws.proofs.Picks.{is_true, is_false, eqb_yes, eqb_no}
use Rattle.laws.proofs.ByteLaws.{num_agree, num-at, length-bytes}
use Rattle.laws.proofs.Levels.{div_is, height-low, P-low}
use Rattle.laws.proofs.Lists.{In, run_in, run-distinct, length_run}
use Rattle.laws.proofs.Joins.{total}
use Rattle.laws.proofs.Descs.{desc_agree, blank}
use Rattle.laws.proofs.Links.{Links}
use Rattle.laws.proofs.Chain.{Good, Room, room-chain}
use Rattle.laws.proofs.Hanging.{two}
use Rattle.laws.proofs.Growth.{Skeleton}
use Rattle.laws.proofs.Parts.{Own, own_of, Parts, parts_own, parts_add, parts_same}
use Rattle.laws.proofs.Laying.{contents-at, length-contents}
use Rattle.laws.proofs.Heads.{matches_agree}
use Rattle.laws.proofs.State.{slots_of, lives_of, own, owners, owners_distinct, Headed, Filed, Core, Whole, good, whole_of}
use Rattle.laws.proofs.Adding.{no_bytes, blank_form}
use Rattle.laws.proofs.Soundness.{whole}
use Rattle.demands.specs.Plain.{plain_new}
use Rattle.demands.specs.Shows.{item_of, plain}
use Rattle.demands.proofs.NewCard.{Suits, suits, new_table, wide, room, new_length, new_header_lem, new_link, new_table_lem}
use Rattle.layout.specs.declared.Shape.{Shape}

-- a number between other bytes
field : (front back : List ℕ) (v : ℕ) → v < 256 ^ 8 → num 8 (front ++ (bytes 8 v ++ back)) (length front) ≡ v
field front back v small = num-at 8 _ (length front) v small (λ k l. get_or-append-add front (bytes 8 v ++ back) k 0 ∙ get_or-append (bytes 8 v) back 0 k (rw length-bytes l))

module _ (len shift : ℕ) (fit : Suits len shift) where
  abbrev s : Shape
  s = shaped len shift

  abbrev c : List ℕ
  c = formatted len shift

  abbrev h : List ℕ
  h = new_header shift s

  -- ---- the header

  shift_is : shift_of c ≡ shift
  unfolding new_header bytes
  shift_is = new_header_lem len shift fit _ (omega arith)

  fixed_is : fixed c ≡ fixed h
  unfolding fixed
  fixed_is =
      let f : (i : ℕ) → i < head_length → get_or c i 0 ≡ get_or h i 0 = new_header_lem len shift fit in
      ap₂ both (matches_agree h c _ head1 (λ i a b. f i (omega arith)))
      (ap₂ both (matches_agree h c _ head2 (λ i a b. f i (omega arith)))
      (ap₂ both (matches_agree h c _ head3 (λ i a b. f i (omega arith))) (matches_agree h c _ head4 (λ i a b. f i (omega arith)))))

  values : T (fixed c)
  values = rw fixed_is (unfold fixed matches new_header bytes in tt)

  headed : Headed c
  headed =
      let e = shift_is in
      let n = new_length len shift fit in
      record {
        long = rw n fit.long;
        values = values;
        least = rw e fit.least;
        most = rw e fit.most;
        whole = rw (e, n) fit.whole;
        some = rw (e, n) fit.some;
        few = rw (e, n) fit.few;
      }

  shape_is : shape_of c ≡ s
  unfolding shape_of
  shape_is = ap₂ shaped (new_length len shift fit) shift_is

  g : Good s
  g = rw shape_is at (good c headed)

  -- ---- the table

  abbrev first : ℕ
  first = pick (eqb s.count 1) end8 1

  first_small : first < 256 ^ 8
  first_small = go (eqb s.count 1)
    where
      go : (t : Bool) → pick t end8 1 < 256 ^ 8
      go true = omega arith
      go false = omega arith

  first_is : first_free c s ≡ first
  first_is = num_agree 8 c h s.first (λ i a b. new_header_lem len shift fit i (omega arith))
      ∙ (unfold new_header bytes in field (head1 ++ (shift ∷ []) ++ head2) (head3 ++ bytes 8 33 ++ bytes 8 0 ++ bytes 8 s.size ++ (0 ∷ []) ++ head4) first first_small)

  size_small : s.size < 256 ^ 8
  size_small = omega (arith, pow-le-pow_right {n = 2} (omega arith) fit.most)

  abbrev before : List ℕ
  before = head1 ++ (shift ∷ []) ++ head2 ++ bytes 8 first ++ head3

  desc_is : desc_in h s.table ≡ record { size = 33; top = 0; reserved = s.size; flags = 0 }
  unfolding desc_in new_header bytes
  desc_is =
      let e₁ : num 8 h s.table ≡ 33 = field before (bytes 8 0 ++ bytes 8 s.size ++ (0 ∷ []) ++ head4) 33 (omega arith) in
      let e₂ : num 8 h (s.table + 8) ≡ 0 = field (before ++ bytes 8 33) (bytes 8 s.size ++ (0 ∷ []) ++ head4) 0 (omega arith) in
      let e₃ : num 8 h (s.table + 16) ≡ s.size = field (before ++ bytes 8 33 ++ bytes 8 0) ((0 ∷ []) ++ head4) s.size size_small in
      λ i. record { size = e₁ i; top = e₂ i; reserved = e₃ i; flags = 0 }

  table_is : table c s ≡ record { size = 33; top = 0; reserved = s.size; flags = 0 }
  unfolding table
  table_is = desc_agree c h s.table (λ i a b. new_header_lem len shift fit i (omega arith)) ∙ desc_is

  one : s.size / s.size ≡ 1
  one = div_is {r = 0} (omega arith) (omega (arith, wide len shift fit))

  -- one block is its own top
  byte_at : (q : ℕ) → q < 33 → spot c s 0 (tall s 1) q ≡ place s 0 + q
  unfolding node
  byte_at q l = rw (height-low (fan s) (two s g) 1 (omega arith), mod-eq_of_lt {n = q} {m = s.size} (omega (arith, wide len shift fit)))

  bytes_are : table_bytes c s ≡ new_table
  unfolding table_bytes
  bytes_are = ap (λ (t : Desc). contents c s t.top (data_of s t) t.size) table_is
      ∙ ap (λ (d : ℕ). contents c s 0 d 33) one
      ∙ ext_get_or 0 _ _ (length-contents c s 0 1 33 ∙ (unfold bytes in refl))
      (λ q l. let l' : q < 33 = rw length-contents at l in contents-at c s 0 1 33 q l' ∙ ap (λ (i : ℕ). get_or c i 0) (byte_at q l') ∙ new_table_lem len shift fit q l')

  root_desc : stream c s 0 ≡ blank
  unfolding stream desc_of
  root_desc = rw bytes_are (unfold desc_in num bytes in refl)

  slots_are : slots_of c s ≡ 1
  slots_are = rw bytes_are (unfold bytes in refl)

  lives_are : lives_of c s ≡ 0 ∷ []
  lives_are = rw bytes_are (unfold lives those live dead desc_of desc_in num bytes run in refl)

  none_free : (desc_chain (table_bytes c s) ≡ []) × (frees (table_bytes c s) ≡ [])
  none_free = rw bytes_are (unfold desc_chain walk frees those dead desc_of desc_in num bytes run in (refl, refl))

  root_bytes : stream_bytes c s 0 ≡ []
  unfolding stream_bytes
  root_bytes = ap (λ (t : Desc). contents c s t.top (data_of s t) t.size) root_desc ∙ no_bytes c s 0 _

  -- ---- the chain

  abbrev free : List ℕ
  free = run 1 (s.count - 1)

  next_is : (b : ℕ) → 1 ≤ b → b < s.count → next c s b ≡ pick (eqb (b + 1) s.count) end8 (b + 1)
  unfolding next
  next_is b o l = rw (new_link len shift fit b o l) (go (eqb (b + 1) s.count))
    where
      go : (t : Bool) → pick (eqb (pick t end4 (b + 1)) end4) end8 (pick t end4 (b + 1)) ≡ pick t end8 (b + 1)
      go true = refl
      go false = rw (eqb_no {a = b + 1} {b = end4} (omega (arith, g.few)))

  links : (n b : ℕ) → 1 ≤ b → b + n ≡ s.count → Links (next c s) (pick (eqb b s.count) end8 b) (run b n)
  unfolding run
  links zero b o e = rw (eqb_yes {a = b} {b = s.count} (omega arith))
  links (suc n) b o e =
      let l : b < s.count = omega arith in
      rw (eqb_no {a = b} {b = s.count} (omega arith)) (refl, omega (arith, g.few), rw (next_is b o l) (links n (b + 1) (omega arith) (omega arith)))

  first_link : first ≡ pick (eqb 1 s.count) end8 1
  first_link = elim (ℕ_discrete s.count 1) [
    | yes e ↦ rw (eqb_yes e, eqb_yes {a = 1} {b = s.count} (sym e))
    | no n ↦ rw (eqb_no n, eqb_no {a = 1} {b = s.count} (λ e. n (sym e)))
  ]

  chained : Room c s free
  chained = record {
    long = rw (new_length len shift fit) (room len shift fit);
    links = rw (first_is ∙ first_link) (links (s.count - 1) 1 (omega arith) (omega (arith, fit.some)));
    low = λ x i. omega (arith, run_in 1 (s.count - 1) x i);
    apart = run-distinct 1 (s.count - 1);
  }

  -- ---- who has which block

  -- the table has block 0 alone
  alone : (e k j : ℕ) → e + k ≡ 0 → j < level (fan s) k 1 → (e ≡ 0) × (k ≡ 0) × (j ≡ 0)
  unfolding level
  alone e k j p q = let z : k ≡ 0 = omega arith in (omega arith, z, omega (arith, rw z at q))

  bones : Skeleton c s 0 0 1 free
  unfolding node
  bones = record {
    low = λ e k j p q. rw (alone e k j p q).0 fit.some;
    apart = λ e k j e' k' j' p q p' q' u. (let a = alone e k j p q in let b = alone e' k' j' p' q' in (a.1 ∙ sym b.1, a.2 ∙ sym b.2));
    out = λ e k j p q i. (let i₀ : In 0 free = rw (alone e k j p q).0 at i in omega (arith, run_in 1 (s.count - 1) 0 i₀));
  }

  -- where the table is, if it is the only owner
  abbrev only : ℕ → Own
  only k = record { top = 0; d = 1; size = 33 }

  is_table : (k : ℕ) → In k (0 ∷ []) → k ≡ 0
  is_table k (inl e) = e
  is_table k (inr z) = absurd z

  table_own : (k : ℕ) → In k (0 ∷ []) → own c s k ≡ only k
  table_own zero i = ap (own_of s) table_is ∙ ap {B = Own} (λ (d : ℕ). record { top = 0; d = d; size = 33 }) one
  table_own (suc k) i = absurd (omega (arith, is_table (suc k) i))

  table-parts : Parts c s (0 ∷ []) only free
  unfolding total
  table-parts = record {
    room = chained;
    fits = λ k i. omega (arith, wide len shift fit);
    bones = λ k i. rw (height-low (fan s) (two s g) 1 (omega arith)) bones;
    apart = λ k k' i i' n. absurd (n (is_table k i ∙ sym (is_table k' i')));
    once = (λ i. i, tt);
    sum = rw (P-low (fan s) (two s g) 1 (omega arith), length_run) (omega (arith, fit.some));
  }

  -- the root has none
  parts : Parts c s (owners c s) (own c s) free
  unfolding owners
  parts =
      let p = parts_own c s (0 ∷ []) only (own c s) free table_own table-parts in
      let d : (own c s 1).d ≡ 0 = ap (λ (t : Desc). data_of s t) root_desc ∙ zero-div s.size in
      let q = parts_add c s (0 ∷ []) (own c s) free g 1 d (ap (λ (t : Desc). t.size) root_desc) p (λ i. omega (arith, is_table 1 i)) in
      parts_same c s (1 ∷ 0 ∷ []) (own c s) free (owners c s) q (owners_distinct c s) (λ k i. to k (rw lives_are at i)) (λ k i. rw lives_are (fro k i))
    where
      to : (k : ℕ) → In k (0 ∷ 1 ∷ []) → In k (1 ∷ 0 ∷ [])
      to k (inl e) = inr (inl e)
      to k (inr (inl e)) = inl e
      to k (inr (inr z)) = absurd z

      fro : (k : ℕ) → In k (1 ∷ 0 ∷ []) → In k (0 ∷ 1 ∷ [])
      fro k (inl e) = inr (inl e)
      fro k (inr (inl e)) = inl e
      fro k (inr (inr z)) = absurd z

  chain_is : chain c s ≡ free
  chain_is = room-chain c s free chained (omega (arith, length_run 1 (s.count - 1)))

  -- ---- all rules

  data_33 : data_for s 33 ≡ 1
  data_33 = div_is {r = 32} (omega (arith, wide len shift fit)) (omega (arith, wide len shift fit))

  core : Core c s
  core = record {
    shape_is = shape_is;
    headed = headed;
    size = rw (slots_are, table_is) refl;
    some = omega (arith, slots_are);
    few = omega (arith, slots_are);
    right = rw table_is (record { flags = refl; reserved = rw data_33 (omega arith); fits = rw one fit.some });
    forms = λ k l. (let z : k ≡ 0 = omega (arith, slots_are) in rw (z, root_desc) (blank_form s g));
    chained = rw (none_free.0, none_free.1) (record { once = tt; many = refl; all = λ x i. i });
    root = rw root_desc (omega arith);
    parts = rw chain_is parts;
  }

  filed : Filed (stream_bytes c s 0) (lives_of c s)
  unfolding entries entries_from reads reads_from
  filed = rw (root_bytes, lives_are) (record {
    directory = record { whole = tt; good = λ n i. absurd i; once = tt };
    reach = record { once = (λ i. i, tt); many = refl; all = λ x i. i };
  })

  shows : plain c ≡ plain_new shift s.count
  unfolding plain entries_of entries entries_from
  shows = rw shape_is (λ i. record { shift = shift_is i; count = s.count; descs = slots_are i; items = none i })
    where
      none : map (item_of c s) (entries (stream_bytes c s 0)) ≡ []
      none = rw root_bytes refl

-- ---- a card newly formatted

module _ (len shift : ℕ) (fits : T (good_shape len shift)) where
  pub new_shape : shape_of (formatted len shift) ≡ shaped len shift
  new_shape = shape_is len shift (suits len shift fits)

  pub new_whole : Whole (formatted len shift)
  new_whole = whole_of (formatted len shift) (shaped len shift) (core len shift (suits len shift fits)) (filed len shift (suits len shift fits))

  pub new_sound : broken (formatted len shift) ≡ 0
  new_sound = whole (formatted len shift) new_whole

  pub new_plain : plain (formatted len shift) ≡ plain_new shift (shaped len shift).count
  new_plain = shows len shift (suits len shift fits)

  -- 1, 2, .., count - 1
  pub new_chain : chain (formatted len shift) (shaped len shift) ≡ run 1 ((shaped len shift).count - 1)
  new_chain = chain_is len shift (suits len shift fits)

-- ---- the call

module _ (c : List ℕ) (shift : ℕ) where
  pub format-done : T (good_shape (length c) shift) → format c shift ≡ done (formatted (length c) shift) []
  unfolding format
  format-done t = rw (is_true (good_shape (length c) shift) t)

  pub format-refused : (T (good_shape (length c) shift) → ⊥) → format c shift ≡ refused 9 0 c []
  unfolding format
  format-refused f = rw (is_false (good_shape (length c) shift) f)
