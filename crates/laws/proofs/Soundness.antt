-- The check finds no broken rule exactly where the card is whole.
use mathlib.Core.Path.{◌≡◌, refl}
use mathlib.Core.Logic.{◌≢◌, inl, inr}
use mathlib.Core.List.{List, ◌∷◌, ◌++◌}
use Prim.Native.Nat.{ℕ, zero, suc, ◌-◌, ◌*◌, ◌/◌, ◌%◌, ◌^◌, ◌≤◌, ◌<◌}
use native.Mathlib.Decide.{ℕ_discrete}
use native.Mathlib.Omega.{arith}
use lib.ListN.{length}
use lib.Dec.{T}
use Rattle.layout.specs.Limits.{least_shift, most_shift, most_blocks, most_streams}
use Rattle.layout.specs.Bytes.{end8, run, join}
use Rattle.layout.specs.Blocks.{chain}
use Rattle.layout.specs.Streams.{data_of, data_for, table, table_bytes, offset, slots, desc_of, frees, desc_chain, stream, stream_bytes, table_blocks}
use Rattle.layout.specs.declared.Desc.{Desc}
use Rattle.layout.specs.Filing.{entries, entries_of}
use Rattle.layout.specs.Header.{head_length, shape_of, shift_of, fixed}
use Rattle.layout.specs.Sound.{right_desc, live_form, free_form, good_form, used, reached, rule1, rule2, rule3, rule4, rule5, rule6, rule7, rule8, broken}
use Rattle.laws.proofs.Lists.{In, Distinct, run_in, in_run, map_in}
use Rattle.laws.proofs.Tests.{Is, is_itself, is_both, is_pick, is_leb, is_eqb, is_yes, is_all, is_separate, is_zero}
use Rattle.laws.proofs.Joins.{in_join, join-distinct}
use Rattle.laws.proofs.Sets.{Same, is_same-set}
use Rattle.laws.proofs.Entries.{indices}
use Rattle.laws.proofs.Directories.{is_directory}
use Rattle.laws.proofs.Chain.{Good}
use Rattle.laws.proofs.Lives.{is_live, lives_in}
use Rattle.laws.proofs.Parts.{blocks}
use Rattle.laws.proofs.State.{slots_of, lives_of, own, owners, Headed, Right, Form, Filed, Whole, good, room-long, right_fits, length-table, owners_distinct, used_is, to_parts, parts_many, parts_low, parts-distinct, use_low, use_distinct}
use Rattle.layout.specs.declared.Shape.{Shape}

-- ---- the parts of the rules

pub is_right : (s : Shape) (t : Desc) → Is (right_desc s t) (Right s t)
unfolding right_desc
is_right s t =
    let r = is_both (is_eqb t.flags 0) (is_both (is_eqb t.reserved (data_for s t.size * s.size)) (is_leb (data_of s t) s.count)) in
    record { out = λ x. (let a = r.out x in record { flags = a.0; reserved = a.1.0; fits = a.1.1 }); back = λ w. r.back (w.flags, (w.reserved, w.fits)) }

pub is_form : (s : Shape) (t : List ℕ) (k : ℕ) → Is (good_form s t k) (Form s (desc_of t k))
unfolding live_form free_form
is_form s t k =
    let d = desc_of t k in
    let r = is_pick (is_live t k) (is_both (is_right s d) (is_pick (is_eqb (data_of s d) 0) (is_eqb d.top 0) is_yes)) (is_both (is_eqb d.reserved 0) (is_eqb d.flags 0)) in
    record {
      out = λ x. (let a = r.out x in record { alive = λ n. (a.0 n).0; empty = λ n. (a.0 n).1.0; free = λ e. a.1 (λ n. n e) });
      back = λ w. r.back (λ n. (w.alive n, (w.empty n, λ z. tt)), λ n. w.free (known n));
    }
  where
    known : ((desc_of t k).top ≢ end8 → ⊥) → (desc_of t k).top ≡ end8
    known n = elim (ℕ_discrete (desc_of t k).top end8) [ yes e ↦ e | no u ↦ absurd (n u) ]

-- ---- the rules

is_rule1 : (c : List ℕ) → Is (rule1 c) (head_length ≤ length c)
unfolding rule1
is_rule1 c = is_leb head_length (length c)

is_rule2 : (c : List ℕ) → Is (rule2 c) (T (fixed c))
unfolding rule2
is_rule2 c = is_itself (fixed c)

abbrev Rule3 : List ℕ → Type 0
Rule3 c =
    ((least_shift ≤ shift_of c) × (shift_of c ≤ most_shift))
    × (((length c - head_length) % 2 ^ shift_of c ≡ 0) × ((1 ≤ (length c - head_length) / 2 ^ shift_of c) × ((length c - head_length) / 2 ^ shift_of c ≤ most_blocks)))

is_rule3 : (c : List ℕ) → Is (rule3 c) (Rule3 c)
unfolding rule3
is_rule3 c = is_both (is_both (is_leb least_shift _) (is_leb _ most_shift)) (is_both (is_eqb _ 0) (is_both (is_leb 1 _) (is_leb _ most_blocks)))

abbrev Rule4 : List ℕ → Shape → Type 0
Rule4 c s =
    (((table c s).size - 8) % 25 ≡ 0) × ((offset 1 ≤ (table c s).size) × (((table c s).size ≤ offset most_streams)
    × (Right s (table c s) × (((b : ℕ) → In b (table_blocks c s) → b < s.count) × Distinct (table_blocks c s)))))

is_rule4 : (c : List ℕ) (s : Shape) → Is (rule4 c s) (Rule4 c s)
unfolding rule4
is_rule4 c s =
    is_both (is_eqb (((table c s).size - 8) % 25) 0) (is_both (is_leb (offset 1) (table c s).size) (is_both (is_leb (table c s).size (offset most_streams))
    (is_both (is_right s (table c s)) (is_separate s.count (table_blocks c s)))))

abbrev Rule5 : List ℕ → Shape → Type 0
Rule5 c s =
    ((k : ℕ) → In k (run 0 (slots_of c s)) → Form s (desc_of (table_bytes c s) k))
    × (Same (desc_chain (table_bytes c s)) (frees (table_bytes c s)) × ((desc_of (table_bytes c s) 0).top ≢ end8))

is_rule5 : (c : List ℕ) (s : Shape) → Is (rule5 c s) (Rule5 c s)
unfolding rule5
is_rule5 c s =
    let t = table_bytes c s in
    is_both (is_all _ (λ k. Form s (desc_of t k)) (run 0 (slots t)) (is_form s t)) (is_both (is_same-set (desc_chain t) (frees t)) (is_live t 0))

abbrev Rule6 : List ℕ → Shape → Type 0
Rule6 c s = ((b : ℕ) → In b (used c s) → b < s.count) × Distinct (used c s)

is_rule6 : (c : List ℕ) (s : Shape) → Is (rule6 c s) (Rule6 c s)
unfolding rule6
is_rule6 c s = is_separate s.count (used c s)

abbrev Rule7 : List ℕ → Shape → Type 0
Rule7 c s = (((b : ℕ) → In b (used c s ++ chain c s) → b < s.count) × Distinct (used c s ++ chain c s)) × (length (used c s ++ chain c s) ≡ s.count)

is_rule7 : (c : List ℕ) (s : Shape) → Is (rule7 c s) (Rule7 c s)
unfolding rule7
is_rule7 c s = is_both (is_separate s.count (used c s ++ chain c s)) (is_eqb _ s.count)

is_rule8 : (c : List ℕ) (s : Shape) → Is (rule8 c s) (Filed (stream_bytes c s 0) (lives_of c s))
unfolding rule8 reached entries_of
is_rule8 c s =
    let r = is_both (is_directory (stream_bytes c s 0)) (is_same-set (0 ∷ indices (entries (stream_bytes c s 0))) (lives_of c s)) in
    record { out = λ t. record { directory = (r.out t).0; reach = (r.out t).1 }; back = λ w. r.back (w.directory, w.reach) }

-- ---- all of them

abbrev Rules : List ℕ → Shape → Type 0
Rules c s = (head_length ≤ length c) × (T (fixed c) × (Rule3 c × (Rule4 c s × (Rule5 c s × (Rule6 c s × (Rule7 c s × (Filed (stream_bytes c s 0) (lives_of c s) × Unit)))))))

rules : (c : List ℕ) → (broken c ≡ 0 → Rules c (shape_of c)) × (Rules c (shape_of c) → broken c ≡ 0)
unfolding broken
rules c =
    let s = shape_of c in
    is_zero _ 0 (is_rule1 c) (is_zero _ 1 (is_rule2 c) (is_zero _ 2 (is_rule3 c) (is_zero _ 3 (is_rule4 c s) (is_zero _ 4 (is_rule5 c s)
    (is_zero _ 5 (is_rule6 c s) (is_zero _ 6 (is_rule7 c s) (is_zero 0 7 {B = Unit} (is_rule8 c s) (λ u. tt, λ u. refl))))))))

-- every owner's size is within its data blocks
owners_fit : (c : List ℕ) (s : Shape) → Good s → Right s (table c s) → ((k : ℕ) → k < slots_of c s → Form s (stream c s k)) → (k : ℕ) → In k (owners c s) → (own c s k).size ≤ (own c s k).d * s.size
unfolding owners stream
owners_fit c s g r form zero i = right_fits s g (table c s) r
owners_fit c s g r form (suc k) (inl e) = absurd (omega arith)
owners_fit c s g r form (suc k) (inr i) =
    let m = map_in suc (suc k) (lives_of c s) i in
    let e : k ≡ m.0 = omega (arith, m.2) in
    let l = lives_in (table_bytes c s) m.0 m.1 in
    rw e (right_fits s g (stream c s m.0) ((form m.0 l.0).alive l.1))

pub sound : (c : List ℕ) → broken c ≡ 0 → Whole c
unfolding stream owners
sound c e =
    let s = shape_of c in
    let r = (rules c).0 e in
    let r3 = r.1.1.0 in
    let r4 = r.1.1.1.0 in
    let r5 = r.1.1.1.1.0 in
    let r7 = r.1.1.1.1.1.1.0 in
    let h : Headed c = record {
      long = r.0;
      values = r.1.0;
      least = r3.0.0;
      most = r3.0.1;
      whole = r3.1.0;
      some = r3.1.1.0;
      few = r3.1.1.1;
    } in
    let g = good c h in
    let n : (table c s).size ≡ offset (slots_of c s) = omega (arith, length-table c s, r4.0, r4.1.0) in
    let form : (k : ℕ) → k < slots_of c s → Form s (desc_of (table_bytes c s) k) = λ k l. r5.0 k (in_run 0 (slots_of c s) k (omega arith) (omega arith)) in
    record {
      filed = r.1.1.1.1.1.1.1.0;
      core = record {
        shape_is = refl;
        headed = h;
        size = n;
        some = omega (arith, n, r4.1.0);
        few = omega (arith, n, r4.1.1.0);
        right = r4.1.1.1.0;
        forms = form;
        chained = r5.1.0;
        root = r5.1.1;
        parts = to_parts c s g (room-long c h) (owners c s) (own c s) (owners_distinct c s) (owners_fit c s g r4.1.1.1.0 form)
            (rw (used_is c s) at r7.1) (rw (used_is c s) at r7.0.0) (rw (used_is c s) at r7.0.1);
      };
    }

pub whole : (c : List ℕ) → Whole c → broken c ≡ 0
unfolding table_blocks owners stream
whole c all =
    let s = shape_of c in
    let w = all.core in
    let h = w.headed in
    let g = good c h in
    let p = w.parts in
    let ks = owners c s in
    let mine = join (λ k. blocks c s (own c s k)) ks in
    let low : (b : ℕ) → In b mine → b < s.count = use_low c s g (room-long c h) ks (own c s) (owners_distinct c s) (chain c s) p in
    let dis : Distinct mine = use_distinct c s g (room-long c h) ks (own c s) (owners_distinct c s) (chain c s) p in
    (rules c).1 (
      h.long,
      (
        h.values,
        (
          ((h.least, h.most), (h.whole, (h.some, h.few))),
          (
            (
              omega (arith, w.size),
              (
                omega (arith, w.size, w.some),
                (
                  omega (arith, w.size, w.few),
                  (
                    w.right,
                    (
                      (λ b i. low b (in_join (λ k. blocks c s (own c s k)) 0 b ks (inl refl) i)),
                      join-distinct (λ k. blocks c s (own c s k)) ks dis 0 (inl refl),
                    ),
                  ),
                ),
              ),
            ),
            (
              (λ k i. w.forms k (omega (arith, run_in 0 (slots_of c s) k i)), (w.chained, w.root)),
              (
                (rw (used_is c s) low, rw (used_is c s) dis),
                (
                  (
                    (
                      rw (used_is c s) (parts_low c s g (room-long c h) ks (own c s) (owners_distinct c s) (chain c s) p),
                      rw (used_is c s) (parts-distinct c s g (room-long c h) ks (own c s) (owners_distinct c s) (chain c s) p),
                    ),
                    rw (used_is c s) (parts_many c s g (room-long c h) ks (own c s) (owners_distinct c s) (chain c s) p),
                  ),
                  (all.filed, tt),
                ),
              ),
            ),
          ),
        ),
      ),
    )
