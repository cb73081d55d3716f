-- A sound card, in words: what the eight rules say of it.
use mathlib.Core.Path.{◌≡◌, sym, ap, ◌∙◌, subst}
use mathlib.Core.Logic.{◌≢◌, ◌⊎◌, inl, inr}
use mathlib.Core.List.{List, ◌∷◌, ◌++◌, map}
use Prim.Native.Nat.{ℕ, zero, suc, ◌+◌, ◌-◌, ◌*◌, ◌/◌, ◌%◌, ◌^◌, ◌≤◌, ◌<◌}
use native.Mathlib.Nat.{pow-le-pow_right, div-mul-le_self}
use native.Mathlib.Omega.{arith}
use lib.ListN.{length, length-append}
use lib.Dec.{T}
use Rattle.layout.specs.Limits.{least_shift, most_shift, most_blocks, most_streams}
use Rattle.layout.specs.Bytes.{end8, join}
use Rattle.layout.specs.Blocks.{chain}
use Rattle.layout.specs.Streams.{data_of, data_for, table, table_bytes, offset, slots, lives, frees, desc_chain, stream, stream_bytes, table_blocks, stream_blocks}
use Rattle.layout.specs.declared.Desc.{Desc}
use Rattle.layout.specs.Filing.{entries}
use Rattle.layout.specs.Header.{head_length, shape_of, shift_of, fixed}
use Rattle.layout.specs.Sound.{used}
use Rattle.laws.proofs.Lists.{In, Distinct, in_left, in_right, in_either, map_in, distinct_left, distinct_right, distinct_apart, distinct-both, map-distinct}
use Rattle.laws.proofs.Joins.{total, total_agree, distinct-join, join-distinct, join_apart, in_join, join_in, length-join, join-map, all_of}
use Rattle.laws.proofs.Sets.{Same}
use Rattle.laws.proofs.Entries.{indices}
use Rattle.laws.proofs.Directories.{Directory}
use Rattle.laws.proofs.Levels.{div_is, up_covers}
use Rattle.laws.proofs.Chain.{Good, chain-room}
use Rattle.laws.proofs.Hanging.{two}
use Rattle.laws.proofs.OneMore.{skeleton}
use Rattle.laws.proofs.Counting.{length-pyramid}
use Rattle.laws.proofs.Bones.{surplus-distinct, skeleton_out, skeleton_low}
use Rattle.laws.proofs.Laying.{length-contents}
use Rattle.laws.proofs.Lives.{lives-distinct}
use Rattle.laws.proofs.Parts.{Own, own_of, blocks, cost, Parts}
use Rattle.layout.specs.declared.Shape.{Shape}

-- a card's descriptors, and those that live
abbrev pub slots_of : List ℕ → Shape → ℕ
slots_of c s = slots (table_bytes c s)

abbrev pub lives_of : List ℕ → Shape → List ℕ
lives_of c s = lives (table_bytes c s)

-- where the streams are: 0 is the table, suc k is stream k
abbrev pub own : List ℕ → Shape → ℕ → Own
own c s zero = own_of s (table c s)
own c s (suc k) = own_of s (stream c s k)

unfoldable pub owners : List ℕ → Shape → List ℕ
owners c s = 0 ∷ map suc (lives_of c s)

-- rules 1 to 3
pub record Headed (c : List ℕ) : Type 0 where
  pub long : head_length ≤ length c
  pub values : T (fixed c)
  pub least : least_shift ≤ shift_of c
  pub most : shift_of c ≤ most_shift
  pub whole : (length c - head_length) % 2 ^ shift_of c ≡ 0
  pub some : 1 ≤ (length c - head_length) / 2 ^ shift_of c
  pub few : (length c - head_length) / 2 ^ shift_of c ≤ most_blocks

-- flags and reserved right, and d not above the block count
pub record Right (s : Shape) (t : Desc) : Type 0 where
  pub flags : t.flags ≡ 0
  pub reserved : t.reserved ≡ data_for s t.size * s.size
  pub fits : data_of s t ≤ s.count

-- a descriptor's form, free or live
pub record Form (s : Shape) (t : Desc) : Type 0 where
  pub alive : t.top ≢ end8 → Right s t
  pub empty : t.top ≢ end8 → data_of s t ≡ 0 → t.top ≡ 0
  pub free : t.top ≡ end8 → (t.reserved ≡ 0) × (t.flags ≡ 0)

-- rule 8, of the root's bytes r
pub record Filed (r : List ℕ) (ks : List ℕ) : Type 0 where
  pub directory : Directory r
  pub reach : Same (0 ∷ indices (entries r)) ks

-- rules 1 to 7, of a card of shape s
pub record Core (c : List ℕ) (s : Shape) : Type 0 where
  pub shape_is : shape_of c ≡ s
  pub headed : Headed c
  pub size : (table c s).size ≡ offset (slots_of c s)
  pub some : 1 ≤ slots_of c s
  pub few : slots_of c s ≤ most_streams
  pub right : Right s (table c s)
  pub forms : (k : ℕ) → k < slots_of c s → Form s (stream c s k)
  pub chained : Same (desc_chain (table_bytes c s)) (frees (table_bytes c s))
  pub root : (stream c s 0).top ≢ end8
  pub parts : Parts c s (owners c s) (own c s) (chain c s)

-- all eight
pub record Whole (c : List ℕ) : Type 0 where
  pub core : Core c (shape_of c)
  pub filed : Filed (stream_bytes c (shape_of c) 0) (lives_of c (shape_of c))

pub whole_of : (c : List ℕ) (s : Shape) → Core c s → Filed (stream_bytes c s 0) (lives_of c s) → Whole c
whole_of c s w f = record {
  core = subst (λ (t : Shape). Core c t) (sym w.shape_is) w;
  filed = subst (λ (t : Shape). Filed (stream_bytes c t 0) (lives_of c t)) (sym w.shape_is) f;
}

-- ---- the shape

module _ (c : List ℕ) (h : Headed c) where
  pub good : Good (shape_of c)
  unfolding shape_of
  good = record {
    field = omega arith;
    desc = omega arith;
    header = omega arith;
    wide = omega (arith, pow-le-pow_right {n = 2} (omega arith) h.least);
    few = omega (arith, h.few);
  }

  pub room-long : (shape_of c).base + (shape_of c).count * (shape_of c).size ≤ length c
  unfolding shape_of
  room-long = omega (arith, h.long, div-mul-le_self (length c - head_length) (2 ^ shift_of c))

-- ---- d is what the size wants

module _ (s : Shape) (g : Good s) (t : Desc) (r : Right s t) where
  pub right_data : data_of s t ≡ data_for s t.size
  right_data = div_is {r = 0} (omega (arith, r.reserved)) (omega (arith, g.wide))

  pub right_fits : t.size ≤ data_of s t * s.size
  right_fits = rw right_data (up_covers s.size (omega (arith, g.wide)) t.size)

pub length-table : (c : List ℕ) (s : Shape) → length (table_bytes c s) ≡ (table c s).size
unfolding table_bytes
length-table c s = length-contents c s (table c s).top (data_of s (table c s)) (table c s).size

pub length-stream : (c : List ℕ) (s : Shape) (k : ℕ) → length (stream_bytes c s k) ≡ (stream c s k).size
unfolding stream_bytes
length-stream c s k = length-contents c s (stream c s k).top (data_of s (stream c s k)) (stream c s k).size

-- ---- all blocks in use

module _ (c : List ℕ) (s : Shape) where
  pub owners_distinct : Distinct (owners c s)
  unfolding owners
  owners_distinct = (
    λ i. (let r = map_in suc 0 (lives_of c s) i in omega (arith, r.2)),
    map-distinct suc (lives_of c s) (lives-distinct (table_bytes c s)) (λ x y i j e. omega arith),
  )

  pub used_is : used c s ≡ join (λ k. blocks c s (own c s k)) (owners c s)
  unfolding used table_blocks stream_blocks join owners
  used_is = ap (λ (l : List ℕ). table_blocks c s ++ l) (sym (join-map (λ k. blocks c s (own c s k)) suc (lives_of c s)))

-- ---- the blocks, as one list and as parts

module _ (c : List ℕ) (s : Shape) (g : Good s) (long : s.base + s.count * s.size ≤ length c) (ks : List ℕ) (o : ℕ → Own) (once : Distinct ks) where
  abbrev in_use : List ℕ
  in_use = join (λ k. blocks c s (o k)) ks

  as_many : length in_use ≡ total (λ k. cost s (o k)) ks
  as_many = length-join (λ k. blocks c s (o k)) ks ∙ total_agree (λ k. cost s (o k)) (λ k. length (blocks c s (o k))) ks (λ k i. length-pyramid s (two s g) c (o k).top (o k).d)

  pub to_parts : ((k : ℕ) → In k ks → (o k).size ≤ (o k).d * s.size) → length (in_use ++ chain c s) ≡ s.count → ((b : ℕ) → In b (in_use ++ chain c s) → b < s.count) → Distinct (in_use ++ chain c s) → Parts c s ks o (chain c s)
  to_parts fits n low d = record {
    fits = fits;
    room = chain-room c s long (omega (arith, length-append in_use (chain c s))) (λ x i. low x (in_right x in_use (chain c s) i)) (distinct_right in_use (chain c s) d);
    bones = λ k i. skeleton s g c (o k).top (o k).d (chain c s)
        (λ b m. low b (in_left b in_use (chain c s) (in_join (λ k. blocks c s (o k)) k b ks i m)))
        (distinct-both (blocks c s (o k)) (chain c s) (join-distinct (λ k. blocks c s (o k)) ks (distinct_left in_use (chain c s) d) k i) (distinct_right in_use (chain c s) d)
        (λ b m. distinct_apart in_use (chain c s) d b (in_join (λ k. blocks c s (o k)) k b ks i m)));
    apart = join_apart (λ k. blocks c s (o k)) ks (distinct_left in_use (chain c s) d);
    once = once;
    sum = omega (arith, length-append in_use (chain c s), as_many);
  }

  module _ (free : List ℕ) (p : Parts c s ks o free) where
    pub parts_many : length (in_use ++ free) ≡ s.count
    parts_many = omega (arith, length-append in_use free, as_many, p.sum)

    pub use_low : (b : ℕ) → In b in_use → b < s.count
    use_low b i = let r = join_in (λ k. blocks c s (o k)) b ks i in skeleton_low s (two s g) c (o r.0).top (o r.0).d free (p.bones r.0 r.1) b r.2

    pub parts_low : (b : ℕ) → In b (in_use ++ free) → b < s.count
    parts_low b i = elim (in_either b in_use free i) [ inl a ↦ use_low b a | inr a ↦ p.room.low b a ]

    pub use_distinct : Distinct in_use
    use_distinct = distinct-join (λ k. blocks c s (o k)) ks once (λ k i. surplus-distinct s (two s g) c (o k).top (o k).d 0 free (p.bones k i)) p.apart

    pub parts-distinct : Distinct (in_use ++ free)
    parts-distinct = distinct-both in_use free use_distinct p.room.apart
        (λ b i. let r = join_in (λ k. blocks c s (o k)) b ks i in skeleton_out s (two s g) c (o r.0).top (o r.0).d free (p.bones r.0 r.1) b r.2)

    -- every block is in a stream or free
    pub parts_all : (b : ℕ) → b < s.count → ((k : ℕ) × (In k ks) × (In b (blocks c s (o k)))) ⊎ In b free
    parts_all b l = elim (in_either b in_use free (all_of s.count (in_use ++ free) parts-distinct parts_low parts_many b l)) [
      | inl a ↦ inl (join_in (λ k. blocks c s (o k)) b ks a)
      | inr a ↦ inr a
    ]
