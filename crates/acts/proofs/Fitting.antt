-- On a card that passes its check numbers fit: what the acts ask for can be met.
use mathlib.Core.Path.{refl, ◌≡◌}
use mathlib.Core.Logic.{◌≢◌, inl}
use mathlib.Core.List.{List, [], ◌∷◌}
use Prim.Native.Nat.{ℕ, ◌*◌, ◌/◌, ◌%◌, ◌^◌, ◌-◌, ◌≤◌, ◌<◌}
use native.Mathlib.Nat.{mul-le-mul, pow-le-pow_right, div-add-mod'}
use native.Mathlib.Omega.{arith}
use lib.ListN.{length}
use lib.Dec.{T}
use Rattle.layout.specs.Limits.{least_shift, most_shift, most_blocks}
use Rattle.layout.specs.Bytes.{num, end8}
use Rattle.layout.specs.Streams.{table, table_bytes, first_desc, desc_chain, stream}
use Rattle.layout.specs.Header.{head_length, shaped, shape_of, shift_of, good_shape}
use Rattle.laws.proofs.Tests.{is_both, is_leb, is_eqb}
use Rattle.laws.proofs.Lists.{In}
use Rattle.laws.proofs.Links.{Links}
use Rattle.laws.proofs.Lives.{lives_in}
use Rattle.laws.proofs.State.{lives_of, Right, Core, right_fits}
use Rattle.laws.proofs.Cores.{core_good, size_few, count-few, core_frees}
use Rattle.layout.specs.Ranges.{Small}
use Rattle.blocks.specs.Narrow.{Narrow}
use Rattle.acts.specs.Fits.{Fits}
use Rattle.layout.specs.declared.Shape.{Shape}
use Rattle.layout.specs.declared.Desc.{Desc}
use Rattle.laws.proofs.Moves as moves

-- ---- a good shape is small, and so narrow

narrowed : {c : List ℕ} {s : Shape} → Small c s → Narrow s
narrowed h = record { base = h.base; least = h.least; most = h.most; count = h.count; first = h.first; table = h.table }

shaped-small : (c : List ℕ) (shift : ℕ) → least_shift ≤ shift → shift ≤ most_shift → head_length ≤ length c → (length c - head_length) % 2 ^ shift ≡ 0 → (length c - head_length) / 2 ^ shift ≤ most_blocks
    → Small c (shaped (length c) shift)
shaped-small c shift l m h r n =
    let size : 2 ^ shift ≤ 4096 = pow-le-pow_right {n = 2} (omega arith) m in
    let e = div-add-mod' (length c - head_length) (2 ^ shift) in
    let z = mul-le-mul n size in
    record {
      base = omega arith;
      least = pow-le-pow_right {n = 2} (omega arith) l;
      most = size;
      count = n;
      first = omega arith;
      table = omega arith;
      whole = omega arith;
    }

-- what format asks for, where the shape is good
pub new_small : (c : List ℕ) (shift : ℕ) → T (good_shape (length c) shift) → Small c (shaped (length c) shift) × (shift < 256)
unfolding good_shape
new_small c shift t =
    let n = length c - head_length in
    let z = 2 ^ shift in
    let r = (is_both (is_both (is_leb least_shift shift) (is_leb shift most_shift)) (is_both (is_leb head_length (length c)) (is_both (is_eqb (n % z) 0) (is_both (is_leb 1 (n / z)) (is_leb (n / z) most_blocks))))).out t in
    (shaped-small c shift r.0.0 r.0.1 r.1.0 r.1.1.0 r.1.1.1.1, omega (arith, r.0.1))

pub new_narrow : (c : List ℕ) (shift : ℕ) → T (good_shape (length c) shift) → Narrow (shaped (length c) shift) × (shift < 256)
new_narrow c shift t = let (h, k) = new_small c shift t in (narrowed h, k)

-- ---- numbers that fit

module _ (c : List ℕ) (s : Shape) (w : Core c s) where
  whole-low : s.count * s.size ≤ 4096 * 4096
  whole-low = omega (arith, mul-le-mul (count-few c s w) (size_few c s w))

  pub right_low : (t : Desc) → Right s t → t.size ≤ 4096 * 4096
  right_low t r = omega (arith, right_fits s (core_good c s w) t r, whole-low, mul-le-mul r.fits (let z : s.size ≤ s.size = omega arith in z))

  first-low : (o : ℕ) (xs : List ℕ) → Links (num 8 (table_bytes c s)) o xs → ((x : ℕ) → In x xs → x < 2 ^ 61) → o ≢ end8 → o < 2 ^ 61
  first-low o [] l h n = absurd (n l)
  first-low o (x ∷ xs) l h n = rw l.0 (h x (inl refl))

  pub fits : Fits c s
  fits = record {
    size_of_table = omega (arith, right_low (table c s) w.right);
    first = first-low (first_desc (table_bytes c s)) (desc_chain (table_bytes c s)) (core_frees c s w).links (λ x i. let r = (core_frees c s w).gone x i in omega (arith, r.1, r.3, w.few));
  }

  pub live-low : (k : ℕ) → In k (lives_of c s) → (k < 2 ^ 56) × ((stream c s k).size < 2 ^ 61)
  live-low k i = (omega (arith, (lives_in (table_bytes c s) k i).0, w.few), omega (arith, right_low (stream c s k) (moves.stream_right c s w k i)))

pub small : (c : List ℕ) → Core c (shape_of c) → Small c (shape_of c)
unfolding shape_of
small c w = let h = w.headed in shaped-small c (shift_of c) h.least h.most h.long h.whole h.few

pub narrow : (c : List ℕ) → Core c (shape_of c) → Narrow (shape_of c)
narrow c w = narrowed (small c w)
