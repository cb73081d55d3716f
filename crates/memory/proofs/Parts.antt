-- A part of a slice, cut to what is there and written: it is `over` the whole from the place that was asked for.
use mathlib.Core.Path.{◌≡◌, refl, sym, ◌∙◌, ap}
use mathlib.Core.List.{List, ◌∷◌, ◌++◌}
use Prim.Native.Nat.{ℕ, zero, suc, ◌+◌, ◌-◌, ◌^◌, min, ◌≤◌, ◌<◌}
use native.Mathlib.Decide.{dec_lt}
use native.Mathlib.Omega.{arith}
use lib.ListN.{length, get_or, take, drop, replicate, drop_of_length-le, length-drop, length-take}
use lib.Seq.{ext_get_or, get_or-take, get_or-drop, take-take, take_all, drop-drop}
use borrow.Rule.Slice.PartMut.{put_mid}
use Rattle.layout.specs.Bytes.{over, spliced, put, bytes, num}
use Rattle.laws.proofs.ByteLaws.{over-take, over_past, over_in, over_out, take-over, num_past, length_over, length-bytes}
use Rattle.laws.proofs.Splice.{splice_over}

-- as many bytes as the part has, in its place
pub over_mid : (l ys : List ℕ) (a m : ℕ) → length ys ≡ m → a + m ≤ length l → put_mid a m l ys ≡ over l a ys
unfolding spliced
over_mid l ys a m n h =
    let d : drop m (drop a l) ≡ drop (a + length ys) l = drop-drop m a l ∙ ap (λ (i : ℕ). drop i l) (omega arith) in
    ap (λ (r : List ℕ). take a l ++ (ys ++ r)) d ∙ sym (splice_over l a ys (omega arith) l (omega arith) (λ q u. refl))

-- the bytes vs, cut to what the list has from `at` on
pub over_part : (l vs ys : List ℕ) (at a m : ℕ) → a ≡ min at (length l) → m ≡ min (length vs) (length l - a) → ys ≡ take m vs → put_mid a m l ys ≡ over l at vs
over_part l vs ys at a m e f g =
    let n : length ys ≡ m = rw (g, length-take) (omega arith) in
    over_mid l ys a m n (omega arith) ∙ elim (dec_lt (length l) at) [
      | yes u ↦ over_past ys l a (omega arith) ∙ sym (over_past vs l at (omega arith))
      | no u ↦ let same : a ≡ at = omega arith in rw (same, g) (over-take vs l at m (omega arith))
    ]

-- the same of bytes that a call laid over a part, as many as the part has room for
pub part_over : (l new vs : List ℕ) (at a k m n : ℕ) → a ≡ min at (length l) → k ≡ m → m ≡ min n (length l - a) → new ≡ over (take k (drop a l)) 0 (take (length (take k (drop a l))) vs) → put_mid a k l new ≡ over l at (take n vs)
part_over l new vs at a k m n d e f g =
    let part = take k (drop a l) in
    let long : length part ≡ m = rw (length-take, length-drop) (omega arith) in
    let new-is : new ≡ over part 0 (take m vs) = rw long at g in
    let same-long : length new ≡ m = ap length new-is ∙ length_over part 0 (take m vs) ∙ long in
    let some = length-take m vs in
    let each : (i : ℕ) → i < length (over l a new) → get_or (over l a new) i 0 ≡ get_or (over l a (take m vs)) i 0 =
    λ i h. let there : i < length l = omega (arith, h, length_over l a new) in elim (dec_lt i a) [
      | yes w ↦ over_out l a new i (λ x y. omega arith) ∙ sym (over_out l a (take m vs) i (λ x y. omega arith))
      | no w ↦ elim (dec_lt (i - a) (length (take m vs))) [
        | yes u ↦ over_in l a new i (i - a) (omega arith) (omega arith) there ∙ ap (λ (x : List ℕ). get_or x (i - a) 0) new-is ∙ over_in part 0 (take m vs) (i - a) (i - a) (omega arith) u (omega arith) ∙ sym (over_in l a (take m vs) i (i - a) (omega arith) u there)
        | no u ↦ elim (dec_lt (i - a) m) [
          | yes v ↦ over_in l a new i (i - a) (omega arith) (omega arith) there ∙ ap (λ (x : List ℕ). get_or x (i - a) 0) new-is ∙ over_out part 0 (take m vs) (i - a) (λ x y. omega arith) ∙ get_or-take k (drop a l) (i - a) 0 (omega arith) ∙ get_or-drop a l (i - a) 0 ∙ ap (λ (x : ℕ). get_or l x 0) (omega arith) ∙ sym (over_out l a (take m vs) i (λ x y. omega arith))
          | no v ↦ over_out l a new i (λ x y. omega arith) ∙ sym (over_out l a (take m vs) i (λ x y. omega arith))
        ]
      ]
    ] in
    let fewer : take m (take n vs) ≡ take m vs = take-take m n vs (omega arith) in
    let enough : min (length (take n vs)) (length l - a) ≤ m = rw length-take (omega arith) in
    over_mid l new a k (omega arith) (omega arith)
    ∙ ext_get_or 0 _ _ (length_over l a new ∙ sym (length_over l a (take m vs))) each
    ∙ ap (over l a) (sym fewer)
    ∙ over-take (take n vs) l a m enough
    ∙ elim (dec_lt (length l) at) [
      | yes u ↦ over_past (take n vs) l a (omega arith) ∙ sym (over_past (take n vs) l at (omega arith))
      | no u ↦ ap (λ (x : ℕ). over l x (take n vs)) (omega arith)
    ]

-- the same of the front
pub front_over : (l new vs : List ℕ) (k m n : ℕ) → k ≡ m → m ≡ min n (length l) → new ≡ over (take k (drop 0 l)) 0 (take (length (take k (drop 0 l))) vs) → put_mid 0 k l new ≡ over l 0 (take n vs)
front_over l new vs k m n e f g = part_over l new vs 0 0 k m n (omega arith) e (omega arith) g

-- written over from end to end
pub over-whole : (l vs : List ℕ) → length vs ≡ length l → over l 0 vs ≡ vs
over-whole l vs e =
    let n = length_over l 0 vs in
    sym (take_all (length l) (over l 0 vs) (omega arith)) ∙ take-over l vs (length l) (sym e) (omega arith)

-- a number that fills a list
pub put-all : (l : List ℕ) (v : ℕ) → put (length l) l 0 v ≡ bytes (length l) v
unfolding put
put-all l v = over-whole l (bytes (length l) v) (length-bytes (length l) v)

-- a number put into the part of its width
pub put_part : (l mid new : List ℕ) (at a m v : ℕ) → a ≡ min at (length l) → m ≤ length l - a → length mid ≡ m → new ≡ put (length mid) mid 0 v → put_mid a m l new ≡ put m l at v
unfolding put
put_part l mid new at a m v e f g h =
    let n : length (bytes m v) ≡ m = length-bytes m v in
    over_part l (bytes m v) new at a m e (rw n (omega arith)) (h ∙ put-all mid v ∙ ap (λ (k : ℕ). bytes k v) g ∙ sym (take_all m (bytes m v) (omega arith)))

-- numbers of the same bytes
num_shift : (n : ℕ) (l l' : List ℕ) (p q : ℕ) → ((i j k : ℕ) → i < n → j ≡ p + i → k ≡ q + i → get_or l j 0 ≡ get_or l' k 0) → num n l p ≡ num n l' q
unfolding num
num_shift zero l l' p q h = refl
num_shift (suc n) l l' p q h =
    let r : num n l (p + 1) ≡ num n l' (q + 1) = num_shift n l l' (p + 1) (q + 1) (λ i j k u e f. h (i + 1) j k (omega arith) (omega arith) (omega arith)) in
    rw (h 0 p q (omega arith) (omega arith) (omega arith), r) refl

-- the number in a part is that of its place
pub num_run : (l : List ℕ) (at w k v : ℕ) → k ≡ w → at + w ≤ length l → (v ≡ num (length (take k (drop at l))) (take k (drop at l)) 0) × (v < 256 ^ length (take k (drop at l)))
    → (v ≡ num w l at) × (v < 256 ^ w)
num_run l at w k v e h (f, g) =
    let n : length (take k (drop at l)) ≡ w = rw (length-take, length-drop) (omega arith) in (
      f ∙ rw n (num_shift w (take k (drop at l)) l 0 at (λ i j q u x y. get_or-take k (drop at l) j 0 (omega arith) ∙ get_or-drop at l j 0 ∙ ap (λ (r : ℕ). get_or l r 0) (omega arith))),
      rw n at g,
    )

-- and so is the number in what is left of a list from `at` on
pub num_tail : (l : List ℕ) (at a k v : ℕ) → a ≡ min at (length l) → k ≡ length l - a → (v ≡ num (length (take k (drop a l))) (take k (drop a l)) 0) × (v < 256 ^ length (take k (drop a l)))
    → (v ≡ num (length l - at) l at) × (v < 256 ^ (length l - at))
num_tail l at a k v e m h =
    let (f, g) = num_run l a (length l - at) k v (omega arith) (omega arith) h in
    let t : num (length l - at) l a ≡ num (length l - at) l at = elim (dec_lt (length l) at) [
      | yes u ↦ num_past (length l - at) l a (omega arith) ∙ sym (num_past (length l - at) l at (omega arith))
      | no u ↦ ap (num (length l - at) l) (omega arith)
    ] in
    (f ∙ t, g)

pub take-zeros : (n m : ℕ) → m ≤ n → replicate {A = ℕ} m 0 ≡ take m (replicate {A = ℕ} n 0)
take-zeros n zero h = refl
take-zeros zero (suc m) h = absurd (omega arith)
take-zeros (suc n) (suc m) h = ap (λ (l : List ℕ). 0 ∷ l) (take-zeros n m (omega arith))

-- a part of a source, cut to what the source has
pub part_of : (src : List ℕ) (from a n m k : ℕ) → a ≡ min from (length src) → k ≡ m → m ≤ n → take k (drop a src) ≡ take m (take n (drop from src))
part_of src from a n m k e f h =
    rw f (sym (take-take m n (drop from src) h ∙ ap (take m) (elim (dec_lt (length src) from) [
      | yes u ↦ drop_of_length-le src {i = from} (omega arith) ∙ sym (drop_of_length-le src {i = a} (omega arith))
      | no u ↦ let same : from ≡ a = omega arith in rw same refl
    ])))
