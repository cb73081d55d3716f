-- Bytes gathered block by block: what is left to gather from here equals the whole from the start.
use mathlib.Core.Path.{◌≡◌, refl, sym, ap, ◌∙◌}
use mathlib.Core.List.{List, [], ◌∷◌, ◌++◌, map}
use Prim.Native.Nat.{ℕ, zero, suc, ◌+◌, ◌-◌, ◌*◌, ◌/◌, ◌%◌, min, ◌≤◌, ◌<◌}
use native.Mathlib.Nat.{add-zero, zero-add, add-mul, mod-lt, div-add-mod', mul-le-mul, mul-le-mul_right, min-eq_left}
use native.Mathlib.Decide.{dec_le, dec_lt}
use native.Mathlib.Omega.{arith}
use lib.ListN.{length, get_or, take, drop, drop_of_length-le, length-take, length-drop}
use lib.Seq.{take_all, take_at, drop_at}
use borrow.Rule.Slice.PartMut.{put_mid}
use Rattle.layout.specs.Bytes.{over, window, run}
use Rattle.layout.specs.Blocks.{fan, place, slot, node}
use Rattle.layout.specs.Streams.{spot, tall, contents}
use Rattle.laws.proofs.ByteLaws.{over-append}
use Rattle.laws.proofs.Windows.{window_past}
use Rattle.memory.proofs.Parts.{over_mid, over-whole}
use Rattle.laws.proofs.Levels.{div_is, mod_is}
use Rattle.blocks.proofs.Near.{cap}
use Rattle.laying.specs.Gathered.{gathered}
use Rattle.layout.specs.declared.Shape.{Shape}

-- ---- numbers of one row

pub row_fits : (s : Shape) (i : ℕ) → s.size ≤ 4096 → (fan s - i) * s.size ≤ 4194304
row_fits s i most = let a : fan s - i ≤ 1024 = omega arith in omega (arith, mul-le-mul a most)

pub row_room : (s : Shape) (i r : ℕ) → i < fan s → r < s.size → r < (fan s - i) * s.size
row_room s i r h k = let one : 1 * s.size ≤ (fan s - i) * s.size = mul-le-mul_right s.size (omega arith) in omega arith

-- a place that is no number of 64 bits is past the end of every card
pub window-near : (c : List ℕ) → length c ≤ cap → (x m : ℕ) → m ≡ min x cap → (n : ℕ) → window c m n ≡ window c x n
window-near c whole x m e n = elim (dec_lt x cap) [
  | yes k ↦ rw (e, min-eq_left {n = x} {m = cap} (omega arith))
  | no k ↦ window_past c m n (omega arith) ∙ sym (window_past c x n (omega arith))
]

-- a part of a tray that a call filled
pub filled : (l new : List ℕ) (a k m : ℕ) (f : ℕ → List ℕ) → ((n : ℕ) → length (f n) ≡ n) → k ≡ m → a + m ≤ length l → new ≡ f (length (take k (drop a l))) → put_mid a k l new ≡ over l a (f m)
filled l new a k m f len e h g =
    let n : length (take k (drop a l)) ≡ m = rw (length-take, length-drop) (omega arith) in
    let new-is : new ≡ f m = rw n at g in
    rw e (over_mid l new a m (ap length new-is ∙ len m) h ∙ ap (over l a) new-is)

module _ (c : List ℕ) (s : Shape) (block : ℕ → ℕ) where
  pub length-gathered : (p n : ℕ) → length (gathered c s block p n) ≡ n
  unfolding gathered
  length-gathered p zero = refl
  length-gathered p (suc n) = ap suc (length-gathered (p + 1) n)

  pub gathered-append : (p m n : ℕ) → gathered c s block p (m + n) ≡ gathered c s block p m ++ gathered c s block (p + m) n
  unfolding gathered
  gathered-append p zero n = rw (zero-add n, add-zero p)
  gathered-append p (suc m) n =
      let e : suc m + n ≡ suc (m + n) = omega arith in
      let f : p + suc m ≡ p + 1 + m = omega arith in
      rw (e, f) (ap (λ (t : List ℕ). get_or c (place s (block (p / s.size)) + p % s.size) 0 ∷ t) (gathered-append (p + 1) m n))

  pub gathered_none : (p n : ℕ) → n ≡ 0 → gathered c s block p n ≡ []
  unfolding gathered
  gathered_none p n e = rw e

  pub gathered_end : (tray : List ℕ) (to p left : ℕ) → left ≤ 0 → tray ≡ over tray to (gathered c s block p left)
  unfolding over
  gathered_end tray to p left l = rw (gathered_none p left (omega arith))

  -- within one block
  gathered-block : (k r n : ℕ) → r + n ≤ s.size → gathered c s block (k * s.size + r) n ≡ window c (place s (block k) + r) n
  unfolding gathered window
  gathered-block k r zero h = refl
  gathered-block k r (suc n) h =
      let p = k * s.size + r in
      let low : r < s.size = omega arith in
      let dv : p / s.size ≡ k = div_is {r = r} refl low in
      let md : p % s.size ≡ r = mod_is k refl low in
      let e : p + 1 ≡ k * s.size + (r + 1) = omega arith in
      let f : place s (block k) + r + 1 ≡ place s (block k) + (r + 1) = omega arith in
      rw (dv, md, e, f) (ap (λ (t : List ℕ). get_or c (place s (block k) + r) 0 ∷ t) (gathered-block k (r + 1) n (omega arith)))

  -- a tray as long as what is gathered takes it all
  pub gathered_whole : (tray : List ℕ) (p n left : ℕ) → n ≡ length tray → left ≡ n → over tray 0 (gathered c s block p left) ≡ gathered c s block p n
  gathered_whole tray p n left e f = rw f (over-whole tray (gathered c s block p n) (length-gathered p n ∙ e))

  -- a piece is done, and the rest goes on behind it
  pub piece_turn : (p p' m left left' to : ℕ) (tray tray₁ piece : List ℕ) → left ≡ m + left' → gathered c s block p m ≡ piece → (0 < left' → p' ≡ p + m) → tray₁ ≡ over tray to piece
      → over tray₁ (to + m) (gathered c s block p' left') ≡ over tray to (gathered c s block p left)
  piece_turn p p' m left left' to tray tray₁ piece t e f g =
      let rest : gathered c s block p' left' ≡ gathered c s block (p + m) left' = elim (dec_lt 0 left') [
        | yes l ↦ rw (f l)
        | no l ↦ gathered_none p' left' (omega arith) ∙ sym (gathered_none (p + m) left' (omega arith))
      ] in
      let whole : gathered c s block p left ≡ piece ++ gathered c s block (p + m) left' = ap (gathered c s block p) t ∙ gathered-append p m left' ∙ rw e in
      let n : length piece ≡ m = ap length (sym e) ∙ length-gathered p m in
      rw (g, rest, whole, over-append, n)

  pub block-turn : (k r m left left' to b : ℕ) (tray tray₁ : List ℕ) → r < s.size → m ≡ min (s.size - r) left → left ≡ m + left' → b ≡ block k
      → tray₁ ≡ over tray to (window c (place s b + r) m)
      → over tray₁ (to + m) (gathered c s block ((k + 1) * s.size + 0) left') ≡ over tray to (gathered c s block (k * s.size + r) left)
  block-turn k r m left left' to b tray tray₁ low e t a g =
      let z : (k + 1) * s.size ≡ k * s.size + s.size = omega (arith, add-mul k 1 s.size) in
      piece_turn (k * s.size + r) ((k + 1) * s.size + 0) m left left' to tray tray₁ _ t (rw a (gathered-block k r m (omega arith))) (λ l. omega arith) g

-- ---- one block, over and over

module _ (c : List ℕ) (s : Shape) (some : 0 < s.size) (top : ℕ) where
  abbrev all : ℕ → ℕ → List ℕ
  all = gathered c s (node c s top 0)

  pub same-top : (k p n : ℕ) → all (k * s.size + p) n ≡ all p n
  unfolding gathered node
  same-top k p zero = refl
  same-top k p (suc n) =
      let x = k * s.size + p in
      let u = div-add-mod' p s.size in
      let z : (k + p / s.size) * s.size ≡ k * s.size + p / s.size * s.size = add-mul k (p / s.size) s.size in
      let md : x % s.size ≡ p % s.size = mod_is (k + p / s.size) (omega arith) (mod-lt p some) in
      let e : x + 1 ≡ k * s.size + (p + 1) = omega arith in
      rw (md, e) (ap (λ (t : List ℕ). get_or c (place s top + p % s.size) 0 ∷ t) (same-top k (p + 1) n))

  pub top_start : (p n : ℕ) → all (0 * s.size + p % s.size) n ≡ all p n
  top_start p n = same-top 0 (p % s.size) n ∙ sym (same-top (p / s.size) (p % s.size) n) ∙ ap (λ (q : ℕ). all q n) (div-add-mod' p s.size)

  -- whatever number is asked for
  pub only_top : (k : ℕ) {x : ℕ} → x ≡ top → x ≡ node c s top 0 k
  unfolding node
  only_top k e = e

-- ---- the blocks below one redirector

module _ (c : List ℕ) (s : Shape) (some : 0 < s.size) (top : ℕ) (h : ℕ) where
  below : (q x m : ℕ) → x + m ≤ fan s * s.size → gathered c s (node c s top (suc h)) (q * fan s * s.size + x) m ≡ gathered c s (slot c s (node c s top h q)) x m
  unfolding gathered node
  below q x zero l = refl
  below q x (suc m) l =
      let z = s.size in
      let y = x / z in
      let u = div-add-mod' x z in
      let p = q * fan s * z + x in
      let a : p ≡ (q * fan s + y) * z + x % z = omega (arith, add-mul (q * fan s) y z) in
      let dv : p / z ≡ q * fan s + y = div_is a (mod-lt x some) in
      let md : p % z ≡ x % z = mod_is (q * fan s + y) a (mod-lt x some) in
      let low : y < fan s = elim (dec_le (fan s) y) [ yes k ↦ absurd (omega (arith, mul-le-mul_right z k)) | no k ↦ omega arith ] in
      let up_is : (q * fan s + y) / fan s ≡ q = div_is {r = y} refl low in
      let slot_is : (q * fan s + y) % fan s ≡ y = mod_is q refl low in
      let e : p + 1 ≡ q * fan s * z + (x + 1) = omega arith in
      rw (dv, md, e, up_is, slot_is) (ap (λ (t : List ℕ). get_or c (place s (slot c s (node c s top h q) y) + x % z) 0 ∷ t) (below q (x + 1) m (omega arith)))

  row-turn : (q i r m left left' to : ℕ) (tray tray₁ : List ℕ) → i < fan s → r < s.size → m ≡ min ((fan s - i) * s.size - r) left → left ≡ m + left'
      → tray₁ ≡ over tray to (gathered c s (slot c s (node c s top h q)) (i * s.size + r) m)
      → over tray₁ (to + m) (gathered c s (node c s top (suc h)) (((q + 1) * fan s + 0) * s.size + 0) left')
      ≡ over tray to (gathered c s (node c s top (suc h)) ((q * fan s + i) * s.size + r) left)
  row-turn q i r m left left' to tray tray₁ low low' e t g =
      let z = s.size in
      let f = fan s in
      let w : i * z + (f - i) * z ≡ f * z = let u : i + (f - i) ≡ f = omega arith in sym (add-mul i (f - i) z) ∙ ap (λ (x : ℕ). x * z) u in
      let a : (q * f + i) * z + r ≡ q * f * z + (i * z + r) = omega (arith, add-mul (q * f) i z) in
      let y : (q + 1) * f + 0 ≡ q * f + f = omega (arith, add-mul q 1 f) in
      let b : ((q + 1) * f + 0) * z ≡ q * f * z + f * z = ap (λ (t : ℕ). t * z) y ∙ add-mul (q * f) f z in
      let one : 1 * z ≤ (f - i) * z = mul-le-mul_right z (omega arith) in
      let piece = ap (λ (t : ℕ). gathered c s (node c s top (suc h)) t m) a ∙ below q (i * z + r) m (omega arith) in
      piece_turn c s (node c s top (suc h)) ((q * f + i) * z + r) (((q + 1) * f + 0) * z + 0) m left left' to tray tray₁ _ t piece (λ l. omega arith) g

  rows_start : (p n : ℕ) → gathered c s (node c s top (suc h)) ((p / s.size / fan s * fan s + p / s.size % fan s) * s.size + p % s.size) n
      ≡ gathered c s (node c s top (suc h)) p n
  rows_start p n =
      let e : (p / s.size / fan s * fan s + p / s.size % fan s) * s.size + p % s.size ≡ p = rw (div-add-mod' (p / s.size) (fan s)) (div-add-mod' p s.size) in
      ap (λ (t : ℕ). gathered c s (node c s top (suc h)) t n) e

module _ (c : List ℕ) (s : Shape) (some : 0 < s.size) (top : ℕ) where
  pub rows_turn : (h q i r m left left' to b : ℕ) (tray tray₁ : List ℕ) → 0 < h → i < fan s → r < s.size → m ≡ min ((fan s - i) * s.size - r) left → left ≡ m + left' → b ≡ node c s top (h - 1) q
      → tray₁ ≡ over tray to (gathered c s (slot c s b) (i * s.size + r) m)
      → over tray₁ (to + m) (gathered c s (node c s top h) (((q + 1) * fan s + 0) * s.size + 0) left')
      ≡ over tray to (gathered c s (node c s top h) ((q * fan s + i) * s.size + r) left)
  rows_turn zero q i r m left left' to b tray tray₁ l u v e w a g = absurd (omega arith)
  rows_turn (suc h) q i r m left left' to b tray tray₁ l u v e w a g =
      let t : suc h - 1 ≡ h = omega arith in
      row-turn c s some top h q i r m left left' to tray tray₁ u v e w (rw (a, t) at g)

  pub rows_begin : (h p n : ℕ) → 0 < h → gathered c s (node c s top h) ((p / s.size / fan s * fan s + p / s.size % fan s) * s.size + p % s.size) n
      ≡ gathered c s (node c s top h) p n
  rows_begin zero p n l = absurd (omega arith)
  rows_begin (suc h) p n l = rows_start c s some top h p n

-- ---- a stream's contents

module _ (c : List ℕ) (s : Shape) (block : ℕ → ℕ) where
  drop-gathered : (p b n : ℕ) → drop p (gathered c s block b n) ≡ gathered c s block (b + p) (n - p)
  drop-gathered p b n = elim (dec_le p n) [
    | yes l ↦ (let t : n ≡ p + (n - p) = omega arith in
        ap (λ (x : ℕ). drop p (gathered c s block b x)) t ∙ rw (gathered-append c s block b p (n - p)) (drop_at (gathered c s block b p) (gathered c s block (b + p) (n - p)) p (length-gathered c s block b p)))
    | no l ↦ drop_of_length-le (gathered c s block b n) {i = p} (rw (length-gathered c s block b n) (omega arith)) ∙ sym (gathered_none c s block (b + p) (n - p) (omega arith))
  ]

  take-gathered : (k p n : ℕ) → take k (gathered c s block p n) ≡ gathered c s block p (min k n)
  take-gathered k p n = elim (dec_le k n) [
    | yes l ↦ (let t : n ≡ k + (n - k) = omega arith in
        let m : min k n ≡ k = omega arith in
        ap (λ (x : ℕ). take k (gathered c s block p x)) t ∙ rw (gathered-append c s block p k (n - k), m) (take_at (gathered c s block p k) (gathered c s block (p + k) (n - k)) k (length-gathered c s block p k)))
    | no l ↦ (let m : min k n ≡ n = omega arith in rw m (take_all k _ (rw (length-gathered c s block p n) (omega arith))))
  ]

  pub part_gathered : (k p n : ℕ) → take k (drop p (gathered c s block 0 n)) ≡ gathered c s block p (min k (n - p))
  part_gathered k p n = rw (drop-gathered p 0 n, zero-add p) (take-gathered k p (n - p))

spots : (c : List ℕ) (s : Shape) (top h from n : ℕ) → map (λ p. get_or c (spot c s top h p) 0) (run from n) ≡ gathered c s (node c s top h) from n
unfolding run gathered
spots c s top h from zero = refl
spots c s top h from (suc n) = ap (λ (t : List ℕ). get_or c (spot c s top h from) 0 ∷ t) (spots c s top h (from + 1) n)

pub contents-gathered : (c : List ℕ) (s : Shape) (top d size : ℕ) → contents c s top d size ≡ gathered c s (node c s top (tall s d)) 0 size
unfolding contents
contents-gathered c s top d size = spots c s top (tall s d) 0 size

-- the whole promise, by the bytes that are there and have room
module _ (c : List ℕ) (s : Shape) (top d size p there m : ℕ) (tray : List ℕ) (e : m ≡ min there (length tray)) (f : there ≡ size - p) where
  gather_is : gathered c s (node c s top (tall s d)) p m ≡ take (length tray) (drop p (contents c s top d size))
  gather_is =
      let n : m ≡ min (length tray) (size - p) = omega arith in
      rw (contents-gathered c s top d size, part_gathered c s (node c s top (tall s d)) (length tray) p size, n)

  pub gather_done : (h k : ℕ) (new : List ℕ) → h ≡ tall s d → k ≡ m → new ≡ gathered c s (node c s top h) p (length (take k (drop 0 tray)))
      → put_mid 0 k tray new ≡ over tray 0 (take (length tray) (drop p (contents c s top d size)))
  gather_done h k new t u g =
      filled tray new 0 k m (gathered c s (node c s top h) p) (length-gathered c s (node c s top h) p) u (omega arith) g ∙ rw t (ap (over tray 0) gather_is)

  pub gather_none : m ≡ 0 → tray ≡ over tray 0 (take (length tray) (drop p (contents c s top d size)))
  unfolding over
  gather_none z = rw (gathered_none c s (node c s top (tall s d)) p m z) at (ap (over tray 0) gather_is)
