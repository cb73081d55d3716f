-- Pages: what a page has once it is turned to a place, and what an entry's piece says of the directory's bytes.
use mathlib.Core.Path.{◌≡◌, refl, sym, ap, ◌∙◌}
use mathlib.Core.Bool.{Bool}
use mathlib.Core.List.{List}
use Prim.Native.Nat.{ℕ, ◌+◌, ◌-◌, min, ◌≤◌, ◌<◌}
use native.Mathlib.Nat.{add-zero}
use native.Mathlib.Decide.{dec_le}
use native.Mathlib.Omega.{arith}
use lib.ListN.{length, get_or, take, drop, replicate, length-take, length-drop, length-replicate}
use lib.Seq.{ext_get_or, get_or-take, get_or-drop, take_all, drop-drop}
use Rattle.layout.specs.Bytes.{num, over, same}
use Rattle.layout.specs.Filing.{name_length, entry_at}
use Rattle.laws.proofs.ByteLaws.{over_in, length_over, take-over}
use Rattle.stream.proofs.Fields.{num-shift}
use Rattle.filing.specs.declared.pages.Page.{Page}
use Rattle.filing.specs.Paged.{page_size, piece_size, piece_at, Paged, Turned}
use Rattle.filing.proofs.Naming.{same_length}

-- ---- a piece

module _ (r : List ℕ) (at : ℕ) where
  piece_byte : (i : ℕ) → i < piece_size → get_or (piece_at r at) i 0 ≡ get_or r (at + i) 0
  piece_byte i h = get_or-take piece_size (drop at r) i 0 h ∙ get_or-drop at r i 0

  piece_num : (n o : ℕ) → o + n ≤ piece_size → num n (piece_at r at) o ≡ num n r (at + o)
  piece_num n o h = num-shift n (piece_at r at) r o (at + o) (λ i k. let b : at + o + i ≡ at + (o + i) = omega arith in rw b (piece_byte (o + i) (omega arith)))

  pub length_piece : length (piece_at r at) ≡ min piece_size (length r - at)
  length_piece = rw (length-take, length-drop)

  -- the part of it behind the head
  tail_short : (n : ℕ) → n ≤ 65 → take n (drop 6 (piece_at r at)) ≡ take n (drop (at + 6) r)
  tail_short n h = ext_get_or 0 _ _ (rw (length-take, length-drop, length_piece, length-take, length-drop) (omega arith)) (λ i k.
      let l : i < n = omega (arith, length-take n (drop 6 (piece_at r at))) in
      let b : at + 6 + i ≡ at + (6 + i) = omega arith in
      get_or-take n (drop 6 (piece_at r at)) i 0 l ∙ get_or-drop 6 (piece_at r at) i 0 ∙ piece_byte (6 + i) (omega arith) ∙ sym (get_or-take n (drop (at + 6) r) i 0 l ∙ rw b at (get_or-drop (at + 6) r i 0)))

  tail_last : length r ≤ at + piece_size → drop 6 (piece_at r at) ≡ drop (at + 6) r
  tail_last h = rw (take_all piece_size (drop at r) (rw length-drop (omega arith))) (drop-drop 6 at r)

  -- a name that no piece has whole is none of 64 bytes
  tail_same : (n : ℕ) (name : List ℕ) → length name ≤ 64 → same (take n (drop 6 (piece_at r at))) name ≡ same (take n (drop (at + 6) r)) name
  tail_same n name short = elim (dec_le n 65) [
    | yes h ↦ rw (tail_short n h)
    | no h ↦ elim (dec_le (length r) (at + piece_size)) [
      | yes k ↦ rw (tail_last k)
      | no k ↦ sym (same_length _ name (λ e. omega (arith, e, length-take n (drop 6 (piece_at r at)), length-drop 6 (piece_at r at), length_piece)))
          ∙ same_length _ name (λ e. omega (arith, e, length-take n (drop (at + 6) r), length-drop (at + 6) r))
    ]
  ]

  module _ (p : List ℕ) (e : p ≡ piece_at r at) where
    pub piece_index : (i : ℕ) → i ≡ num 4 p 0 → i ≡ num 4 r at
    piece_index i f = f ∙ rw e (rw (add-zero at) at (piece_num 4 0 (omega arith)))

    pub piece_length : (l : ℕ) → l ≡ name_length p 0 → l ≡ name_length r at
    piece_length l f = f ∙ rw e (piece_num 2 4 (omega arith))

    pub piece_name : name_length r at ≤ 65 → (entry_at p 0).name ≡ (entry_at r at).name
    piece_name h = rw (piece_length (name_length p 0) refl, e) (tail_short (name_length r at) h)

    pub piece_named : (name : List ℕ) (b : Bool) → length name ≤ 64 → b ≡ same (entry_at p 0).name name → b ≡ same (entry_at r at).name name
    piece_named name b short f = f ∙ rw (piece_length (name_length p 0) refl, e) (tail_same (name_length r at) name short)

  -- gathered by itself
  pub piece_gathered : (p : List ℕ) (size k e : ℕ) → p ≡ over (replicate piece_size 0) 0 (piece_at r at) → size ≡ length r → k ≡ size - at → e ≡ min piece_size k → take (e - 0) p ≡ piece_at r at
  piece_gathered p size k e f long g h = rw f (take-over (replicate piece_size 0) (piece_at r at) (e - 0) (rw length_piece (omega arith)) (rw length-replicate (omega arith)))

-- ---- a page

-- nothing is on a page that starts where the bytes end
pub page_blank : (r : List ℕ) (size : ℕ) → size ≡ length r → Paged (record { bytes = replicate page_size 0; from = size }) r
page_blank r size e = record { long = length-replicate {A = ℕ} page_size 0; reads = λ i h k. absurd (omega arith) }

pub page-gathered : (page page' r : List ℕ) (at : ℕ) → length page ≡ page_size → page' ≡ over page 0 (take (length page) (drop at r)) → Turned (record { bytes = page'; from = at }) at r
page-gathered page page' r at long g =
    let e = rw long at g in
    let vs = take page_size (drop at r) in
    let n = length-take page_size (drop at r) in
    let m = length-drop at r in
    record {
      paged = record {
        long = rw (e, length_over) long;
        reads = λ i h k. ap (λ (x : List ℕ). get_or x i 0) e ∙ over_in page 0 vs i i (omega arith) (omega arith) (omega arith) ∙ get_or-take page_size (drop at r) i 0 h ∙ get_or-drop at r i 0;
      };
      on = record { low = omega arith; high = omega arith };
    }

-- the piece on a page that is turned to it
pub turned_piece : (page : Page) (r : List ℕ) (at size m : ℕ) (w : Turned page at r) (long : size ≡ length r) (b : m ≡ min piece_size (size - at)) → take (at - page.from + m - (at - page.from)) (drop (at - page.from) page.bytes) ≡ piece_at r at
turned_piece page r at size m w long b =
    let o = at - page.from in
    let fits : o + m ≤ length page.bytes = omega (arith, w.on.low, w.on.high, w.paged.long) in
    let z : o + m - o ≡ m = omega arith in
    let l : length (take m (drop o page.bytes)) ≡ m = rw (length-take, length-drop) (omega (arith, fits)) in
    let l' : length (piece_at r at) ≡ m = rw length_piece (omega arith) in
    rw z (ext_get_or 0 (take m (drop o page.bytes)) (piece_at r at) (l ∙ sym l') (λ i k.
    let c : page.from + (o + i) ≡ at + i = omega (arith, w.on.low) in
    get_or-take m (drop o page.bytes) i 0 (omega arith) ∙ get_or-drop o page.bytes i 0 ∙ w.paged.reads (o + i) (omega (arith, fits, w.paged.long)) (omega (arith, w.on.low))
    ∙ ap (λ (x : ℕ). get_or r x 0) c ∙ sym (piece_byte r at i (omega arith))))
