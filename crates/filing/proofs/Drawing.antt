-- Pulling forward page by page is laying all of it at once, as it stood at first: where no block of the stream stands twice.
use mathlib.Core.Path.{◌≡◌, refl, sym, ap, ◌∙◌}
use mathlib.Core.List.{List, [], ◌++◌}
use Prim.Native.Nat.{ℕ, zero, suc, ◌+◌, ◌-◌, ◌*◌, ◌/◌, min, ◌≤◌, ◌<◌}
use native.Mathlib.Nat.{add-zero, add-suc}
use native.Mathlib.Decide.{dec_le}
use native.Mathlib.Omega.{arith}
use lib.ListN.{length, get_or, take, drop, length-append, length-drop, take-append-drop, drop_of_length-le, get_or-append}
use lib.Dec.{T}
use lib.Seq.{ext_get_or, get_or-drop, get_or-append-add, drop-drop}
use Rattle.layout.specs.Bytes.{over}
use Rattle.layout.specs.Pyramid.{level}
use Rattle.layout.specs.Blocks.{chain}
use Rattle.layout.specs.Streams.{data_of, spot, tall, laid_to, laid_rows, laid, stream, stream_bytes, in_stream}
use Rattle.layout.specs.Filing.{Entry, entries, entry_bytes, reads, nothing, with_entry, without_entry, extended, pulled}
use Rattle.laws.proofs.Picks.{leb_yes, leb_no}
use Rattle.laws.proofs.ByteLaws.{over_out, length_over}
use Rattle.laws.proofs.Chain.{Good, Room}
use Rattle.laws.proofs.Growth.{Skeleton}
use Rattle.laws.proofs.Laying.{data_in, laid-node, laid_skeleton, laid-room, length-contents}
use Rattle.laws.proofs.Rows.{laid_is, contents-laid}
use Rattle.laws.proofs.Lists.{In}
use Rattle.laws.proofs.Entries.{with_length, with_new, without_length, without_rest}
use Rattle.laws.proofs.State.{lives_of, Core, right_fits, length-stream}
use Rattle.laws.proofs.Cores.{core_good, owner_stream}
use Rattle.laws.proofs.Moves.{stream_right}
use Rattle.filing.specs.Edited.{page, bytes_of, moved, entered, drawn, removed}
use Rattle.filing.proofs.Editing.{length_part}
use Rattle.layout.specs.declared.Shape.{Shape}
use Rattle.layout.specs.declared.Desc.{Desc}

-- ---- bytes laid, and more bytes after them

laid_to_agree : (s : Shape) (top h n : ℕ) (c : List ℕ) (p : ℕ) (vs ws : List ℕ) → ((i : ℕ) → i < n → get_or vs i 0 ≡ get_or ws i 0) → laid_to n c s top h p vs ≡ laid_to n c s top h p ws
unfolding laid_to
laid_to_agree s top h zero c p vs ws e = refl
laid_to_agree s top h (suc n) c p vs ws e = rw (laid_to_agree s top h n c p vs ws (λ i l. e i (omega arith)), e n (omega arith))

laid_none : (c : List ℕ) (s : Shape) (top h p : ℕ) → laid c s top h p [] ≡ c
unfolding laid laid_rows over
laid_none c s top zero p = refl
laid_none c s top (suc h) p = refl

module _ (s : Shape) (good : Good s) (c : List ℕ) (top h d p : ℕ) (vs ws free : List ℕ) (room : Room c s free) (sk : Skeleton c s top h d free)
    (fits : p + length vs + length ws ≤ d * s.size) where
  abbrev c₁ : List ℕ
  c₁ = laid_to (length vs) c s top h p vs

  spot-same : (q : ℕ) → q < d * s.size → spot c₁ s top h q ≡ spot c s top h q
  unfolding level
  spot-same q l = rw (laid-node s good c top h d p vs free room sk (length vs) h 0 (q / s.size) (omega arith) (omega arith) (data_in s good c top h d p vs free room sk q l))

  after : (m : ℕ) → m ≤ length ws → laid_to m c₁ s top h (p + length vs) ws ≡ laid_to (length vs + m) c s top h p (vs ++ ws)
  unfolding laid_to
  after zero l = rw (add-zero (length vs)) (laid_to_agree s top h (length vs) c p vs (vs ++ ws) (λ i k. sym (get_or-append vs ws 0 i k)))
  after (suc m) l =
      let e : p + length vs + m ≡ p + (length vs + m) = omega arith in
      rw (add-suc (length vs) m, after m (omega arith), e, spot-same (p + (length vs + m)) (omega arith), get_or-append-add vs ws m 0)

  pub laid_follows : laid (laid c s top h p vs) s top h (p + length vs) ws ≡ laid c s top h p (vs ++ ws)
  laid_follows =
      let a = laid_is s good c top h d p vs free room sk (omega arith) in
      let n : p + length (vs ++ ws) ≤ d * s.size = rw length-append (omega arith) in
      let b = laid_is s good c top h d p (vs ++ ws) free room sk n in
      let r = laid-room s good c top h d p vs free room sk (length vs) (omega arith) in
      let k = laid_skeleton s good c top h d p vs free room sk (length vs) (omega arith) in
      let f = laid_is s good c₁ top h d (p + length vs) ws free r k (omega arith) in
      rw (a, b, length-append vs ws) (f ∙ after (length ws) (omega arith))

-- ---- page by page

drop-over : (l : List ℕ) (at : ℕ) (vs : List ℕ) (q : ℕ) → at + length vs ≤ q → drop q (over l at vs) ≡ drop q l
drop-over l at vs q h = ext_get_or 0 _ _ (rw (length-drop, length-drop, length_over))
    (λ i k. get_or-drop q (over l at vs) i 0 ∙ over_out l at vs (q + i) (λ a b. omega arith) ∙ sym (get_or-drop q l i 0))

module _ (s : Shape) (good : Good s) (t : Desc) (free : List ℕ) (within : t.size ≤ data_of s t * s.size) where
  abbrev d : ℕ
  d = data_of s t

  nothing_left : (c : List ℕ) (p q : ℕ) → t.size ≤ q → c ≡ laid c s t.top (tall s d) p (drop q (bytes_of c s t))
  nothing_left c p q h = rw (drop_of_length-le (bytes_of c s t) {i = q} (rw length-contents h)) (sym (laid_none c s t.top (tall s d) p))

  pub drawn_is : (g : ℕ) (c : List ℕ) (p q : ℕ) → Room c s free → Skeleton c s t.top (tall s d) d free → p ≤ q → t.size ≤ q + g
      → drawn g c s t p q ≡ laid c s t.top (tall s d) p (drop q (bytes_of c s t))
  unfolding drawn
  drawn_is zero c p q room sk a h = nothing_left c p q (omega arith)
  drawn_is (suc g) c p q room sk a h = elim (dec_le t.size q) [
    | yes l ↦ rw (leb_yes {a = t.size} {b = q} l) (nothing_left c p q l)
    | no l ↦ (
        let n = min page (t.size - q) in
        let old = bytes_of c s t in
        let vs = take n (drop q old) in
        let ws = drop n (drop q old) in
        let ln : length vs ≡ n = length_part c s t q n (omega arith) in
        let lw : length ws ≡ t.size - q - n = rw (length-drop, length-drop, length-contents) in
        let c₂ = moved c s t p q n in
        let is : c₂ ≡ laid_to (length vs) c s t.top (tall s d) p vs = laid_is s good c t.top (tall s d) d p vs free room sk (omega arith) in
        let room₂ : Room c₂ s free = rw is (laid-room s good c t.top (tall s d) d p vs free room sk (length vs) (omega arith)) in
        let sk₂ : Skeleton c₂ s t.top (tall s d) d free = rw is (laid_skeleton s good c t.top (tall s d) d p vs free room sk (length vs) (omega arith)) in
        let bytes₂ : bytes_of c₂ s t ≡ over old p vs = contents-laid s good c t.top d t.size p vs free room sk within (omega arith) in
        let rest : drop (q + n) (bytes_of c₂ s t) ≡ ws = rw (bytes₂, drop-over old p vs (q + n) (omega arith)) (sym (drop-drop n q old)) in
        let more : laid c₂ s t.top (tall s d) (p + n) ws ≡ laid c s t.top (tall s d) p (drop q old) =
        ap (λ (x : ℕ). laid c₂ s t.top (tall s d) (p + x) ws) (sym ln)
        ∙ laid_follows s good c t.top (tall s d) d p vs ws free room sk (omega arith)
        ∙ ap (laid c s t.top (tall s d) p) (take-append-drop n (drop q old)) in
        rw (leb_no {a = t.size} {b = q} (omega arith)) (drawn_is g c₂ (p + n) (q + n) room₂ sk₂ (omega arith) (omega arith) ∙ ap (laid c₂ s t.top (tall s d) (p + n)) rest ∙ more))
  ]

-- ---- a directory with an entry more, and with one less

pub entered_is : (c : List ℕ) (s : Shape) (k p index : ℕ) (name r : List ℕ) → length r ≡ p → entered c s k p index name ≡ extended c s k p (with_entry r index name)
unfolding entered extended
entered_is c s k p index name r e =
    let a : drop p (with_entry r index name) ≡ entry_bytes index name = rw e at (with_new r index name) in
    let b : length (with_entry r index name) ≡ p + 6 + length name = rw e at (with_length r index name) in
    rw (a, b)

module _ (c : List ℕ) (s : Shape) (w : Core c s) (k : ℕ) (lk : In k (lives_of c s)) (r : List ℕ) (is : stream_bytes c s k ≡ r) (i : ℕ) (reading : T (reads r)) (there : i < length (entries r)) where
  abbrev t : Desc
  t = stream c s k

  abbrev e : Entry
  e = get_or (entries r) i nothing

  abbrev n : ℕ
  n = 6 + length e.name

  all-drawn : drawn t.size c s t e.at (e.at + n) ≡ in_stream c s k e.at (drop e.at (without_entry r e))
  unfolding in_stream stream_bytes
  all-drawn =
      let to : e.at + n ≡ e.at + 6 + length e.name = omega arith in
      drawn_is s (core_good c s w) t (chain c s) (right_fits s (core_good c s w) t (stream_right c s w k lk)) t.size c e.at (e.at + n) w.parts.room (w.parts.bones (suc k) (owner_stream c s w k lk)) (omega arith) (omega arith)
      ∙ rw (to, without_rest r i reading there, is)

  pub removed_is : removed c s k e.at n ≡ pulled c s k e.at (without_entry r e)
  unfolding removed pulled
  removed_is =
      let long : t.size - n ≡ length (without_entry r e) = omega (arith, without_length r i reading there, length-stream c s k, ap length is) in
      rw (all-drawn, long)
