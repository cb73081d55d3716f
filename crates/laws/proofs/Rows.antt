-- Laying in the order in which it is done, row by row and block by block, is laying every byte where it stood at first: no data block is a redirector.
use mathlib.Core.Path.{◌≡◌, refl, sym, ap, ◌∙◌}
use mathlib.Core.List.{List, [], ◌∷◌}
use Prim.Native.Nat.{ℕ, zero, suc, ◌+◌, ◌-◌, ◌*◌, ◌/◌, ◌%◌, ◌≤◌, ◌<◌}
use native.Mathlib.Nat.{mod-lt, div-add-mod', mul-le-mul_right, add-mul, add-zero, add-suc}
use native.Mathlib.Decide.{ℕ_discrete, dec_le}
use native.Mathlib.Omega.{arith}
use lib.ListN.{length, get_or, take, drop, length-take, length-drop}
use lib.Seq.{get_or-drop, take-nil, take-suc, take-take, take_all, drop-drop}
use Rattle.layout.specs.Bytes.{over}
use Rattle.layout.specs.Pyramid.{level}
use Rattle.layout.specs.Blocks.{fan, place, slot, node}
use Rattle.layout.specs.Streams.{spot, tall, contents, laid_to, laid_row, laid_rows, laid}
use Rattle.laws.proofs.Picks.{eqb_yes, eqb_no}
use Rattle.laws.proofs.ByteLaws.{over-append}
use Rattle.laws.proofs.Levels.{div_is, mod_is, level_holds}
use Rattle.laws.proofs.Chain.{Good, Room}
use Rattle.laws.proofs.Hanging.{two}
use Rattle.laws.proofs.Growth.{Skeleton}
use Rattle.laws.proofs.Laying.{data_in, laid-node, contents-laid_to}
use Rattle.layout.specs.declared.Shape.{Shape}

-- no bytes, no change
pub row_none : (g : ℕ) (c : List ℕ) (s : Shape) (b i r : ℕ) (vs : List ℕ) → length vs ≡ 0 → laid_row g c s b i r vs ≡ c
unfolding laid_row
row_none zero c s b i r vs e = refl
row_none (suc g) c s b i r vs e = rw (eqb_yes e)

pub rows_none : (g : ℕ) (c : List ℕ) (s : Shape) (top h q i r : ℕ) (vs : List ℕ) → length vs ≡ 0 → laid_rows g c s top h q i r vs ≡ c
unfolding laid_rows
rows_none zero c s top h q i r vs e = refl
rows_none (suc g) c s top h q i r vs e = rw (eqb_yes e)

-- a part of a part
pub cut_part : (m w : ℕ) (l : List ℕ) → m ≤ w → drop m (take w l) ≡ take (w - m) (drop m l)
cut_part zero w l h = let e : w - 0 ≡ w = omega arith in rw e
cut_part (suc m) zero l h = absurd (omega arith)
cut_part (suc m) (suc w) [] h = sym (take-nil (suc w - suc m))
cut_part (suc m) (suc w) (x ∷ l) h = let e : suc w - suc m ≡ w - m = omega arith in rw e (cut_part m w l (omega arith))

module _ (s : Shape) (good : Good s) (c : List ℕ) (top h d p : ℕ) (vs free : List ℕ) (room : Room c s free) (sk : Skeleton c s top h d free)
    (fits : p + length vs ≤ d * s.size) where
  -- the card once the first n bytes are laid
  abbrev L : ℕ → List ℕ
  L n = laid_to n c s top h p vs

  big : 0 < s.size
  big = omega (arith, good.wide)

  -- ---- bytes within one block

  same_block : (q k : ℕ) → q % s.size + k < s.size → spot c s top h (q + k) ≡ spot c s top h q + k
  same_block q k l =
      let e = div-add-mod' q s.size in
      let a : (q + k) / s.size ≡ q / s.size = div_is {r = q % s.size + k} (omega (arith, e)) l in
      let b : (q + k) % s.size ≡ q % s.size + k = mod_is (q / s.size) (omega (arith, e)) l in
      rw (a, b) (omega arith)

  chunk : (n k : ℕ) → n + k ≤ length vs → (p + n) % s.size + k ≤ s.size → L (n + k) ≡ over (L n) (spot c s top h (p + n)) (take k (drop n vs))
  unfolding laid_to over
  chunk n zero a b = rw add-zero
  chunk n (suc k) a b =
      let ds = drop n vs in
      let at = spot c s top h (p + n) in
      let long : k < length ds = rw length-drop (omega arith) in
      let lk : length (take k ds) ≡ k = rw length-take (omega arith) in
      let e : p + (n + k) ≡ p + n + k = omega arith in
      let place_is : spot c s top h (p + (n + k)) ≡ at + length (take k ds) = rw (e, same_block (p + n) k (omega arith), lk) in
      let byte-is : get_or vs (n + k) 0 ≡ get_or ds k 0 = sym (get_or-drop n vs k 0) in
      rw (add-suc n k, place_is, byte-is, chunk n k (omega arith) (omega arith), take-suc ds k 0 long) (sym (over-append (L n) at (take k ds) (get_or ds k 0 ∷ [])))

  module _ (h' : ℕ) (tall-is : h ≡ suc h') where
    -- the redirector above data block j, and its slot, as the card is after n bytes
    low_is : (n q i : ℕ) → n ≤ length vs → i < fan s → q * fan s + i < d → node (L n) s top h' q ≡ node c s top h' q
    unfolding level
    low_is n q i a b l =
        let f2 = two s good in
        let e : (q * fan s + i) / fan s ≡ q = div_is {r = i} refl b in
        laid-node s good c top h d p vs free room sk n h' 1 q (omega arith) (omega arith) (rw e at (level_holds (fan s) f2 0 d (q * fan s + i) l))

    slot_is : (n q i : ℕ) → n ≤ length vs → i < fan s → q * fan s + i < d → slot (L n) s (node c s top h' q) i ≡ node c s top h (q * fan s + i)
    unfolding node level
    slot_is n q i a b l =
        let j = q * fan s + i in
        let e : j / fan s ≡ q = div_is {r = i} refl b in
        let m : j % fan s ≡ i = mod_is q refl b in
        let t : node (L n) s top (suc h') j ≡ node c s top (suc h') j = laid-node s good c top h d p vs free room sk n (suc h') 0 j (omega arith) (omega arith) l in
        let u : slot (L n) s (node (L n) s top h' q) i ≡ slot c s (node c s top h' q) i = rw (e, m) at t in
        let v : slot c s (node c s top h' q) i ≡ node c s top (suc h') j = rw (e, m) in
        rw (low_is n q i a b l) at u ∙ v ∙ ap (λ (x : ℕ). node c s top x j) (sym tall-is)

    -- ---- block by block

    row : (g n w q i r : ℕ) → w ≤ g → n + w ≤ length vs → r < s.size → p + n ≡ (q * fan s + i) * s.size + r → i * s.size + r + w ≤ fan s * s.size
        → laid_row g (L n) s (node c s top h' q) i r (take w (drop n vs)) ≡ L (n + w)
    unfolding laid_row
    row zero n w q i r a b u e f = let z : n ≡ n + w = omega arith in ap L z
    row (suc g) n w q i r a b u e f = elim (ℕ_discrete w 0) [
      | yes z ↦ rw (z, add-zero n) (row_none (suc g) (L n) s (node c s top h' q) i r [] refl)
      | no z ↦ (
          let ws = take w (drop n vs) in
          let j = q * fan s + i in
          let lw : length ws ≡ w = rw (length-take, length-drop) (omega arith) in
          let i-low : i < fan s = elim (dec_le (fan s) i) [ yes x ↦ absurd (omega (arith, mul-le-mul_right s.size x)) | no x ↦ omega arith ] in
          let dv : (p + n) / s.size ≡ j = div_is {r = r} e u in
          let md : (p + n) % s.size ≡ r = mod_is j e u in
          let j-low : j < d = rw dv at (data_in s good c top h d p vs free room sk (p + n) (omega arith)) in
          let at-is : place s (slot (L n) s (node c s top h' q) i) + r ≡ spot c s top h (p + n) = rw (slot_is n q i (omega arith) i-low j-low, dv, md) in
          let m = s.size - r in
          rw (eqb_no {a = length ws} {b = 0} (omega arith), at-is) (elim (dec_le w m) [
            | yes x ↦ rw (take_all m ws (omega arith), ← chunk n w b (omega arith)) (row_none g (L (n + w)) s (node c s top h' q) (i + 1) 0 (drop m ws) (rw length-drop (omega arith)))
            | no x ↦ (let t : take m ws ≡ take m (drop n vs) = take-take m w (drop n vs) (omega arith) in
                let rest : drop m ws ≡ take (w - m) (drop (n + m) vs) = cut_part m w (drop n vs) (omega arith) ∙ ap (take (w - m)) (drop-drop m n vs) in
                let sum : n + m + (w - m) ≡ n + w = omega arith in
                let next : p + (n + m) ≡ (q * fan s + (i + 1)) * s.size + 0 = omega arith in
                let room_left : (i + 1) * s.size + 0 + (w - m) ≤ fan s * s.size = omega arith in
                rw (t, ← chunk n m (omega arith) (omega arith), rest) (row g (n + m) (w - m) q (i + 1) 0 (omega arith) (omega arith) big next room_left ∙ ap L sum))
          ]))
    ]

    -- ---- and row by row

    rows : (g n q i r : ℕ) → length vs ≤ n + g → n ≤ length vs → r < s.size → i < fan s → p + n ≡ (q * fan s + i) * s.size + r
        → laid_rows g (L n) s top h' q i r (drop n vs) ≡ L (length vs)
    unfolding laid_rows
    rows zero n q i r a b u v e = let z : n ≡ length vs = omega arith in ap L z
    rows (suc g) n q i r a b u v e = elim (ℕ_discrete n (length vs)) [
      | yes z ↦ rows_none (suc g) (L n) s top h' q i r (drop n vs) (rw length-drop (omega arith)) ∙ ap L z
      | no z ↦ (
          let ds = drop n vs in
          let ld : length ds ≡ length vs - n = length-drop n vs in
          let m = (fan s - i) * s.size - r in
          let whole : i * s.size + (fan s - i) * s.size ≡ fan s * s.size = split_up i v in
          let one : s.size ≤ (fan s - i) * s.size = omega (arith, mul-le-mul_right s.size (let x : 1 ≤ fan s - i = omega arith in x)) in
          let dv : (p + n) / s.size ≡ q * fan s + i = div_is {r = r} e u in
          let j-low : q * fan s + i < d = rw dv at (data_in s good c top h d p vs free room sk (p + n) (omega arith)) in
          rw (eqb_no {a = length ds} {b = 0} (omega arith), low_is n q i b v j-low) (elim (dec_le (length ds) m) [
            | yes x ↦ (let t : take m ds ≡ take (length ds) ds = take_all m ds x ∙ sym (take_all (length ds) ds (omega arith)) in
                let end : n + length ds ≡ length vs = omega arith in
                rw (t, row (length ds) n (length ds) q i r (omega arith) (omega arith) u e (omega arith))
                (rows_none g (L (n + length ds)) s top h' (q + 1) 0 0 (drop m ds) (rw length-drop (omega arith)) ∙ ap L end))
            | no x ↦ (let next : p + (n + m) ≡ ((q + 1) * fan s + 0) * s.size + 0 = over-row q i r m whole e (omega arith) in
                rw (row (length ds) n m q i r (omega arith) (omega arith) u e (omega arith), drop-drop m n vs)
                (rows g (n + m) (q + 1) 0 0 (omega arith) (omega arith) big (omega (arith, two s good)) next))
          ]))
    ]
      where
        split_up : (i : ℕ) → i < fan s → i * s.size + (fan s - i) * s.size ≡ fan s * s.size
        split_up i l = let t : i + (fan s - i) ≡ fan s = omega arith in sym (add-mul i (fan s - i) s.size) ∙ ap (λ (x : ℕ). x * s.size) t

        over-row : (q i r m : ℕ) → i * s.size + (fan s - i) * s.size ≡ fan s * s.size → p + n ≡ (q * fan s + i) * s.size + r → r + m ≡ (fan s - i) * s.size
            → p + (n + m) ≡ ((q + 1) * fan s + 0) * s.size + 0
        over-row q i r m a b e =
            let z = s.size in
            let x : (q * fan s + i) * z ≡ q * fan s * z + i * z = add-mul (q * fan s) i z in
            let y : (q + 1) * fan s ≡ q * fan s + fan s = omega (arith, add-mul q 1 (fan s)) in
            let w : ((q + 1) * fan s + 0) * z ≡ q * fan s * z + fan s * z = ap (λ (t : ℕ). t * z) (let u : (q + 1) * fan s + 0 ≡ q * fan s + fan s = omega arith in u) ∙ add-mul (q * fan s) (fan s) z in
            omega arith

  -- ---- one block alone is its own row

  single : h ≡ 0 → d ≤ 1
  unfolding node level
  single e = elim (dec_le d 1) [
    | yes l ↦ l
    | no l ↦ absurd (let z = sk.apart 0 0 0 0 0 1 (omega arith) (omega arith) (omega arith) (omega arith) refl in omega (arith, z.1))
  ]

  flat : h ≡ 0 → over c (place s top + p) vs ≡ L (length vs)
  unfolding node laid_to over
  flat e = elim (ℕ_discrete (length vs) 0) [
    | yes z ↦ rw (nil vs z)
    | no z ↦ (
        let one : d * s.size ≤ s.size = omega (arith, mul-le-mul_right s.size (single e)) in
        let low : p < s.size = omega arith in
        let dv : p / s.size ≡ 0 = div_is {r = p} (omega arith) low in
        let md : p % s.size ≡ p = mod_is 0 (omega arith) low in
        let e₀ : p + 0 ≡ p = omega arith in
        let at-is : spot c s top h (p + 0) ≡ place s top + p = rw (e₀, dv, md, e) in
        let all : take (length vs) vs ≡ vs = take_all (length vs) vs (omega arith) in
        let sum : 0 + length vs ≡ length vs = omega arith in
        sym (ap L (sym sum) ∙ chunk 0 (length vs) (omega arith) (rw (e₀, md) (omega arith)) ∙ rw (at-is, all)))
  ]
    where
      nil : (l : List ℕ) → length l ≡ 0 → l ≡ []
      nil [] e = refl
      nil (x ∷ l) e = absurd (omega arith)

  -- ---- the whole

  laid_flat : h ≡ 0 → laid c s top 0 p vs ≡ L (length vs)
  unfolding laid
  laid_flat e = flat e

  laid_rows_lem : (h' : ℕ) → h ≡ suc h' → laid c s top (suc h') p vs ≡ L (length vs)
  unfolding laid laid_to
  laid_rows_lem h' e =
      let j = p / s.size in
      let f0 : 0 < fan s = omega (arith, two s good) in
      let at-is : p + 0 ≡ (j / fan s * fan s + j % fan s) * s.size + p % s.size =
      rw (div-add-mod' j (fan s)) (omega (arith, div-add-mod' p s.size)) in
      rows h' e (length vs) 0 (j / fan s) (j % fan s) (p % s.size) (omega arith) (omega arith) (mod-lt p big) (mod-lt j f0) at-is

  pub laid_is : laid c s top h p vs ≡ laid_to (length vs) c s top h p vs
  laid_is = go h refl
    where
      go : (x : ℕ) → h ≡ x → laid c s top h p vs ≡ laid_to (length vs) c s top h p vs
      go zero e = ap (λ (x : ℕ). laid c s top x p vs) e ∙ laid_flat e
      go (suc h') e = ap (λ (x : ℕ). laid c s top x p vs) e ∙ laid_rows_lem h' e

-- what was laid is what is read
pub contents-laid : (s : Shape) (good : Good s) (c : List ℕ) (top d size p : ℕ) (vs free : List ℕ) → Room c s free → Skeleton c s top (tall s d) d free
    → size ≤ d * s.size → p + length vs ≤ size → contents (laid c s top (tall s d) p vs) s top d size ≡ over (contents c s top d size) p vs
contents-laid s good c top d size p vs free room sk within fits =
    rw (laid_is s good c top (tall s d) d p vs free room sk (omega arith)) (contents-laid_to s good c top d size p vs free room sk within fits)
