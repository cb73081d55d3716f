-- Bytes laid block by block and row by row: what is left to lay on the card as it is equals the whole from the start.
use mathlib.Core.Path.{◌≡◌, refl, sym, ◌∙◌}
use mathlib.Core.Logic.{◌≢◌}
use mathlib.Core.List.{List}
use Prim.Native.Nat.{ℕ, zero, suc, ◌+◌, ◌-◌, ◌*◌, ◌/◌, ◌%◌, min, ◌≤◌, ◌<◌}
use native.Mathlib.Nat.{mul-le-mul_right}
use native.Mathlib.Decide.{ℕ_discrete, dec_le}
use native.Mathlib.Omega.{arith}
use lib.ListN.{length, take, drop, length-take, length-drop, drop_of_length-le}
use lib.Seq.{take_all}
use Rattle.layout.specs.Bytes.{over}
use Rattle.layout.specs.Blocks.{fan, place, slot, node}
use Rattle.layout.specs.Streams.{laid_row, laid_rows, laid}
use Rattle.laws.proofs.Picks.{eqb_yes, eqb_no}
use Rattle.laws.proofs.ByteLaws.{length_over}
use Rattle.laws.proofs.Rows.{row_none, rows_none}
use Rattle.layout.specs.declared.Shape.{Shape}

-- ---- a bound on the blocks or rows does not matter where it is not below the bytes

module _ (s : Shape) (some : 0 < s.size) where
  row_bound : (g g' : ℕ) (c : List ℕ) (b i r : ℕ) (vs : List ℕ) → r < s.size → length vs ≤ g → length vs ≤ g' → laid_row g c s b i r vs ≡ laid_row g' c s b i r vs
  unfolding laid_row
  row_bound zero g' c b i r vs l h k = sym (row_none g' c s b i r vs (omega arith))
  row_bound (suc g) zero c b i r vs l h k = row_none (suc g) c s b i r vs (omega arith)
  row_bound (suc g) (suc g') c b i r vs l h k = elim (ℕ_discrete (length vs) 0) [
    | yes z ↦ rw (eqb_yes z)
    | no z ↦ (let m = s.size - r in
        let n = length-drop m vs in
        rw (eqb_no {a = length vs} {b = 0} z) (row_bound g g' _ b (i + 1) 0 (drop m vs) some (omega arith) (omega arith)))
  ]

  wide_row : (i r : ℕ) → i < fan s → r < s.size → 1 ≤ (fan s - i) * s.size - r
  wide_row i r h k = let one : 1 * s.size ≤ (fan s - i) * s.size = mul-le-mul_right s.size (omega arith) in omega arith

  rows_bound : 0 < fan s → (g g' : ℕ) (c : List ℕ) (top h q i r : ℕ) (vs : List ℕ) → i < fan s → r < s.size → length vs ≤ g → length vs ≤ g'
      → laid_rows g c s top h q i r vs ≡ laid_rows g' c s top h q i r vs
  unfolding laid_rows
  rows_bound some' zero g' c top h q i r vs a l u v = sym (rows_none g' c s top h q i r vs (omega arith))
  rows_bound some' (suc g) zero c top h q i r vs a l u v = rows_none (suc g) c s top h q i r vs (omega arith)
  rows_bound some' (suc g) (suc g') c top h q i r vs a l u v = elim (ℕ_discrete (length vs) 0) [
    | yes z ↦ rw (eqb_yes z)
    | no z ↦ (let m = (fan s - i) * s.size - r in
        let n = length-drop m vs in
        let w = wide_row i r a l in
        rw (eqb_no {a = length vs} {b = 0} z) (rows_bound some' g g' _ top h (q + 1) 0 0 (drop m vs) some' some (omega arith) (omega arith)))
  ]

-- ---- a cut past the end is one at the end

module _ (vs : List ℕ) (w m : ℕ) (e : m ≡ min w (length vs)) where
  front : take w vs ≡ take m vs
  front = elim (dec_le w (length vs)) [
    | yes h ↦ (let t : m ≡ w = omega arith in rw t)
    | no h ↦ take_all w vs (omega arith) ∙ sym (take_all m vs (omega arith))
  ]

  rest : drop w vs ≡ drop m vs
  rest = elim (dec_le w (length vs)) [
    | yes h ↦ (let t : m ≡ w = omega arith in rw t)
    | no h ↦ drop_of_length-le vs {i = w} (omega arith) ∙ sym (drop_of_length-le vs {i = m} (omega arith))
  ]

-- ---- turns

module _ (s : Shape) (some : 0 < s.size) (vs vs₁ part : List ℕ) (m : ℕ) (more : length vs ≢ 0) (p : part ≡ take m vs) (o : vs₁ ≡ drop m vs) where
  pub lay-turn : (c c₁ : List ℕ) (b b' k r : ℕ) → r < s.size → m ≡ min (s.size - r) (length vs) → b' ≡ slot c s b k → c₁ ≡ over c (place s b' + r) part
      → laid_row (length vs₁) c₁ s b (k + 1) 0 vs₁ ≡ laid_row (length vs) c s b k r vs
  unfolding laid_row
  lay-turn c c₁ b b' k r low e a g = go (length vs) refl
    where
      go : (x : ℕ) → x ≡ length vs → laid_row (length vs₁) c₁ s b (k + 1) 0 vs₁ ≡ laid_row x c s b k r vs
      go zero z = absurd (omega arith)
      go (suc n) z =
          let w = s.size - r in
          let left : length vs₁ ≡ length vs - m = rw (o, length-drop) refl in
          rw (eqb_no {a = length vs} {b = 0} more, front vs w m e, rest vs w m e, ← p, ← o, g, a)
          (row_bound s some (length vs₁) n _ b (k + 1) 0 _ some (omega arith) (omega arith))

  pub lays_turn : (c c₁ : List ℕ) (top h q i r b : ℕ) → i < fan s → r < s.size → m ≡ min ((fan s - i) * s.size - r) (length vs) → b ≡ node c s top h q
      → c₁ ≡ laid_row (length part) c s b i r part
      → laid_rows (length vs₁) c₁ s top h (q + 1) 0 0 vs₁ ≡ laid_rows (length vs) c s top h q i r vs
  unfolding laid_rows
  lays_turn c c₁ top h q i r b a low e a' g = go (length vs) refl
    where
      go : (x : ℕ) → x ≡ length vs → laid_rows (length vs₁) c₁ s top h (q + 1) 0 0 vs₁ ≡ laid_rows x c s top h q i r vs
      go zero z = absurd (omega arith)
      go (suc n) z =
          let w = (fan s - i) * s.size - r in
          let wide = wide_row s some i r a low in
          let some' : 0 < fan s = omega arith in
          let left : length vs₁ ≡ length vs - m = rw (o, length-drop) refl in
          let piece : length part ≡ m = rw (p, length-take) (omega arith) in
          let same : c₁ ≡ laid_row (length vs) c s (node c s top h q) i r part = (rw a' at g) ∙ row_bound s some (length part) (length vs) c (node c s top h q) i r part low (omega arith) (omega arith) in
          rw (eqb_no {a = length vs} {b = 0} more, front vs w m e, rest vs w m e, ← p, ← o, ← same)
          (rows_bound s some some' (length vs₁) n c₁ top h (q + 1) 0 0 vs₁ some' some (omega arith) (omega arith))

-- ---- the start and the end

pub length-row : (g : ℕ) (c : List ℕ) (s : Shape) (b k r : ℕ) (vs : List ℕ) → length (laid_row g c s b k r vs) ≡ length c
unfolding laid_row
length-row zero c s b k r vs = refl
length-row (suc g) c s b k r vs = elim (ℕ_discrete (length vs) 0) [
  | yes z ↦ rw (eqb_yes z)
  | no z ↦ rw (eqb_no {a = length vs} {b = 0} z) (length-row g _ s b (k + 1) 0 (drop (s.size - r) vs) ∙ length_over c _ _)
]

pub laid-top : (c : List ℕ) (s : Shape) (top h p : ℕ) (vs : List ℕ) → h ≡ 0 → over c (place s top + p) vs ≡ laid c s top h p vs
unfolding laid
laid-top c s top h p vs e = rw e

pub laid-below : (c : List ℕ) (s : Shape) (top h p : ℕ) (vs : List ℕ) → 1 ≤ h
    → laid_rows (length vs) c s top (h - 1) (p / s.size / fan s) (p / s.size % fan s) (p % s.size) vs ≡ laid c s top h p vs
unfolding laid
laid-below c s top zero p vs h = absurd (omega arith)
laid-below c s top (suc h) p vs l = let t : suc h - 1 ≡ h = omega arith in rw t
