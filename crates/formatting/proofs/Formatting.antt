-- A new card: numbers and fixed values laid one after the other are the header, and links laid one by one the chain.
use mathlib.Core.Path.{◌≡◌, refl, ◌∙◌}
use mathlib.Core.List.{List, [], ◌∷◌, ◌++◌}
use Prim.Native.Nat.{ℕ, suc, ◌+◌, ◌-◌, ◌<◌}
use native.Mathlib.Nat.{zero-add, mod-eq_of_lt}
use native.Mathlib.Omega.{arith}
use lib.ListN.{length, replicate, length-append}
use lib.Dec.{eqb}
use Rattle.layout.specs.Bytes.{pick, bytes, over, put, end4, end8}
use Rattle.layout.specs.Blocks.{place, slot_place}
use Rattle.layout.specs.Header.{head1, head2, head3, head4, new_header}
use Rattle.layout.specs.Calls.{links_from, formatted_in}
use Rattle.laws.proofs.ByteLaws.{length-bytes, over-append}
use Rattle.formatting.specs.Front.{new_front}
use Rattle.layout.specs.declared.Shape.{Shape}

-- ---- the header

-- the n bytes xs are laid from the start of l
abbrev Laid : List ℕ → List ℕ → List ℕ → ℕ → Type 0
Laid l l₁ xs n = (l₁ ≡ over l 0 xs) × (length xs ≡ n)

more : (l l₁ l₂ xs ys : List ℕ) (n m : ℕ) → Laid l l₁ xs n → l₂ ≡ over l₁ n ys → length ys ≡ m → Laid l l₂ (xs ++ ys) (n + m)
more l l₁ l₂ xs ys n m h e f = (e ∙ rw (h.0, over-append l 0 xs ys, h.1, zero-add n), rw (length-append, h.1, f))

pub front_put : (l l₁ l₂ l₃ l₄ : List ℕ) (s : Shape) (shift b : ℕ) → shift < 256 → b ≡ pick (eqb s.count 1) end8 1 → l₁ ≡ over l 0 head1 → l₂ ≡ put 1 l₁ 25 shift → l₃ ≡ over l₂ 26 head2
    → l₄ ≡ put 8 l₃ 27 b → l₄ ≡ over l 0 (new_front shift s)
unfolding put
front_put l l₁ l₂ l₃ l₄ s shift b small eb e₁ e₂ e₃ e₄ =
    let one : bytes 1 shift ≡ shift ∷ [] = unfold bytes in rw (mod-eq_of_lt small) in
    let a₁ : Laid l l₁ head1 25 = (e₁, refl) in
    let a₂ = more l l₁ l₂ head1 (shift ∷ []) 25 1 a₁ (rw one at e₂) refl in
    let a₃ = more l l₂ l₃ (head1 ++ (shift ∷ [])) head2 26 1 a₂ e₃ refl in
    (more l l₃ l₄ (head1 ++ (shift ∷ []) ++ head2) (bytes 8 (pick (eqb s.count 1) end8 1)) 27 8 a₃ (rw eb at e₄) (length-bytes 8 _)).0

pub header_put : (l l₁ l₂ l₃ l₄ l₅ l₆ l₇ : List ℕ) (s : Shape) (shift : ℕ) → l₁ ≡ over l 0 (new_front shift s) → l₂ ≡ over l₁ 35 head3 → l₃ ≡ put 8 l₂ 45 33 → l₄ ≡ put 8 l₃ 53 0
    → l₅ ≡ put 8 l₄ 61 s.size → l₆ ≡ put 1 l₅ 69 0 → l₇ ≡ over l₆ 70 head4 → l₇ ≡ over l 0 (new_header shift s)
unfolding put new_header
header_put l l₁ l₂ l₃ l₄ l₅ l₆ l₇ s shift e₁ e₂ e₃ e₄ e₅ e₆ e₇ =
    let last : bytes 1 0 ≡ 0 ∷ [] = unfold bytes in refl in
    let n : length (new_front shift s) ≡ 35 = simp (length-append, length-bytes) refl in
    let a₁ : Laid l l₁ (new_front shift s) 35 = (e₁, n) in
    let a₂ = more l l₁ l₂ (new_front shift s) head3 35 10 a₁ e₂ refl in
    let a₃ = more l l₂ l₃ (new_front shift s ++ head3) (bytes 8 33) 45 8 a₂ e₃ (length-bytes 8 33) in
    let a₄ = more l l₃ l₄ (new_front shift s ++ head3 ++ bytes 8 33) (bytes 8 0) 53 8 a₃ e₄ (length-bytes 8 0) in
    let a₅ = more l l₄ l₅ (new_front shift s ++ head3 ++ bytes 8 33 ++ bytes 8 0) (bytes 8 s.size) 61 8 a₄ e₅ (length-bytes 8 s.size) in
    let a₆ = more l l₅ l₆ (new_front shift s ++ head3 ++ bytes 8 33 ++ bytes 8 0 ++ bytes 8 s.size) (0 ∷ []) 69 1 a₅ (rw last at e₆) refl in
    (more l l₆ l₇ (new_front shift s ++ head3 ++ bytes 8 33 ++ bytes 8 0 ++ bytes 8 s.size ++ (0 ∷ [])) head4 70 17 a₆ e₇ refl).0

-- ---- the chain

module _ (s : Shape) where
  link_from : (n m b : ℕ) (c c' : List ℕ) (v : ℕ) → n ≡ suc m → v ≡ pick (eqb (b + 1) s.count) end4 (b + 1) → c' ≡ put 4 c (slot_place s b 0) v → links_from m (b + 1) s c' ≡ links_from n b s c
  unfolding links_from
  link_from n m b c c' v e f g = let p : slot_place s b 0 ≡ place s b = omega arith in rw (e, g, f, p)

  pub link_step : (b : ℕ) (c c' : List ℕ) (v : ℕ) → b < s.count → v ≡ pick (eqb (b + 1) s.count) end4 (b + 1) → c' ≡ put 4 c (slot_place s b 0) v
      → links_from (s.count - (b + 1)) (b + 1) s c' ≡ links_from (s.count - b) b s c
  link_step b c c' v h f g = link_from (s.count - b) (s.count - (b + 1)) b c c' v (omega arith) f g

  pub link_end : (n b : ℕ) (c : List ℕ) → n ≡ 0 → links_from n b s c ≡ c
  unfolding links_from
  link_end n b c e = rw e

-- ---- the whole card

pub all_new : (c c₁ c₂ c₃ c₄ : List ℕ) (s : Shape) (shift p : ℕ) → c₁ ≡ replicate (length c) 0 → c₂ ≡ over c₁ 0 (new_header shift s) → c₃ ≡ links_from (s.count - 1) 1 s c₂
    → p ≡ place s 0 → c₄ ≡ put 8 c₃ p end8 → c₄ ≡ formatted_in (length c) shift s
unfolding put
all_new c c₁ c₂ c₃ c₄ s shift p f g h u v = v ∙ rw (u, h, g, f)
