-- The header stays: the same shape, and rules 1 to 3 hold again.
use mathlib.Core.Path.{◌≡◌, refl, sym, ap, ap₂, ◌∙◌}
use mathlib.Core.List.{List, [], ◌∷◌}
use Prim.Native.Nat.{ℕ, ◌+◌, ◌≤◌, ◌<◌}
use native.Mathlib.Omega.{arith}
use lib.ListN.{length, get_or}
use lib.Dec.{eqb}
use Rattle.layout.specs.Bytes.{both, matches}
use Rattle.layout.specs.Header.{shaped, shape_of, shift_of, head1, head2, head3, head4, fixed}
use Rattle.laws.proofs.Hanging.{NotField}
use Rattle.laws.proofs.State.{Headed}
use Rattle.layout.specs.declared.Shape.{Shape}

-- byte i is not in the table's descriptor
abbrev pub NotTable : Shape → ℕ → Type 0
NotTable s i = s.table ≤ i → i < s.table + 25 → ⊥

-- the same bytes match
pub matches_agree : (l l' : List ℕ) (at : ℕ) (vs : List ℕ) → ((i : ℕ) → at ≤ i → i < at + length vs → get_or l' i 0 ≡ get_or l i 0) → matches l' at vs ≡ matches l at vs
unfolding matches
matches_agree l l' at [] e = refl
matches_agree l l' at (v ∷ vs) e =
    ap₂ both (ap (λ (x : ℕ). eqb x v) (e at (omega arith) (omega arith))) (matches_agree l l' (at + 1) vs (λ i a b. e i (omega arith) (omega arith)))

module _ (c c' : List ℕ) (s : Shape) (sh : shape_of c ≡ s) (long : length c' ≡ length c)
    (head : (i : ℕ) → i < s.base → NotField s i → NotTable s i → get_or c' i 0 ≡ get_or c i 0) where
  -- the places, as the header has them
  places : (s.base ≡ 87) × (s.first ≡ 27) × (s.table ≡ 45)
  unfolding shape_of
  places = (sym (ap (λ (t : Shape). t.base) sh), sym (ap (λ (t : Shape). t.first) sh), sym (ap (λ (t : Shape). t.table) sh))

  byte : (i : ℕ) → i < 87 → (27 ≤ i → i < 35 → ⊥) → (45 ≤ i → i < 70 → ⊥) → get_or c' i 0 ≡ get_or c i 0
  byte i l a b = let p = places in head i (omega (arith, p.0)) (λ u v. a (omega (arith, p.1)) (omega (arith, p.1))) (λ u v. b (omega (arith, p.2)) (omega (arith, p.2)))

  shift : shift_of c' ≡ shift_of c
  shift = byte 25 (omega arith) (omega arith) (omega arith)

  pub shape_same : shape_of c' ≡ s
  unfolding shape_of
  shape_same = ap₂ shaped long shift ∙ sh

  fixed_same : fixed c' ≡ fixed c
  unfolding fixed
  fixed_same = ap₂ both (matches_agree c c' 0 head1 (λ i a b. byte i (omega arith) (omega arith) (omega arith)))
      (ap₂ both (matches_agree c c' 26 head2 (λ i a b. byte i (omega arith) (omega arith) (omega arith)))
      (ap₂ both (matches_agree c c' 35 head3 (λ i a b. byte i (omega arith) (omega arith) (omega arith))) (matches_agree c c' 70 head4 (λ i a b. byte i (omega arith) (omega arith) (omega arith)))))

  pub headed-same : Headed c → Headed c'
  headed-same h = record {
    long = rw long h.long;
    values = rw fixed_same h.values;
    least = rw shift h.least;
    most = rw shift h.most;
    whole = rw (shift, long) h.whole;
    some = rw (shift, long) h.some;
    few = rw (shift, long) h.few;
  }
