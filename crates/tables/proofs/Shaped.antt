-- Descriptors and the table's rule, test by test.
use mathlib.Core.Path.{◌≡◌, sym, ◌∙◌}
use mathlib.Core.List.{List}
use Prim.Native.Nat.{ℕ, ◌-◌, ◌*◌, ◌/◌, ◌%◌, ◌≤◌}
use native.Mathlib.Nat.{div-add-mod', add-zero}
use native.Mathlib.Decide.{ℕ_discrete}
use native.Mathlib.Omega.{arith}
use lib.ListN.{length, replicate}
use lib.Dec.{eqb, leb}
use borrow.Author.Tests.{eq-eqb, ne_eqb}
use Rattle.layout.specs.Bytes.{both, over}
use Rattle.layout.specs.Pyramid.{up}
use Rattle.layout.specs.Marks.{mark_ok}
use Rattle.layout.specs.Blocks.{surplus}
use Rattle.layout.specs.Streams.{data_of, table, table_blocks}
use Rattle.layout.specs.Sound.{right_desc, rule4}
use Rattle.laws.proofs.Levels.{div_is, mod_is}
use Rattle.laws.proofs.Marking.{mark-separate}
use Rattle.marking.proofs.Walking.{cleared}
use Rattle.layout.specs.declared.Shape.{Shape}
use Rattle.layout.specs.declared.Desc.{Desc}

-- ---- a descriptor by itself

-- so many whole blocks, by the quotient and the rest
pub reserve_is : (m n a : ℕ) → 64 ≤ m → eqb a (up m n * m) ≡ both (eqb (up m n) (a / m)) (eqb (a % m) 0)
reserve_is m n a least = elim (ℕ_discrete a (up m n * m)) [
  | yes e ↦ (let w = e ∙ sym (add-zero _) in
      rw (eq-eqb a (up m n * m) e, eq-eqb (up m n) (a / m) (sym (div_is {r = 0} w (omega arith))), eq-eqb (a % m) 0 (mod_is (up m n) w (omega arith))))
  | no o ↦ rw (ne_eqb a (up m n * m) o) (elim (ℕ_discrete (up m n) (a / m)) [
    | no k ↦ rw (ne_eqb (up m n) (a / m) k)
    | yes k ↦ (let w = div-add-mod' a m in rw (eq-eqb (up m n) (a / m) k, ne_eqb (a % m) 0 (λ z. o (omega (arith, rw (← k) at w, z)))))
  ])
]

-- ---- rule 4

-- test by test, with the blocks apart where they can be marked on cleared marks
pub rule4_is : (c : List ℕ) (s : Shape) (t : Desc) → t ≡ table c s → (m m₁ : List ℕ) → s.count ≤ length m → m₁ ≡ over m 0 (replicate s.count 0)
    → both (eqb ((t.size - 8) % 25) 0) (both (leb 33 t.size) (both (leb t.size 6408) (both (right_desc s t) (mark_ok s.count m₁ (surplus c s t.top (data_of s t) 0))))) ≡ rule4 c s
unfolding rule4 table_blocks
rule4_is c s t e m m₁ l a =
    let y = cleared m m₁ s.count l a in
    rw (mark-separate s.count m₁ y.0 y.1 (surplus c s t.top (data_of s t) 0), e)
