-- A stream's descriptor freed: two numbers on a page are its first fields.
use mathlib.Core.Path.{◌≡◌, refl, sym, ap, ◌∙◌}
use mathlib.Core.List.{List, ◌++◌}
use Prim.Native.Nat.{ℕ, ◌+◌, ◌*◌}
use lib.ListN.{length, replicate, length-append}
use Rattle.layout.specs.Bytes.{num, bytes, over, put, end8}
use Rattle.layout.specs.Streams.{table_bytes, in_table, shortened}
use Rattle.layout.specs.Calls.{undescribed}
use Rattle.laws.proofs.ByteLaws.{length-bytes, over-append}
use Rattle.memory.proofs.Parts.{over-whole}
use Rattle.layout.specs.declared.Shape.{Shape}

two_numbers : (page page₁ page₂ : List ℕ) (a b : ℕ) → page ≡ replicate 16 0 → page₁ ≡ put 8 page 0 a → page₂ ≡ put 8 page₁ 8 b → page₂ ≡ bytes 8 a ++ bytes 8 b
unfolding put
two_numbers page page₁ page₂ a b e f g =
    let x : over page 0 (bytes 8 a ++ bytes 8 b) ≡ over (over page 0 (bytes 8 a)) 8 (bytes 8 b) = rw (over-append page 0 (bytes 8 a) (bytes 8 b), length-bytes 8 a) in
    let n : length (bytes 8 a ++ bytes 8 b) ≡ length page = rw e (simp (length-append, length-bytes) refl) in
    g ∙ ap (λ (l : List ℕ). over l 8 (bytes 8 b)) f ∙ sym x ∙ over-whole page (bytes 8 a ++ bytes 8 b) n

pub freed : (c c₁ c₂ c₃ page₁ page₂ : List ℕ) (s : Shape) (j first : ℕ) → first ≡ num 8 (table_bytes c s) 0 → c₁ ≡ shortened c s j 0 → page₁ ≡ put 8 (replicate 16 0) 0 first → page₂ ≡ put 8 page₁ 8 end8
    → c₂ ≡ in_table c₁ s (8 + 25 * j) page₂ → c₃ ≡ in_table c₂ s 0 (bytes 8 (8 + 25 * j)) → c₃ ≡ undescribed c s j
unfolding undescribed
freed c c₁ c₂ c₃ page₁ page₂ s j first e f g h u v =
    let p = two_numbers (replicate 16 0) page₁ page₂ first end8 refl g h in
    v ∙ rw (u, p, f, e)
