-- The free descriptors: their chain marked, the marks compared, and rule 5 read from the table on a page.
use mathlib.Core.Path.{◌≡◌, refl, sym, ap, ◌∙◌}
use mathlib.Core.Bool.{Bool, true, false, not}
use mathlib.Core.List.{List, [], ◌∷◌, ◌++◌, map}
use Prim.Native.Nat.{ℕ, suc, ◌+◌, ◌-◌, ◌*◌, ◌/◌, ◌%◌, ◌≤◌, ◌<◌}
use native.Mathlib.Nat.{div-add-mod'}
use native.Mathlib.Decide.{ℕ_discrete, dec_le}
use native.Mathlib.Omega.{arith}
use lib.ListN.{length, set, replicate}
use borrow.Author.Tests.{eq-eqb, ne_eqb}
use Rattle.layout.specs.Limits.{most_streams}
use Rattle.layout.specs.Bytes.{pick, both, num, over, end8, run, those, all_b}
use Rattle.layout.specs.Marks.{fresh, mark_ok, mark_set}
use Rattle.layout.specs.Blocks.{walk}
use Rattle.layout.specs.Streams.{dead, live, offset, slots, frees, desc_chain, table_bytes}
use Rattle.layout.specs.Sound.{good_form, same_set, rule5}
use Rattle.laws.proofs.Picks.{leb_yes, leb_no}
use Rattle.laws.proofs.Levels.{div_is, mod_is}
use Rattle.marking.proofs.Walking.{Marked, Rest, cleared, fresh_out, one-marked, rest_goes, rest_stops, rest-ends}
use Rattle.tables.specs.Compared.{right_mark, asked, number_at, spares}
use Rattle.tables.specs.OnPage.{Reads}
use Rattle.blocks.proofs.Links.{list_end, list_out}
use Rattle.tables.proofs.Compared.{compared}
use Rattle.tables.proofs.Paged.{nums_same, dead-same, form_same}
use Rattle.layout.specs.declared.Shape.{Shape}

-- ---- the number of a place

pub at_low : (x : ℕ) → x < 8 → end8 ≡ number_at x
unfolding number_at
at_low x h = rw (leb_no {a = 8} {b = x} h)

pub at_part : (x : ℕ) → 8 ≤ x → ((x - 8) % 25 ≡ 0 → ⊥) → end8 ≡ number_at x
unfolding number_at
at_part x h k = rw (leb_yes {a = 8} {b = x} h, ne_eqb ((x - 8) % 25) 0 k)

pub at-whole : (x : ℕ) → 8 ≤ x → (x - 8) % 25 ≡ 0 → (x - 8) / 25 ≡ number_at x
unfolding number_at
at-whole x h k = rw (leb_yes {a = 8} {b = x} h, eq-eqb ((x - 8) % 25) 0 k)

at_offset : (k : ℕ) → number_at (offset k) ≡ k
at_offset k =
    let a : offset k - 8 ≡ k * 25 + 0 = omega arith in
    sym (at-whole (offset k) (omega arith) (mod_is k a (omega arith))) ∙ div_is {r = 0} a (omega arith)

offset_at : (n : ℕ) → n ≤ most_streams → (x : ℕ) → number_at x < n → x ≡ offset (number_at x)
offset_at n few x h = elim (dec_le 8 x) [
  | no l ↦ absurd (omega (arith, at_low x (omega arith)))
  | yes l ↦ elim (ℕ_discrete ((x - 8) % 25) 0) [
    | no z ↦ absurd (omega (arith, at_part x l z))
    | yes z ↦ rw (← at-whole x l z) (omega (arith, div-add-mod' (x - 8) 25))
  ]
]

-- ---- the chain

module _ (n : ℕ) (next : ℕ → ℕ) (left x : ℕ) (m m₀ bs₀ : List ℕ) (rest : Rest n m (map number_at (walk left next x)) m₀ bs₀) where
  pub spares_end : x ≡ end8 → Marked n m₀ bs₀ true m
  spares_end e = rest-ends n m m₀ _ bs₀ (ap (map number_at) (list_end next left x e)) rest

  pub spares_out : left ≤ 0 → Marked n m₀ bs₀ true m
  spares_out h = rest-ends n m m₀ _ bs₀ (ap (map number_at) (list_out next left x h)) rest

  module _ (less : ℕ) (more : left ≡ suc less) (on : x ≡ end8 → ⊥) where
    step : (x' : ℕ) → x' ≡ next x → walk left next x ≡ x ∷ walk less next x'
    unfolding walk
    step x' g = rw (more, g, ne_eqb x end8 on)

    module _ (k : ℕ) (m' : List ℕ) (r : Bool) (a : number_at x ≡ k) (e : r ≡ fresh n m k) (f : m' ≡ pick (fresh n m k) (set m k 1) m) where
      there : (x' : ℕ) → x' ≡ next x → Rest n m ((k ∷ []) ++ map number_at (walk less next x')) m₀ bs₀
      there x' g = rw (← a) (rw (step x' g) at rest)

      pub spares-turn : (x' : ℕ) → x' ≡ next x → r ≡ true → Rest n m' (map number_at (walk less next x')) m₀ bs₀
      spares-turn x' g h = rest_goes n m m' m₀ (k ∷ []) _ bs₀ r (one-marked n m m' k r e f) h (there x' g)

      pub spares_stop : r ≡ false → Marked n m₀ bs₀ false m'
      spares_stop h = rest_stops n m m' m₀ (k ∷ []) _ bs₀ r (one-marked n m m' k r e f) h (there (next x) refl)

    -- no descriptor stands there: its number can't be marked
    pub spares_lost : n ≤ end8 → number_at x ≡ end8 → Marked n m₀ bs₀ false m
    spares_lost h a =
        let no : fresh n m end8 ≡ false = fresh_out n m end8 h in
        spares_stop end8 m false a (sym no) (rw no) refl

pub spares_begun : (tab : List ℕ) (n left x : ℕ) (m : List ℕ) → left ≡ n + 1 → x ≡ num 8 tab 0 → Rest n m (map number_at (walk left (num 8 tab) x)) m (spares tab n)
unfolding spares
spares_begun tab n left x m h e = rw (h, e) (refl, refl)

-- ---- rule 5

module _ (c : List ℕ) (s : Shape) (tab : List ℕ) (n : ℕ) (many : n ≡ slots (table_bytes c s)) (few : n ≤ most_streams) (same : Reads tab (table_bytes c s)) where
  forms_are : all_b (good_form s tab) (run 0 n) ≡ all_b (good_form s (table_bytes c s)) (run 0 (slots (table_bytes c s)))
  forms_are = rw (form_same tab (table_bytes c s) same s, many)

  chain_are : walk (n + 1) (num 8 tab) (num 8 tab 0) ≡ desc_chain (table_bytes c s)
  unfolding desc_chain
  chain_are = rw (nums_same tab (table_bytes c s) same 8, many)

  frees_are : map offset (those (dead tab) (run 0 n)) ≡ frees (table_bytes c s)
  unfolding frees
  frees_are = rw (dead-same tab (table_bytes c s) same, many)

  -- test by test, on cleared marks
  module _ (m m₁ : List ℕ) (long : n ≤ length m) (a : m₁ ≡ over m 0 (replicate n 0)) where
    set_are : both (mark_ok n m₁ (spares tab n)) (all_b (right_mark (mark_set n m₁ (spares tab n)) (dead tab)) (run 0 n)) ≡ same_set (desc_chain (table_bytes c s)) (frees (table_bytes c s))
    unfolding spares
    set_are =
        let y = cleared m m₁ n long a in
        rw (← chain_are, ← frees_are) (compared n m₁ y.0 y.1 (dead tab) offset number_at (λ k l. at_offset k) (offset_at n few) (walk (n + 1) (num 8 tab) (num 8 tab 0)))

    pub rule5_is : both (all_b (good_form s tab) (run 0 n)) (both (both (mark_ok n m₁ (spares tab n)) (all_b (right_mark (mark_set n m₁ (spares tab n)) (asked tab false)) (run 0 n))) (not (dead tab 0))) ≡ rule5 c s
    unfolding rule5 live
    rule5_is = rw (forms_are, set_are, ap (λ (d : ℕ → Bool). d 0) (dead-same tab (table_bytes c s) same))
