-- A descriptor is taken: the first free one where there is one, else one more at the table's end.
use mathlib.Core.Path.{◌≡◌, sym, ◌∙◌}
use mathlib.Core.Logic.{◌≢◌}
use mathlib.Core.List.{List, [], ◌∷◌}
use Prim.Native.Nat.{ℕ, ◌+◌, ◌-◌, ◌/◌, ◌≤◌, ◌<◌}
use native.Mathlib.Decide.{ℕ_discrete}
use native.Mathlib.Omega.{arith}
use lib.ListN.{length, take, drop}
use Rattle.layout.specs.Limits.{most_streams}
use Rattle.layout.specs.Bytes.{pick, end8}
use Rattle.layout.specs.Pyramid.{P}
use Rattle.layout.specs.Blocks.{fan, chain}
use Rattle.layout.specs.Streams.{data_of, data_at, table, table_bytes, offset, first_desc, desc_chain, wants}
use Rattle.layout.specs.Header.{shape_of}
use Rattle.layout.specs.Calls.{reuse, new_index, described}
use Rattle.laws.proofs.Picks.{eqb_yes, eqb_no}
use Rattle.laws.proofs.State.{slots_of, lives_of, Whole}
use Rattle.laws.proofs.Adding.{Described}
use Rattle.laws.proofs.Reuse.{reused, reused_slots, reused_range}
use Rattle.laws.proofs.Extend.{extended, extended-slots}
use Rattle.demands.specs.Plain.{with_item}
use Rattle.demands.specs.Shows.{plain}
use Rattle.demands.proofs.Refusals.{descs_reused, descs-extended}
use Rattle.demands.proofs.Descriptors.{first-free, none_free, all_live}
use Rattle.layout.specs.declared.Shape.{Shape}

-- the blocks that the table takes for one descriptor more
abbrev pub table_wants : List ℕ → ℕ
table_wants c = let s = shape_of c in pick (reuse (table_bytes c s)) 0 (wants s (table c s) ((table c s).size + 25))

-- descriptor j is taken, with the m first blocks of the chain
pub record Taken (c c₁ : List ℕ) (j m : ℕ) : Type 0 where
  pub step : Described c c₁ (shape_of c) j (take m (chain c (shape_of c))) (drop m (chain c (shape_of c)))
  pub small : j < most_streams
  pub slots_is : slots_of c₁ (shape_of c) ≡ (with_item (plain c) []).descs

module _ (c : List ℕ) (w : Whole c) where
  abbrev s : Shape
  s = shape_of c

  abbrev t : List ℕ
  t = table_bytes c s

  -- the first free one
  on_reuse : (u : first_desc t ≢ end8) (j : ℕ) (xs : List ℕ) → desc_chain t ≡ offset j ∷ xs → first_desc t ≡ offset j → Taken c (described c s) (new_index t) (table_wants c)
  unfolding described
  on_reuse u j xs e f =
      let n : offset j ≢ end8 = λ z. u (f ∙ z) in
      let i : (offset j - 8) / 25 ≡ j = omega arith in
      rw (f, eqb_no n, i) (record {
        step = reused c s w.core j xs e;
        small = omega (arith, reused_range c s w.core j xs e, w.core.few);
        slots_is = reused_slots c s w.core j xs e ∙ sym (descs_reused c w u);
      })

  -- one more
  on_extend : first_desc t ≡ end8 → length (lives_of c s) < most_streams → table_wants c ≤ length (chain c s) → Taken c (described c s) (new_index t) (table_wants c)
  unfolding described
  on_extend z few enough =
      let e = none_free c s w.core z in
      let l : slots_of c s < most_streams = omega (arith, all_live c s w.core z) in
      let m : wants s (table c s) ((table c s).size + 25) ≤ length (chain c s) = rw (eqb_yes z) at enough in
      let en : P (fan s) (data_at s (table c s) ((table c s).size + 25)) ≤ P (fan s) (data_of s (table c s)) + length (chain c s) = omega arith in
      rw (eqb_yes z) (record {
        step = extended c s w.core e l en;
        small = l;
        slots_is = extended-slots c s w.core e l en ∙ sym (descs-extended c w z);
      })

  pub describes : length (lives_of c s) < most_streams → table_wants c ≤ length (chain c s) → Taken c (described c s) (new_index t) (table_wants c)
  describes few enough = elim (ℕ_discrete (first_desc t) end8) [
    | yes z ↦ on_extend z few enough
    | no u ↦ (let r = first-free c s w.core u in on_reuse u r.0 r.1 r.2 r.3)
  ]
