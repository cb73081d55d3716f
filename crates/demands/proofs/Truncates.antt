-- truncate, where it is not refused: the named stream keeps its first bytes, gives back what it no longer needs, and nothing else changes.
use mathlib.Core.Path.{◌≡◌, sym, ap, ◌∙◌}
use mathlib.Core.List.{List, [], ◌++◌}
use Prim.Native.Nat.{ℕ, ◌+◌, ◌≤◌, ◌<◌}
use native.Mathlib.Decide.{ℕ_discrete}
use native.Mathlib.Omega.{arith}
use lib.ListN.{length, get_or, take}
use lib.Seq.{take_all}
use lib.Dec.{eqb}
use Rattle.layout.specs.Bytes.{pick}
use Rattle.layout.specs.Blocks.{chain}
use Rattle.layout.specs.Streams.{table, table_bytes, offset, stream, stream_bytes, shortened}
use Rattle.layout.specs.Filing.{look_in}
use Rattle.layout.specs.Header.{shape_of}
use Rattle.layout.specs.Calls.{root_of, index_of, size_of, truncate}
use Rattle.laws.proofs.Picks.{eqb_yes, eqb_no}
use Rattle.laws.proofs.Tests.{is_ltb}
use Rattle.laws.proofs.Lists.{In}
use Rattle.laws.proofs.Hanging.{NotField}
use Rattle.laws.proofs.GiveBack.{NotLink}
use Rattle.laws.proofs.State.{lives_of, Core, Whole, length-stream}
use Rattle.laws.proofs.Edits.{NotDesc, Edit}
use Rattle.laws.proofs.Moves.{unchanged, shorten}
use Rattle.demands.specs.Plain.{Plainly, plain_truncate}
use Rattle.demands.specs.Shows.{plain}
use Rattle.demands.proofs.Named.{found_live, named-root, named-whole, named-plain}
use Rattle.demands.proofs.Spares.{surplus_of, spare, spare_none}
use Rattle.demands.proofs.Cutting.{cut_else}
use Rattle.demands.proofs.TableKept.{table_kept}
use Rattle.demands.proofs.Refusals.{truncate-number}
use Rattle.demands.proofs.Numbers.{accepted, plain_accepted, passed, fails, holds, was_whole}
use Rattle.layout.specs.declared.Shape.{Shape}

module _ (c : List ℕ) (s : Shape) (w : Core c s) (k : ℕ) (lk : In k (lives_of c s)) (n : ℕ) (less : n ≤ (stream c s k).size) where
  truncated : Edit c (pick (eqb n (stream c s k).size) c (shortened c s k n)) s k (take n (stream_bytes c s k)) [] (spare c s k n ++ chain c s)
  truncated = elim (ℕ_discrete n (stream c s k).size) [
    | yes e ↦ rw (eqb_yes e, spare_none c s w k lk n e, take_all n (stream_bytes c s k) (omega (arith, length-stream c s k))) (unchanged c s w k lk)
    | no u ↦ rw (eqb_no u) (unfold spare surplus_of in shorten c s w k lk n less)
  ]

  -- no byte of a block that is kept changes, and of a block given back only its link
  truncated_else : (i : ℕ) → NotField s i → NotDesc c s k i → NotLink s (surplus_of c s k n) i → get_or (pick (eqb n (stream c s k).size) c (shortened c s k n)) i 0 ≡ get_or c i 0
  truncated_else i f e l = elim (ℕ_discrete n (stream c s k).size) [ yes z ↦ rw (eqb_yes z) | no u ↦ rw (eqb_no u) (cut_else c s w k lk n less i f l e) ]

pub record Truncated (c name : List ℕ) (n : ℕ) (c' : List ℕ) : Type 0 where
  pub before : Whole c
  pub after : Whole c'
  pub plainly : plain c' ≡ (plain_truncate (plain c) name n).after
  pub root_of_lem : root_of c' ≡ root_of c
  pub known : look_in (root_of c) name < length (root_of c)
  pub place : n ≤ size_of c (index_of c name)
  pub edit : Edit c c' (shape_of c) (index_of c name) (take n (stream_bytes c (shape_of c) (index_of c name))) [] (spare c (shape_of c) (index_of c name) n ++ chain c (shape_of c))
  pub rest-same : (i : ℕ) → NotField (shape_of c) i → NotDesc c (shape_of c) (index_of c name) i → NotLink (shape_of c) (surplus_of c (shape_of c) (index_of c name) n) i → get_or c' i 0 ≡ get_or c i 0
  pub table_kept : (q : ℕ) → q < (table c (shape_of c)).size → (offset (index_of c name) ≤ q → q < offset (index_of c name) + 24 → ⊥) → get_or (table_bytes c' (shape_of c)) q 0 ≡ get_or (table_bytes c (shape_of c)) q 0

pub truncate-done : (c name : List ℕ) (n : ℕ) → (truncate c name n).number ≡ 0 → Truncated c name n (truncate c name n).card
unfolding truncate plain_truncate
truncate-done c name n e =
    let a = accepted _ c [] _ e in
    let t = passed _ tt a.0 in
    let w = was_whole c t.0 in
    let k = index_of c name in
    let kn = holds (is_ltb (look_in (root_of c) name) (length (root_of c))) t.1.1.0 in
    let pl : n ≤ size_of c k = (let f = fails (is_ltb (size_of c k) n) t.1.1.1.0 in omega arith) in
    let lk = found_live c w name kn in
    let ed = truncated c (shape_of c) w.core k lk n pl in
    let p₀ = plain_accepted _ (plain c) [] _ (sym (truncate-number c w name n) ∙ e) in
    rw a.1 (record {
      before = w;
      after = named-whole c w name kn _ (take n) _ _ ed;
      plainly = named-plain c w name kn _ (take n) _ _ ed ∙ sym (ap (λ (q : Plainly). q.after) p₀);
      root_of_lem = named-root c w name kn _ (take n) _ _ ed;
      known = kn;
      place = pl;
      edit = ed;
      rest-same = truncated_else c (shape_of c) w.core k lk n pl;
      table_kept = table_kept c _ (shape_of c) w.core k lk _ _ _ ed (λ b i. absurd i);
    })
