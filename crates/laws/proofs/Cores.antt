-- A card that keeps rules 1 to 7: small facts of it, and how such a card is made of another.
use mathlib.Core.Path.{◌≡◌, refl, ap, ◌∙◌}
use mathlib.Core.Logic.{◌≢◌, inl, inr}
use mathlib.Core.List.{List}
use Prim.Native.Nat.{ℕ, suc, ◌*◌, ◌^◌, ◌≤◌, ◌<◌}
use native.Mathlib.Nat.{pow-le-pow_right, mul-le-mul}
use native.Mathlib.Decide.{dec_lt}
use native.Mathlib.Omega.{arith}
use lib.ListN.{length, get_or}
use Rattle.layout.specs.Limits.{most_blocks, most_streams}
use Rattle.layout.specs.Bytes.{end8}
use Rattle.layout.specs.Pyramid.{P}
use Rattle.layout.specs.Streams.{table, table_bytes, offset, desc_chain, stream}
use Rattle.layout.specs.Header.{shape_of}
use Rattle.laws.proofs.Lists.{In, in_map, map_in}
use Rattle.laws.proofs.Levels.{P-low, P-high}
use Rattle.laws.proofs.Chain.{Good, room-chain}
use Rattle.laws.proofs.Hanging.{NotField}
use Rattle.laws.proofs.Frees.{Frees, chained_frees, frees_chained}
use Rattle.laws.proofs.Parts.{Parts}
use Rattle.laws.proofs.State.{slots_of, lives_of, own, owners, Right, Form, Core, good, length-table}
use Rattle.laws.proofs.Heads.{NotTable, shape_same, headed-same}
use Rattle.layout.specs.declared.Shape.{Shape}

-- a pyramid has no fewer blocks than data blocks
pub P-has : (f : ℕ) (t : 2 ≤ f) (d : ℕ) → d ≤ P f d
P-has f t d = elim (dec_lt 1 d) [
  | yes l ↦ rw (P-high f t d l) (omega arith)
  | no n ↦ rw (P-low f t d (omega arith)) (omega arith)
]

module _ (c : List ℕ) (s : Shape) (w : Core c s) where
  pub core_good : Good s
  core_good = rw w.shape_is at (good c w.headed)

  pub size_few : s.size ≤ 4096
  unfolding shape_of
  size_few =
      let e = ap (λ (t : Shape). t.size) w.shape_is in
      omega (arith, pow-le-pow_right {n = 2} (omega arith) w.headed.most)

  pub count-few : s.count ≤ most_blocks
  unfolding shape_of
  count-few = let e = ap (λ (t : Shape). t.count) w.shape_is in omega (arith, w.headed.few)

  pub count-some : 1 ≤ s.count
  unfolding shape_of
  count-some = let e = ap (λ (t : Shape). t.count) w.shape_is in omega (arith, w.headed.some)

  -- so many data blocks have a length that 8 bytes hold
  pub small-reserved : (d : ℕ) → d ≤ s.count → d * s.size < 256 ^ 8
  small-reserved d fits = omega (arith, mul-le-mul fits size_few, mul-le-mul count-few (let t : 4096 ≤ 4096 = omega arith in t))

  pub length_core : length (table_bytes c s) ≡ offset (slots_of c s)
  length_core = length-table c s ∙ w.size

  pub core_frees : Frees (table_bytes c s) (slots_of c s) (desc_chain (table_bytes c s))
  core_frees = chained_frees (table_bytes c s) w.chained

  -- ---- its owners

  pub owner_table : In 0 (owners c s)
  unfolding owners
  owner_table = inl refl

  pub owner_stream : (k : ℕ) → In k (lives_of c s) → In (suc k) (owners c s)
  unfolding owners
  owner_stream k i = inr (in_map suc k (lives_of c s) i)

  pub owner_in : (j : ℕ) → In (suc j) (owners c s) → In j (lives_of c s)
  unfolding owners
  owner_in j (inl e) = absurd (omega arith)
  owner_in j (inr i) = let r = map_in suc (suc j) (lives_of c s) i in let e : j ≡ r.0 = omega (arith, r.2) in rw e r.1

  -- a card with this header, and a table and parts that are right
  pub core_of : (c' xs free : List ℕ) → length c' ≡ length c → ((i : ℕ) → i < s.base → NotField s i → NotTable s i → get_or c' i 0 ≡ get_or c i 0)
      → (table c' s).size ≡ offset (slots_of c' s) → 1 ≤ slots_of c' s → slots_of c' s ≤ most_streams → Right s (table c' s)
      → ((k : ℕ) → k < slots_of c' s → Form s (stream c' s k)) → Frees (table_bytes c' s) (slots_of c' s) xs → (stream c' s 0).top ≢ end8
      → Parts c' s (owners c' s) (own c' s) free → Core c' s
  core_of c' xs free long head size some few right forms frees root p = record {
    shape_is = shape_same c c' s w.shape_is long head;
    headed = headed-same c c' s w.shape_is long head w.headed;
    size = size;
    some = some;
    few = few;
    right = right;
    forms = forms;
    chained = frees_chained (table_bytes c' s) xs frees;
    root = root;
    parts = rw (room-chain c' s free p.room (omega (arith, p.sum))) p;
  }
