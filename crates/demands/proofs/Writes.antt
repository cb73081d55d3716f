-- write, where it is not refused: the named stream holds the new bytes, lengthened where it must be, and nothing else changes.
use mathlib.Core.Path.{◌≡◌, refl, sym, ap, ◌∙◌}
use mathlib.Core.List.{List, [], append-nil}
use Prim.Native.Nat.{ℕ, suc, ◌+◌, ◌≤◌, ◌<◌}
use native.Mathlib.Nat.{sub_self}
use native.Mathlib.Decide.{dec_lt}
use native.Mathlib.Omega.{arith}
use lib.ListN.{length, get_or, take, drop, take-append-drop}
use Rattle.layout.specs.Bytes.{over, spliced}
use Rattle.layout.specs.Pyramid.{P}
use Rattle.layout.specs.Blocks.{fan, chain}
use Rattle.layout.specs.Streams.{data_of, data_at, table, table_bytes, offset, stream, stream_bytes, in_stream, wants, lengthened}
use Rattle.layout.specs.Filing.{look_in}
use Rattle.layout.specs.Header.{shape_of}
use Rattle.layout.specs.Calls.{root_of, index_of, size_of, size_after, written, write}
use Rattle.laws.proofs.Picks.{leb_yes, leb_no}
use Rattle.laws.proofs.Tests.{is_ltb}
use Rattle.laws.proofs.Lists.{In, in_left}
use Rattle.laws.proofs.Splice as splice
use Rattle.laws.proofs.Laying.{length-contents}
use Rattle.laws.proofs.Parts.{text}
use Rattle.laws.proofs.State.{lives_of, Core, Whole, length-stream, right_data}
use Rattle.laws.proofs.Cores.{core_good}
use Rattle.laws.proofs.Edits.{Edit, edit_then}
use Rattle.laws.proofs.Moves as moves
use Rattle.demands.specs.Plain.{Plainly, plain_write}
use Rattle.demands.specs.Shows.{plain}
use Rattle.demands.proofs.Named.{found_live, named-root, named-whole, named-plain}
use Rattle.demands.proofs.TableKept.{table_kept}
use Rattle.demands.proofs.Refusals.{write-number}
use Rattle.demands.proofs.Numbers.{accepted, plain_accepted, passed, fails, holds, was_whole}
use Rattle.layout.specs.declared.Shape.{Shape}

-- ---- stream k of a card that keeps rules 1 to 7

module _ (c : List ℕ) (s : Shape) (w : Core c s) (k : ℕ) (lk : In k (lives_of c s)) (p : ℕ) (vs : List ℕ) (place : p ≤ (stream c s k).size) where
  abbrev now : List ℕ
  now = spliced (stream_bytes c s k) p vs

  long-k : length (stream_bytes c s k) ≡ (stream c s k).size
  long-k = length-stream c s k

  pub inside : p + length vs ≤ (stream c s k).size → Edit c (in_stream c s k p vs) s k now [] (chain c s)
  inside fits = rw (splice.splice_over (stream_bytes c s k) p vs (omega (arith, long-k)) (stream_bytes c s k) (omega (arith, long-k)) (λ q l. refl)) at (moves.written c s w k lk p vs fits)

  -- to its new end
  module _ (n : ℕ) (end : n ≡ p + length vs) (more : (stream c s k).size < n) (enough : wants s (stream c s k) n ≤ length (chain c s)) where
    abbrev m : ℕ
    m = wants s (stream c s k) n

    abbrev c₁ : List ℕ
    c₁ = lengthened c s k n

    enough' : P (fan s) (data_at s (stream c s k) n) ≤ P (fan s) (data_of s (stream c s k)) + length (chain c s)
    enough' = omega arith

    abbrev t₁ : List ℕ
    t₁ = text (moves.grew c s w k lk n more enough').card s (moves.o c s w k lk n more enough')

    first : Edit c c₁ s k t₁ (take m (chain c s)) (drop m (chain c s))
    first = moves.lengthen c s w k lk n more enough'

    long₁ : length t₁ ≡ n
    long₁ = length-contents _ s _ _ n

    size₁ : (stream c₁ s k).size ≡ n
    size₁ = sym (length-stream c₁ s k) ∙ ap length first.mine ∙ long₁

    second : Edit c₁ (in_stream c₁ s k p vs) s k (over (stream_bytes c₁ s k) p vs) [] (chain c₁ s)
    second = moves.written c₁ s first.core k (rw first.lives_is lk) p vs (omega (arith, size₁))

    now_is : over (stream_bytes c₁ s k) p vs ≡ now
    now_is = ap (λ (t : List ℕ). over t p vs) first.mine
        ∙ splice.splice_over (stream_bytes c s k) p vs (omega (arith, long-k)) t₁ (omega (arith, long-k, long₁)) (λ q l. moves.grown_text c s w k lk n more enough' q (omega (arith, long-k)))

    pub beyond : Edit c (in_stream c₁ s k p vs) s k now (take m (chain c s)) (drop m (chain c s))
    beyond = rw (now_is, first.chain_is, append-nil) at (edit_then c c₁ (in_stream c₁ s k p vs) s k t₁ (over (stream_bytes c₁ s k) p vs) (take m (chain c s)) [] (drop m (chain c s)) (chain c₁ s) w lk first second)

-- ---- the call

-- what is taken stood in the chain
in_take : (n : ℕ) (l : List ℕ) (x : ℕ) → In x (take n l) → In x l
in_take n l x i = rw (take-append-drop n l) at (in_left x (take n l) (drop n l) i)

-- the blocks that a write takes
abbrev pub write_wants : List ℕ → ℕ → ℕ → List ℕ → ℕ
write_wants c k p vs = wants (shape_of c) (stream c (shape_of c) k) (size_after c k p vs)

module _ (c : List ℕ) (w : Whole c) (k : ℕ) (lk : In k (lives_of c (shape_of c))) (p : ℕ) (vs : List ℕ) (place : p ≤ size_of c k) where
  abbrev s : Shape
  s = shape_of c

  -- a stream that is long enough wants no block
  wants_none : (n : ℕ) → n ≡ size_of c k → wants s (stream c s k) n ≡ 0
  wants_none n e =
      let d : data_at s (stream c s k) n ≡ data_of s (stream c s k) = rw e (omega (arith, right_data s (core_good c s w.core) (stream c s k) (moves.stream_right c s w.core k lk))) in
      rw d (sub_self _)

  -- however long the data is
  wrote : write_wants c k p vs ≤ length (chain c s) → Edit c (written c k p vs) s k (spliced (stream_bytes c s k) p vs) (take (write_wants c k p vs) (chain c s)) (drop (write_wants c k p vs) (chain c s))
  unfolding written
  wrote enough = elim (dec_lt (size_of c k) (p + length vs)) [
    | yes l ↦ rw (leb_yes {a = suc (size_of c k)} {b = size_after c k p vs} (omega arith)) (beyond c s w.core k lk p vs place (size_after c k p vs) (omega arith) (omega arith) enough)
    | no l ↦ rw (leb_no {a = suc (size_of c k)} {b = size_after c k p vs} (omega arith), wants_none (size_after c k p vs) (omega arith)) (inside c s w.core k lk p vs place (omega arith))
  ]

pub record Wrote (c name : List ℕ) (p : ℕ) (vs c' : List ℕ) : Type 0 where
  pub before : Whole c
  pub after : Whole c'
  pub plainly : plain c' ≡ (plain_write (plain c) name p vs).after
  pub root_of_lem : root_of c' ≡ root_of c
  pub known : look_in (root_of c) name < length (root_of c)
  pub place : p ≤ size_of c (index_of c name)
  pub enough : write_wants c (index_of c name) p vs ≤ length (chain c (shape_of c))
  pub edit : Edit c c' (shape_of c) (index_of c name) (spliced (stream_bytes c (shape_of c) (index_of c name)) p vs)
      (take (write_wants c (index_of c name) p vs) (chain c (shape_of c))) (drop (write_wants c (index_of c name) p vs) (chain c (shape_of c)))
  pub table_kept : (q : ℕ) → q < (table c (shape_of c)).size → (offset (index_of c name) ≤ q → q < offset (index_of c name) + 24 → ⊥) → get_or (table_bytes c' (shape_of c)) q 0 ≡ get_or (table_bytes c (shape_of c)) q 0

pub write_done : (c name : List ℕ) (p : ℕ) (vs : List ℕ) → (write c name p vs).number ≡ 0 → Wrote c name p vs (write c name p vs).card
unfolding write plain_write
write_done c name p vs e =
    let a = accepted _ c [] _ e in
    let t = passed _ tt a.0 in
    let w = was_whole c t.0 in
    let k = index_of c name in
    let kn = holds (is_ltb (look_in (root_of c) name) (length (root_of c))) t.1.1.0 in
    let lk = found_live c w name kn in
    let pl : p ≤ size_of c k = (let f = fails (is_ltb (size_of c k) p) t.1.1.1.0 in omega arith) in
    let en : write_wants c k p vs ≤ length (chain c (shape_of c)) = (let f = fails (is_ltb (length (chain c (shape_of c))) (write_wants c k p vs)) t.1.1.1.1.0 in omega arith) in
    let ed = wrote c w k lk p vs pl en in
    let p₀ = plain_accepted _ (plain c) [] _ (sym (write-number c w name p vs) ∙ e) in
    rw a.1 (record {
      before = w;
      after = named-whole c w name kn _ (λ l. spliced l p vs) _ _ ed;
      plainly = named-plain c w name kn _ (λ l. spliced l p vs) _ _ ed ∙ sym (ap (λ (q : Plainly). q.after) p₀);
      root_of_lem = named-root c w name kn _ (λ l. spliced l p vs) _ _ ed;
      known = kn;
      place = pl;
      enough = en;
      edit = ed;
      table_kept = table_kept c _ (shape_of c) w.core k lk _ _ _ ed (in_take (write_wants c k p vs) (chain c (shape_of c)));
    })
