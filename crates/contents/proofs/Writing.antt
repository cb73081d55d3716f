-- Write: whether there is room, and what is done.
use mathlib.Core.Path.{◌≡◌, sym, ap, ◌∙◌}
use mathlib.Core.Bool.{Bool, true, false, not}
use mathlib.Core.List.{List, []}
use Prim.Native.Nat.{ℕ, ◌+◌, ◌*◌, ◌^◌, max, ◌≤◌, ◌<◌}
use native.Mathlib.Nat.{mul-le-mul}
use native.Mathlib.Omega.{arith}
use lib.ListN.{length}
use lib.Dec.{ltb}
use borrow.Author.Tests.{lt-ltb}
use Rattle.layout.specs.Blocks.{chain, enough}
use Rattle.layout.specs.Streams.{stream, wants}
use Rattle.layout.specs.Header.{shape_of}
use Rattle.layout.specs.Answers.{refused, counted}
use Rattle.layout.specs.Calls.{index_of, size_after_in, written_in, written, write}
use Rattle.acts.proofs.Refusing.{enough_is, too_long}
use Rattle.front.proofs.Outcomes.{pass, stop, none}
use Rattle.front.proofs.Passing.{Named, core, narrow_of, live_of}
use Rattle.contents.proofs.Named.{past_end}
use Rattle.layout.specs.declared.Shape.{Shape}
use Rattle.layout.specs.declared.Desc.{Desc}

module _ {c name : List ℕ} {s : Shape} {k at : ℕ} (n : Named c name s k at) (t : Desc) (a : t ≡ stream c s k) (p : ℕ) (b : p ≤ t.size) (vs : List ℕ) where
  abbrev wanted : ℕ
  wanted = wants (shape_of c) (stream c (shape_of c) (index_of c name)) (size_after_in c (shape_of c) (index_of c name) p vs)

  wanted_is : wants s t (max t.size (p + length vs)) ≡ wanted
  wanted_is = rw (a, n.passed.cut, n.index)

  no_room_lem : ltb (length (chain c (shape_of c))) wanted ≡ true → refused 7 0 c [] ≡ write c name p vs
  unfolding write
  no_room_lem m = stop c [] _ _ 7 [] (omega arith) m ∙ past_end n t.size p (ap (λ (d : Desc). d.size) a) b [] _ _

  -- more bytes than any card has
  pub write-long : 2 ^ 32 < length vs → refused 7 0 c [] ≡ write c name p vs
  write-long l =
      let r = narrow_of n.passed in
      let m : s.count * s.size ≤ 4096 * 4096 = mul-le-mul {n₁ = s.count} {n₂ = 4096} r.count r.most in
      let d = too_long c s (core n.passed) k (live_of n) (max t.size (p + length vs)) (omega arith) in
      no_room_lem (lt-ltb (length (chain c (shape_of c))) wanted (rw (← wanted_is, ← n.passed.cut, a) (rw (a) at d)))

  module _ (m r : ℕ) (e : m ≡ max t.size (p + length vs)) (d : r ≡ wants s t m) (o : Bool) (f : o ≡ enough c s r) where
    room_is : not o ≡ ltb (length (chain c (shape_of c))) wanted
    room_is = rw (f, ← wanted_is, ← e, ← d, ← n.passed.cut) (enough_is c s (core n.passed) r)

    pub write-full : o ≡ false → refused 7 0 c [] ≡ write c name p vs
    write-full l = no_room_lem (sym room_is ∙ rw l)

    pub write_done : (c' : List ℕ) → o ≡ true → c' ≡ written_in c s k p vs → counted (length vs) c' [] ≡ write c name p vs
    unfolding write written
    write_done c' l u =
        rw (u, n.passed.cut, n.index) (none c [] _ ∙ pass c [] _ _ 7 [] (sym room_is ∙ rw l) ∙ past_end n t.size p (ap (λ (d : Desc). d.size) a) b [] _ _)
