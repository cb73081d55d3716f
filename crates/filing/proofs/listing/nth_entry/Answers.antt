-- `filing::listing::nth_entry` keeps its promise.
use mathlib.Core.Path.{◌≡◌, sym, ◌∙◌}
use mathlib.Core.Logic.{◌≢◌}
use Prim.Native.Nat.{◌+◌, ◌-◌}
use native.Mathlib.Omega.{arith}
use Rattle.layout.specs.Streams.{data_of, contents}
use Rattle.laws.proofs.Laying.{length-contents}
use Rattle.filing.proofs.Paging.{piece_index, piece_length}
use Rattle.filing.proofs.Finding.{entries-start, nth_here, nth_next, nth_none}
use Rattle.filing.proofs.listing.nth_entry.Goals as goal

pub loop-k-init : goal.loop-k-init
loop-k-init c = let z : c.args.n - 0 ≡ c.args.n = omega arith in (c.blank-page.ensures _ (sym (length-contents _ _ _ _ _)), omega arith, omega arith, omega arith, rw (entries-start _, z))

pub returns-then-k-n-clause-numbered : goal.returns-then-k-n-clause-numbered
returns-then-k-n-clause-numbered c = let long = sym (length-contents _ _ _ _ _) in
    let w = c.piece.ensures _ c.turn.ensures long in
    nth_here _ _ _ _ _ long c.if-size-at.false (piece_index _ _ _ w _ c.read_head-h.ensures.0) (piece_length _ _ _ w _ c.read_head-h.ensures.1) _ _ _ (omega (arith, c.if-k-n.true)) c.saturating_sub.ensures c.min.ensures ∙ c.loop-k.invariant.4

pub loop-k-preserved : goal.loop-k-preserved
loop-k-preserved c = let long = sym (length-contents _ _ _ _ _) in
    let i = c.loop-k.invariant in
    let w = c.piece.ensures _ c.turn.ensures long in
    let more : c.args.n - c.loop-k.k ≢ 0 = λ z. c.if-k-n.false (omega (arith, i.2)) in
    let next : c.args.n - (c.loop-k.k + 1) ≡ c.args.n - c.loop-k.k - 1 = omega arith in (
      c.turn.ensures.paged,
      omega (arith, i.1),
      omega (arith, i.2, more),
      omega (arith, c.if-size-at.false, c.requires, c.read_head-h.ensures.2),
      rw next (nth_next _ _ _ _ _ long c.if-size-at.false (piece_index _ _ _ w _ c.read_head-h.ensures.0) (piece_length _ _ _ w _ c.read_head-h.ensures.1) _ more) ∙ i.4,
    )

pub returns-then-size-at-clause-numbered : goal.returns-then-size-at-clause-numbered
returns-then-size-at-clause-numbered c = let a = c.args in nth_none (contents a.card.now a.s a.t.top (data_of a.s a.t) a.t.size) _ _ _ _ c.loop-k.invariant.4 (sym (length-contents _ _ _ _ _)) c.if-size-at.true

pub returns-after-loop-k-clause-numbered : goal.returns-after-loop-k-clause-numbered
returns-after-loop-k-clause-numbered c = let a = c.args in nth_none (contents a.card.now a.s a.t.top (data_of a.s a.t) a.t.size) _ _ _ _ c.loop-k.invariant.4 (sym (length-contents _ _ _ _ _)) (omega (arith, c.loop-k.invariant.1, c.loop-k-test.false))
