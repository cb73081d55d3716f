-- `laying::lay::lay` keeps its promise.
use mathlib.Core.Path.{sym, ap, ◌∙◌}
use Prim.Native.Nat.{◌<◌}
use native.Mathlib.Nat.{mod-lt}
use native.Mathlib.Omega.{arith}
use borrow.Author.Tests.{true-eqb, false-eqb}
use Rattle.blocks.proofs.Near.{fan_pos}
use Rattle.laws.proofs.Rows.{rows_none}
use Rattle.laying.proofs.Blockwise.{row_room}
use Rattle.laying.proofs.Rowwise.{lays_turn, laid-top, laid-below}
use Rattle.laying.proofs.lay.lay.Goals as goal

pub returns-then-h-eq0 : goal.returns-then-h-eq0
returns-then-h-eq0 c = c.lay_block.ensures ∙ laid-top _ _ _ _ _ _ c.if-h-eq0.true

pub loop-q-init : goal.loop-q-init
loop-q-init c =
    let size = ap (λ s. s.size) c.s.view_is in
    rw (size, c.fan-f.ensures.0) (
      mod-lt _ (fan_pos _ (omega (arith, size))),
      mod-lt _ (omega (arith, size)),
      omega arith,
      omega arith,
      laid-below _ _ _ _ _ _ (omega arith),
    )

pub loop-q-preserved : goal.loop-q-preserved
loop-q-preserved c =
    let i = c.loop-q.invariant in
    let size = ap (λ s. s.size) c.s.view_is in
    let some : 0 < c.args.s.size = omega (arith, size) in
    let m = rw (size, c.fan-f.ensures.0) at c.min.ensures in
    let more = false-eqb _ 0 c.if-is_empty.ensures in (
      fan_pos _ (omega (arith, size)),
      some,
      omega (arith, m, more, row_room c.args.s c.loop-q.i c.loop-q.r i.0 i.1),
      omega arith,
      lays_turn _ some _ _ _ _ more c.split_at.ensures.front c.split_at.ensures.back _ _ _ _ _ _ _ _ i.0 i.1 m c.node.ensures c.lay_row.ensures ∙ i.4,
    )

pub returns-then-is_empty : goal.returns-then-is_empty
returns-then-is_empty c = sym (rows_none _ _ _ _ _ _ _ _ _ (true-eqb _ 0 c.if-is_empty.ensures)) ∙ c.loop-q.invariant.4

pub returns : goal.returns
returns c =
    let past = rw (ap (λ s. s.size) c.s.view_is, c.fan-f.ensures.0) at c.loop-q-test.false in
    sym (rows_none _ _ _ _ _ _ _ _ _ (omega (arith, past))) ∙ c.loop-q.invariant.4
