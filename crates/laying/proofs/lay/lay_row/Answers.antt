-- `laying::lay::lay_row` keeps its promise.
use mathlib.Core.Path.{sym, ap, ◌∙◌}
use native.Mathlib.Omega.{arith}
use borrow.Author.Tests.{true-eqb, false-eqb}
use Rattle.laws.proofs.Rows.{row_none}
use Rattle.blocks.proofs.Near.{slot-near}
use Rattle.laying.proofs.Rowwise.{lay-turn}
use Rattle.laying.proofs.lay.lay_row.Goals as goal

pub loop-k-preserved : goal.loop-k-preserved
loop-k-preserved c =
    let i = c.loop-k.invariant in
    let size = ap (λ s. s.size) c.s.view_is in
    let m = rw size at c.min.ensures in (
      omega (arith, size),
      omega (arith, i.0, m, false-eqb _ 0 c.if-is_empty.ensures),
      lay-turn _ (omega (arith, size)) _ _ _ _ (false-eqb _ 0 c.if-is_empty.ensures) c.split_at.ensures.front c.split_at.ensures.back _ _ _ _ _ _ i.0 m (c.slot_at.ensures.0 ∙ slot-near _ (omega (arith, c.loop-k.auto.card)) c.args.s c.args.b _ c.loop-k.k c.start-row.ensures) c.lay_block.ensures ∙ i.2,
    )

pub returns-then-is_empty : goal.returns-then-is_empty
returns-then-is_empty c = sym (row_none _ _ _ _ _ _ _ (true-eqb _ 0 c.if-is_empty.ensures)) ∙ c.loop-k.invariant.2

pub returns : goal.returns
returns c = sym (row_none _ _ _ _ _ _ _ (omega arith)) ∙ c.loop-k.invariant.2
