-- `laying::gather::gather_rows` keeps its promise.
use mathlib.Core.Path.{◌≡◌, ap, ◌∙◌}
use Prim.Native.Nat.{ℕ, ◌<◌, ◌+◌, ◌-◌, ◌*◌}
use native.Mathlib.Nat.{mod-lt}
use native.Mathlib.Omega.{arith}
use Rattle.std.proofs.Common.{rules}
use Rattle.layout.specs.Bytes.{num}
use Rattle.layout.specs.Blocks.{slot}
use Rattle.blocks.proofs.Near.{fan_pos, slot-near}
use Rattle.laying.specs.Gathered.{gathered}
use Rattle.laying.proofs.Blockwise.{rows_begin, rows_turn, gathered_end, gathered_whole, length-gathered, filled, row_room}
use Rattle.laying.proofs.gather.gather_rows.Goals as goal

pub loop-q-init : goal.loop-q-init
loop-q-init c =
    let size = ap (λ s. s.size) c.s.view_is in
    let some : 0 < c.args.s.size = omega (arith, size) in
    rw (size, c.fan-f.ensures.0) (
      mod-lt _ (fan_pos _ (omega (arith, size))),
      mod-lt _ some,
      omega arith,
      omega arith,
      gathered_whole _ _ _ _ _ _ _ (omega arith) (omega arith) ∙ rows_begin _ _ some _ _ _ _ c.requires.0,
    )

pub loop-q-preserved : goal.loop-q-preserved
loop-q-preserved c =
    let i = c.loop-q.invariant in
    let a = c.args in
    let size = ap (λ s. s.size) c.s.view_is in
    let some : 0 < a.s.size = omega (arith, size) in
    let m = rw (size, c.fan-f.ensures.0) at c.min-m.ensures in
    let named : (k x : ℕ) → x ≡ num 4 a.card.now (c.start-row.result + 4 * k) → x ≡ slot a.card.now a.s c.node.result k = λ k x e. e ∙ slot-near a.card.now (omega arith) a.s c.node.result _ k c.start-row.ensures in
    let f = gathered a.card.now a.s (slot a.card.now a.s c.node.result) (c.loop-q.i * a.s.size + c.loop-q.r) in
    let done =
    filled c.loop-q.tray c.gather_blocks.new.tray c.loop-q.to (c.loop-q.to + c.min-m.result - c.loop-q.to) c.min-m.result f (length-gathered a.card.now a.s (slot a.card.now a.s c.node.result) (c.loop-q.i * a.s.size + c.loop-q.r)) (omega arith) (omega arith)
    (c.gather_blocks.ensures (slot a.card.now a.s c.node.result) (λ k x e. named k x (search rules))) in (
      fan_pos _ (omega (arith, size)),
      some,
      omega (arith, m, row_room a.s c.loop-q.i c.loop-q.r i.0 i.1),
      omega arith,
      rows_turn _ _ some _ _ _ _ _ _ _ _ _ _ _ _ c.requires.0 i.0 i.1 m (omega arith) c.node.ensures done ∙ i.4,
    )

pub returns-then-to-n : goal.returns-then-to-n
returns-then-to-n c = gathered_end _ _ _ _ _ _ _ (omega arith) ∙ c.loop-q.invariant.4

pub returns : goal.returns
returns c =
    let past = rw (ap (λ s. s.size) c.s.view_is, c.fan-f.ensures.0) at c.loop-q-test.false in
    gathered_end _ _ _ _ _ _ _ (omega (arith, past)) ∙ c.loop-q.invariant.4
