-- `laying::gather::gather_blocks` keeps its promise.
use mathlib.Core.Path.{ap, ◌∙◌}
use Prim.Native.Nat.{◌+◌, ◌-◌}
use native.Mathlib.Omega.{arith}
use Rattle.layout.specs.Bytes.{window}
use Rattle.layout.specs.Blocks.{place}
use Rattle.laws.proofs.Windows.{length-window}
use Rattle.laying.proofs.Blockwise.{block-turn, gathered_end, gathered_whole, filled}
use Rattle.laying.proofs.gather.gather_blocks.Goals as goal

pub loop-to-init : goal.loop-to-init
loop-to-init g c = (c.requires.fits.0, omega arith, omega arith, λ b named. gathered_whole _ _ b _ _ _ _ (omega arith) (omega arith))

pub loop-to-preserved : goal.loop-to-preserved
loop-to-preserved g c =
    let i = c.loop-to.invariant in
    let size = ap (λ s. s.size) c.s.view_is in
    let m = rw size at c.min-m.ensures in
    let x = place c.args.s c.block.result + c.loop-to.from in
    let done = filled c.loop-to.tray c.gather_block.new.tray c.loop-to.to (c.loop-to.to + c.min-m.result - c.loop-to.to) c.min-m.result (window c.args.card.now x) (length-window c.args.card.now x) (omega arith) (omega arith) c.gather_block.ensures in (
      omega (arith, size),
      omega (arith, m, i.0),
      omega arith,
      λ b named. block-turn _ _ b _ _ _ _ _ _ _ _ _ i.0 m (omega arith) (named _ _ c.block.ensures) done ∙ i.3 b named,
    )

pub returns : goal.returns
returns g c = λ b named. gathered_end _ _ b _ _ _ _ (omega arith) ∙ c.loop-to.invariant.3 b named
