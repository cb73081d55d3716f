-- `formatting::format::link_blocks` keeps its promise.
use Rattle.std.proofs.Common.{ap, arith}
use mathlib.Core.Path.{◌≡◌, sym, ◌∙◌}
use Prim.Native.Nat.{◌-◌, ◌+◌}
use lib.Dec.{eqb}
use Rattle.layout.specs.Bytes.{pick, end4}
use native.Mathlib.Omega.{arith}
use Rattle.formatting.proofs.Formatting.{link_step, link_end}
use Rattle.formatting.proofs.format.link_blocks.Goals as goal

pub loop-b-preserved : goal.loop-b-preserved
loop-b-preserved c =
    let e : c.s.inside.count ≡ c.args.s.count = ap (λ s. s.count) c.s.view_is in
    link_step c.args.s _ _ _ _ (rw e at c.loop-b-test.true) (c.after_block.ensures ∙ ap (λ n. pick (eqb (c.loop-b.b + 1) n) end4 (c.loop-b.b + 1)) e) c.put_slot.ensures ∙ c.loop-b.invariant

pub returns : goal.returns
returns c =
    let e : c.s.inside.count ≡ c.args.s.count = ap (λ s. s.count) c.s.view_is in
    sym (link_end c.args.s (c.args.s.count - c.loop-b.b) _ _ (omega (arith, c.loop-b-test.false, e))) ∙ c.loop-b.invariant
