-- `laying::lay::lay_block` keeps its promise.
use Rattle.std.proofs.Common.{◌≡◌, ◌∙◌, ◌+◌, ◌-◌, refl, ap, arith, length, ℕ, List}
use borrow.Rule.Slice.PartMut.{put_mid}
use lib.Seq.{take_all}
use Rattle.layout.specs.Bytes.{over}
use Rattle.layout.specs.Blocks.{place}
use Rattle.blocks.proofs.Near.{over-near}
use Rattle.memory.proofs.Parts.{over_mid}
use Rattle.laying.proofs.lay.lay_block.Goals as goal

pub returns-then-n-card : goal.returns-then-n-card
returns-then-n-card c =
    let card = c.args.card.now in
    let at = c.byte_place-at.result in
    let n = length c.args.part.now in
    let k : at + n - at ≡ n = omega arith in
    let near = over-near card (omega arith) (place c.args.s c.args.b + c.args.r) at (omega arith) c.args.part.now in
    let laid : put_mid at (at + n - at) card c.args.part.now ≡ over card at c.args.part.now = rw k (over_mid card c.args.part.now at n refl (omega arith)) in
    ap (λ (l : List ℕ). put_mid at (at + n - at) card l) c.copy_from_slice.ensures.after ∙ laid ∙ near

pub returns : goal.returns
returns c =
    c.copy.ensures
    ∙ over-near c.args.card.now (omega arith) (place c.args.s c.args.b + c.args.r) _ (omega arith) _
    ∙ ap (over c.args.card.now (place c.args.s c.args.b + c.args.r)) (take_all _ c.args.part.now (omega arith))
