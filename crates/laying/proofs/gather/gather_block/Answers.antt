-- `laying::gather::gather_block` keeps its promise.
use Rattle.std.proofs.Common.{◌≡◌, ◌∙◌, ◌+◌, ◌-◌, sym, arith, length, take, drop}
use Rattle.layout.specs.Bytes.{window}
use Rattle.layout.specs.Blocks.{place}
use Rattle.laws.proofs.Windows.{length-window, window-inside}
use Rattle.memory.proofs.Parts.{over-whole}
use Rattle.laying.proofs.Blockwise.{window-near}
use Rattle.laying.proofs.gather.gather_block.Goals as goal

pub returns-then-n-card : goal.returns-then-n-card
returns-then-n-card c =
    let card = c.args.card.now in
    let from = c.byte_place-from.result in
    let n = length c.args.tray.now in
    let k : from + n - from ≡ n = omega arith in
    let inside : take (from + n - from) (drop from card) ≡ window card from n = rw k (sym (window-inside card from n (omega arith))) in
    c.copy_from_slice.ensures.after
    ∙ inside
    ∙ window-near card (omega arith) (place c.args.s c.args.b + c.args.r) _ (omega arith) _

pub returns : goal.returns
returns c =
    c.fetch.ensures
    ∙ over-whole _ _ (length-window c.args.card.now _ _)
    ∙ window-near c.args.card.now (omega arith) (place c.args.s c.args.b + c.args.r) _ (omega arith) _
