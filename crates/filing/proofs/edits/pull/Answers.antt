-- `filing::edits::pull` keeps its promise.
use mathlib.Core.Path.{sym, ◌∙◌}
use Prim.Native.Nat.{◌+◌, ◌-◌}
use native.Mathlib.Omega.{arith}
use Rattle.filing.proofs.Editing.{drawn_page, drawn_stop}
use Rattle.filing.proofs.edits.pull.Goals as goal

pub loop-from-preserved : goal.loop-from-preserved
loop-from-preserved c = rw c.pull_page.ensures (drawn_page c.args.s c.args.t _ _ _ _ _ c.loop-from.auto.from c.loop-from-test.true c.min-n.ensures ∙ c.loop-from.invariant)

pub returns : goal.returns
returns c = sym (drawn_stop c.args.s c.args.t c.args.t.size _ _ _ (omega arith) c.loop-from-test.false) ∙ c.loop-from.invariant

-- the last page
pub returns-2 : goal.returns-2
returns-2 c =
    c.pull_page.ensures
    ∙ sym (drawn_stop c.args.s c.args.t c.args.t.size _ (c.args.p + (c.loop-from.from + 4096 - c.args.q)) (c.loop-from.from + 4096) (omega arith) (omega arith))
    ∙ drawn_page c.args.s c.args.t _ _ _ _ _ c.loop-from.auto.from c.loop-from-test.true c.min-n.ensures
    ∙ c.loop-from.invariant
