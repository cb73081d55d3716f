-- `memory::bytes::number` keeps its promise.
use Rattle.std.proofs.Common.{◌∙◌, refl, arith, length, ◌-◌, ◌≤◌}
use native.Mathlib.Nat.{pow-le-pow_right}
use Rattle.memory.proofs.Parts.{num_run}
use Rattle.memory.proofs.Turns.{num_clamp}
use Rattle.memory.proofs.bytes.number.Goals as goal
use Rattle.memory.proofs.bytes.number.Goals.{else-at-card-via-then-at-card+else-width-card, else-at-card-via-else-at-card}

pub returns-then-width-card : goal.returns-then-width-card
returns-then-width-card c = num_run c.args.card.now c.args.at c.args.width _ _ (omega arith) (omega arith) c.joined.ensures

pub returns : goal.returns
returns c =
    let rest = length c.args.card.now - c.args.at in
    let few : rest ≤ c.args.width = elim c.else-at-card.branch [ else-at-card-via-then-at-card+else-width-card w ↦ omega arith | else-at-card-via-else-at-card w ↦ omega arith ] in
    (c.number_rest.ensures.0 ∙ num_clamp rest _ _ _ refl few, omega (arith, c.number_rest.ensures.1, pow-le-pow_right {n = 256} (omega arith) {i = rest} {j = c.args.width} few))
