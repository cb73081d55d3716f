-- `memory::bytes::put_number` keeps its promise.
use Rattle.std.proofs.Common.{◌∙◌, ap, arith, length, ◌-◌, ◌≤◌, ℕ, refl, length-take, length-drop}
use Rattle.layout.specs.Bytes.{put}
use Rattle.memory.proofs.Parts.{put_part}
use Rattle.memory.proofs.Turns.{put_clamp}
use Rattle.memory.proofs.bytes.put_number.Goals as goal
use Rattle.memory.proofs.bytes.put_number.Goals.{else-at-card-via-then-at-card+else-width-card, else-at-card-via-else-at-card}

pub returns-then-width-card : goal.returns-then-width-card
returns-then-width-card c =
    put_part c.args.card.now _ _ c.args.at _ _ _ (omega arith) (omega arith) (simp (length-take, length-drop) (omega arith)) c.split.ensures
    ∙ ap (λ (k : ℕ). put k c.args.card.now c.args.at c.args.v) (omega arith)

pub returns : goal.returns
returns c =
    let rest = length c.args.card.now - c.args.at in
    let few : rest ≤ c.args.width = elim c.else-at-card.branch [ else-at-card-via-then-at-card+else-width-card w ↦ omega arith | else-at-card-via-else-at-card w ↦ omega arith ] in
    c.put_rest.ensures ∙ put_clamp _ _ c.args.width rest _ _ (omega arith) refl
