-- `memory::runs::clear` keeps its promise.
use Rattle.std.proofs.Common.{◌≡◌, ◌∙◌, ap, arith, replicate, ℕ, ◌+◌, ◌-◌, rules, length-take, length-drop}
use lib.ListN.{length-replicate}
use Rattle.memory.proofs.Parts.{over_part, take-zeros}
use Rattle.memory.proofs.runs.clear.Goals as goal

pub returns : goal.returns
returns c =
    let m : c.min-from.result + c.min-m.result - c.min-from.result ≡ c.min-m.result = omega arith in
    over_part c.args.card.now (replicate {A = ℕ} c.args.n 0) _ c.args.at _ _ c.min-from.ensures
    (simp length-replicate (omega arith))
    (c.fill.ensures.after (search rules) ∙ ap (λ (k : ℕ). replicate {A = ℕ} k 0) (simp (length-take, length-drop) (omega arith)) ∙ take-zeros c.args.n _ (omega arith))
