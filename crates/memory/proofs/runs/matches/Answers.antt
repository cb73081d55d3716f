-- `memory::runs::matches` keeps its promise.
use Rattle.std.proofs.Common.{◌∙◌, ap, arith, take, drop, ℕ, ◌+◌}
use Rattle.layout.specs.Bytes.{matches}
use Rattle.memory.proofs.Turns.{pointwise-matches, match_stop, match_step, match_end}
use Rattle.memory.proofs.runs.matches.Goals as goal

pub returns-then-at-run : goal.returns-then-at-run
returns-then-at-run c =
    c.eq.ensures
    ∙ pointwise-matches c.args.run.now c.args.card.now _ c.args.at (ap (λ (k : ℕ). take k (drop c.args.at c.args.card.now)) (omega arith)) (omega arith)

pub loop-i-init : goal.loop-i-init
loop-i-init c = ap (λ (k : ℕ). matches c.args.card.now k c.args.run.now) (omega arith)

pub returns-then-byte-b : goal.returns-then-byte-b
returns-then-byte-b c = match_stop _ _ _ _ _ c.byte.ensures c.loop-i-test.true c.if-byte-b.true ∙ c.loop-i.invariant

pub loop-i-preserved : goal.loop-i-preserved
loop-i-preserved c =
    ap (λ (k : ℕ). matches c.args.card.now k (drop (c.loop-i.i + 1) c.args.run.now)) (omega arith)
    ∙ match_step _ _ _ _ _ c.byte.ensures c.loop-i-test.true c.if-byte-b.false
    ∙ c.loop-i.invariant

pub returns : goal.returns
returns c = match_end _ _ _ _ c.loop-i-test.false ∙ c.loop-i.invariant
