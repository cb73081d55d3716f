-- `memory::bytes::joined` keeps its promise.
use Rattle.std.proofs.Common.{◌≡◌, ◌∙◌, sym, refl, rules, arith, length, ◌-◌, ◌+◌, ◌<◌}
use Rattle.memory.proofs.Turns.{num-step, num-same, num-zero, pow_step, pow_fits}
use Rattle.memory.proofs.bytes.joined.Goals as goal

pub loop-i-init : goal.loop-i-init
loop-i-init c =
    let none : length c.args.run.now - length c.args.run.now ≡ 0 = omega arith in
    (sym (num-same _ none refl ∙ num-zero _ _), rw none (search rules))

pub overflow_mul-v : goal.overflow_mul-v
overflow_mul-v c = omega (arith, pow_fits _ _ 0 c.loop-i.invariant.1 (omega arith) (omega arith))

pub overflow_add-v : goal.overflow_add-v
overflow_add-v c =
    let b : c.from.result < 256 = omega (arith, c.type_inv.run (c.loop-i.i - 1)) in
    omega (arith, pow_fits _ _ c.from.result c.loop-i.invariant.1 b (omega arith))

pub loop-i-preserved : goal.loop-i-preserved
loop-i-preserved c =
    let b : c.from.result < 256 = omega (arith, c.type_inv.run (c.loop-i.i - 1)) in
    let more : length c.args.run.now - (c.loop-i.i - 1) ≡ length c.args.run.now - c.loop-i.i + 1 = omega arith in
    (num-step _ c.args.run.now _ _ _ (omega arith) c.loop-i.invariant.0 c.from.ensures ∙ num-same _ (sym more) refl, rw more (pow_step _ _ _ c.loop-i.invariant.1 b))
