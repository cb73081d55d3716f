-- `usage::free::rule7` keeps its promise.
use mathlib.Core.Path.{ap, ◌∙◌}
use Prim.Native.Nat.{◌≤◌}
use native.Mathlib.Omega.{arith}
use lib.ListN.{length}
use Rattle.std.proofs.lemmas.Grind.{common_steps}
use Rattle.usage.proofs.Chained.{marks-long, chain_apart, some-over, none_over}
use Rattle.usage.proofs.free.rule7.Goals as goal

pub returns-in_err-found : goal.returns-in_err-found
returns-in_err-found c = c.from_residual.ensures ∙ chain_apart _ _ _ _ _ c.requires c.mark_chain.ensures c.in_err-found.was

pub slice_bounds-count_marks-end : goal.slice_bounds-count_marks-end
slice_bounds-count_marks-end c = omega (arith, marks-long _ _ _ c.requires, ap (λ s. s.count) c.s.view_is)

pub slice_bounds-count_marks-end-2 : goal.slice_bounds-count_marks-end-2
slice_bounds-count_marks-end-2 c =
    let long : c.args.s.count ≤ length c.mark_chain.new.marks = omega (arith, marks-long _ _ _ c.requires) in
    grind (arith, common_steps)

pub returns-then-count_marks-count : goal.returns-then-count_marks-count
returns-then-count_marks-count c =
    let count = ap (λ s. s.count) c.s.view_is in
    let long : c.args.s.count ≤ length c.mark_chain.new.marks = omega (arith, marks-long _ _ _ c.requires) in
    some-over _ _ _ _ _ c.requires c.mark_chain.ensures _ c.in_ok-found.was _ (rw count at c.count_marks.ensures) long (rw count at c.if-count_marks-count.true)

pub returns : goal.returns
returns c =
    let count = ap (λ s. s.count) c.s.view_is in
    let long : c.args.s.count ≤ length c.mark_chain.new.marks = omega (arith, marks-long _ _ _ c.requires) in
    none_over _ _ _ _ _ c.requires c.mark_chain.ensures _ c.in_ok-found.was _ (rw count at c.count_marks.ensures) long (rw count at c.if-count_marks-count.false)
