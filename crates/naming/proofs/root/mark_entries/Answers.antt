-- `naming::root::mark_entries` keeps its promise.
use mathlib.Core.Path.{sym}
use native.Mathlib.Omega.{arith}
use Rattle.laws.proofs.Laying.{length-contents}
use Rattle.naming.proofs.Reached.{left_start, left_end, left_stop, left-next, entry-same, not_both}
use Rattle.naming.proofs.root.mark_entries.Goals as goal

pub loop-at-init : goal.loop-at-init
loop-at-init c = record {
  paged = c.blank-page.ensures _ (sym (length-contents _ _ _ _ _));
  size = sym (length-contents _ _ _ _ _);
  left = left_start _ _ _;
}

pub returns-in_default : goal.returns-in_default
returns-in_default c =
    let v = c.loop-at.invariant in
    let w = c.piece.ensures _ c.turn.ensures v.size in
    let e = entry-same _ _ _ w v.left.inside c.args.n c.loop-at.marks _ c.mark_entry.ensures.0 in
    (left_stop _ _ _ _ _ v.left _ v.size c.loop-at-test.true _ e c.in_default.is, not_both)

pub overflow_add-at-in-loop-at : goal.overflow_add-at-in-loop-at
overflow_add-at-in-loop-at c =
    let v = c.loop-at.invariant in
    let w = c.piece.ensures _ c.turn.ensures v.size in
    omega (arith, v.size, (left-next _ _ _ _ _ v.left _ v.size c.loop-at-test.true _ w _ c.mark_entry.ensures.0 _ c.mark_entry.ensures.1 _ c.in-Some.is).inside)

pub loop-at-preserved : goal.loop-at-preserved
loop-at-preserved c =
    let v = c.loop-at.invariant in
    let w = c.piece.ensures _ c.turn.ensures v.size in
    record { paged = c.turn.ensures.paged; size = v.size; left = left-next _ _ _ _ _ v.left _ v.size c.loop-at-test.true _ w _ c.mark_entry.ensures.0 _ c.mark_entry.ensures.1 _ c.in-Some.is }

pub returns : goal.returns
returns c = let w = left_end _ _ _ _ _ c.loop-at.invariant.left _ c.loop-at.invariant.size (omega arith) in (w.0, λ t. w.1)
