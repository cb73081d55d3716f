-- `naming::apart::names_apart` keeps its promise.
use mathlib.Core.Path.{sym}
use native.Mathlib.Omega.{arith}
use Rattle.laws.proofs.Laying.{length-contents}
use Rattle.naming.proofs.Differ.{none_filed, rest-start, rest_end, rest_here, rest-met, rest-next}
use Rattle.naming.proofs.apart.names_apart.Goals as goal

pub loop-at-init : goal.loop-at-init
loop-at-init c = record {
  paged = c.blank-page.ensures _ (sym (length-contents _ _ _ _ _));
  size = sym (length-contents _ _ _ _ _);
  filed = none_filed _;
  rest = rest-start _ c.requires;
}

pub file-requires : goal.file-requires
file-requires c =
    let v = c.loop-at.invariant in
    let w = c.piece.ensures _ c.turn.ensures v.size in
    (rest_here _ _ _ _ v.size c.loop-at-test.true v.rest c.requires, w, v.filed)

pub returns-in_default : goal.returns-in_default
returns-in_default c =
    let v = c.loop-at.invariant in
    rest-met _ _ _ _ v.size c.loop-at-test.true v.rest c.requires _ c.file.ensures.0 c.in_default.is

pub overflow_add-at : goal.overflow_add-at
overflow_add-at c =
    let v = c.loop-at.invariant in
    omega (arith, (rest-next _ _ _ _ v.size c.loop-at-test.true v.rest c.requires _ c.file.ensures.0 _ c.in-Some.is).inside, c.requires.low)

pub overflow_add-at-in-loop-at : goal.overflow_add-at-in-loop-at
overflow_add-at-in-loop-at c =
    let v = c.loop-at.invariant in
    omega (arith, (rest-next _ _ _ _ v.size c.loop-at-test.true v.rest c.requires _ c.file.ensures.0 _ c.in-Some.is).inside, c.requires.low)

pub loop-at-preserved : goal.loop-at-preserved
loop-at-preserved c =
    let v = c.loop-at.invariant in
    record {
      paged = c.turn.ensures.paged;
      size = v.size;
      filed = c.file.ensures.1 (λ z. cc);
      rest = rest-next _ _ _ _ v.size c.loop-at-test.true v.rest c.requires _ c.file.ensures.0 _ c.in-Some.is;
    }

pub returns : goal.returns
returns c = let v = c.loop-at.invariant in rest_end _ _ _ _ v.size (omega arith) v.rest
