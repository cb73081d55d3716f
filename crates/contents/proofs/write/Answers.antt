-- `contents::write` keeps its promise.
use mathlib.Core.Path.{ap}
use native.Mathlib.Omega.{arith}
use Rattle.std.proofs.lemmas.Result.{err_from_is_err_and}
use Rattle.layout.specs.Promises.{Writes}
use Rattle.layout.specs.Calls.{write}
use Rattle.front.proofs.Passing.{index-low, size_fits}
use Rattle.front.proofs.Fronted.{refused-first, refused_lost, known_of}
use Rattle.contents.proofs.Named.{refused_past}
use Rattle.contents.proofs.Writing.{write-long, write-full, write_done}
use Rattle.layout.specs.declared.Desc.{Desc}
use Rattle.contents.proofs.write.Goals as goal

pub returns-in_err-shape : goal.returns-in_err-shape
unfolding Writes write
returns-in_err-shape c = let p = err_from_is_err_and c.from_residual.result c.from_residual.ensures.1 in rw (p.1, p.2) (refused-first _ _ _ _ _ c.in_err-shape.ensures)

pub returns-in_err-entry : goal.returns-in_err-entry
unfolding Writes write
returns-in_err-entry c = let p = err_from_is_err_and c.from_residual-in_err-entry.result c.from_residual-in_err-entry.ensures.1 in rw (p.1, p.2) (refused_lost _ _ _ _ _ c.in_ok-shape.ensures c.in_err-entry.ensures.value)

pub stream-t-requires : goal.stream-t-requires
stream-t-requires c = index-low (known_of _ _ c.in_ok-shape.ensures c.in_ok-entry.ensures.ok_part)

pub returns-then-t-place : goal.returns-then-t-place
unfolding Writes write
returns-then-t-place c = refused_past (known_of _ _ c.in_ok-shape.ensures c.in_ok-entry.ensures.ok_part) _ _ (ap (λ (d : Desc). d.size) c.stream-t.ensures) c.if-t-place.true _ _ _

pub returns-then-n-gt-MOST_GIVEN : goal.returns-then-n-gt-MOST_GIVEN
unfolding Writes
returns-then-n-gt-MOST_GIVEN c = write-long (known_of _ _ c.in_ok-shape.ensures c.in_ok-entry.ensures.ok_part) _ c.stream-t.ensures _ c.if-t-place.false _ c.if-n-gt-MOST_GIVEN.true

pub overflow_add-place : goal.overflow_add-place
overflow_add-place c = omega (arith, c.if-t-place.false, c.if-n-gt-MOST_GIVEN.false, size_fits (known_of _ _ c.in_ok-shape.ensures c.in_ok-entry.ensures.ok_part) _ c.stream-t.ensures)

pub wants-requires : goal.wants-requires
wants-requires c = let n = known_of _ _ c.in_ok-shape.ensures c.in_ok-entry.ensures.ok_part in
    (c.shape.ensures.1.least, c.shape.ensures.1.most, omega (arith, c.if-t-place.false, c.if-n-gt-MOST_GIVEN.false, size_fits n _ c.stream-t.ensures))

pub returns-then-not-enough : goal.returns-then-not-enough
unfolding Writes
returns-then-not-enough c = write-full (known_of _ _ c.in_ok-shape.ensures c.in_ok-entry.ensures.ok_part) _ c.stream-t.ensures _ c.if-t-place.false _ _ _ (omega arith) (rw c.shape.ensures.0 at c.wants.ensures).0 _ c.enough.ensures c.if-not-enough.true

pub write-requires : goal.write-requires
write-requires c = let n = known_of _ _ c.in_ok-shape.ensures c.in_ok-entry.ensures.ok_part in
    (index-low n, omega (arith, c.if-t-place.false, c.if-n-gt-MOST_GIVEN.false, size_fits n _ c.stream-t.ensures))

pub returns : goal.returns
unfolding Writes
returns c = write_done (known_of _ _ c.in_ok-shape.ensures c.in_ok-entry.ensures.ok_part) _ c.stream-t.ensures _ c.if-t-place.false _ c.max.result _ (omega arith) (rw c.shape.ensures.0 at c.wants.ensures).0 _ c.enough.ensures _ c.if-not-enough.false c.write.ensures
