-- `contents::truncate` keeps its promise.
use native.Mathlib.Omega.{arith}
use Rattle.std.proofs.lemmas.Result.{err_from_is_err_and}
use Rattle.layout.specs.Promises.{Truncates}
use Rattle.layout.specs.Calls.{truncate}
use Rattle.front.proofs.Passing.{index-low, size_low}
use Rattle.front.proofs.Fronted.{refused-first, refused_lost, known_of}
use Rattle.contents.proofs.Named.{refused_past, truncate-done}
use Rattle.contents.proofs.truncate.Goals as goal

pub returns-in_err-shape : goal.returns-in_err-shape
unfolding Truncates truncate
returns-in_err-shape c = let p = err_from_is_err_and c.from_residual.result c.from_residual.ensures.1 in rw (p.1, p.2) (refused-first _ _ _ _ _ c.in_err-shape.ensures)

pub returns-in_err-entry : goal.returns-in_err-entry
unfolding Truncates truncate
returns-in_err-entry c = let p = err_from_is_err_and c.from_residual-in_err-entry.result c.from_residual-in_err-entry.ensures.1 in rw (p.1, p.2) (refused_lost _ _ _ _ _ c.in_ok-shape.ensures c.in_err-entry.ensures.value)

pub size-size-requires : goal.size-size-requires
size-size-requires c = index-low (known_of _ _ c.in_ok-shape.ensures c.in_ok-entry.ensures.ok_part)

pub returns-then-size-n : goal.returns-then-size-n
unfolding Truncates truncate
returns-then-size-n c = refused_past (known_of _ _ c.in_ok-shape.ensures c.in_ok-entry.ensures.ok_part) _ _ c.size-size.ensures c.if-size-n.true _ _ _

pub truncate-requires : goal.truncate-requires
truncate-requires c = let n = known_of _ _ c.in_ok-shape.ensures c.in_ok-entry.ensures.ok_part in
    (index-low n, omega (arith, c.size-size.ensures, c.if-size-n.false, size_low n))

pub returns : goal.returns
unfolding Truncates
returns c = truncate-done (known_of _ _ c.in_ok-shape.ensures c.in_ok-entry.ensures.ok_part) _ _ c.size-size.ensures c.if-size-n.false _ c.truncate.ensures
