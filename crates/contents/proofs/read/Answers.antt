-- `contents::read` keeps its promise.
use Rattle.std.proofs.lemmas.Result.{err_from_is_err_and}
use Rattle.layout.specs.Promises.{Reads}
use Rattle.layout.specs.Calls.{read}
use Rattle.front.proofs.Passing.{index-low}
use Rattle.front.proofs.Fronted.{refused-first, refused_lost, known_of}
use Rattle.contents.proofs.Named.{refused_past, read_done}
use Rattle.contents.proofs.read.Goals as goal

pub returns-in_err-shape : goal.returns-in_err-shape
unfolding Reads read
returns-in_err-shape c = let p = err_from_is_err_and c.from_residual.result c.from_residual.ensures.1 in rw (p.1, p.2) (refused-first _ _ _ _ _ c.in_err-shape.ensures)

pub returns-in_err-entry : goal.returns-in_err-entry
unfolding Reads read
returns-in_err-entry c = let p = err_from_is_err_and c.from_residual-in_err-entry.result c.from_residual-in_err-entry.ensures.1 in rw (p.1, p.2) (refused_lost _ _ _ _ _ c.in_ok-shape.ensures c.in_err-entry.ensures.value)

pub size-requires : goal.size-requires
size-requires c = index-low (known_of _ _ c.in_ok-shape.ensures c.in_ok-entry.ensures.ok_part)

pub returns-then-size-place : goal.returns-then-size-place
unfolding Reads read
returns-then-size-place c = refused_past (known_of _ _ c.in_ok-shape.ensures c.in_ok-entry.ensures.ok_part) _ _ c.size.ensures c.if-size-place.true _ _ _

pub read-requires : goal.read-requires
read-requires c = index-low (known_of _ _ c.in_ok-shape.ensures c.in_ok-entry.ensures.ok_part)

pub returns : goal.returns
unfolding Reads
returns c = read_done (known_of _ _ c.in_ok-shape.ensures c.in_ok-entry.ensures.ok_part) _ _ c.size.ensures c.if-size-place.false _ _ _ c.read.ensures.0 c.read.ensures.1
