-- `contents::size` keeps its promise.
use Rattle.std.proofs.lemmas.Result.{err_from_is_err_and}
use Rattle.layout.specs.Promises.{Sizes}
use Rattle.layout.specs.Calls.{size}
use Rattle.front.proofs.Passing.{index-low}
use Rattle.front.proofs.Fronted.{refused-first, refused_unknown, known_of}
use Rattle.contents.proofs.Named.{size-done}
use Rattle.contents.proofs.size.Goals as goal

pub returns-in_err-shape : goal.returns-in_err-shape
unfolding Sizes size
returns-in_err-shape c = let p = err_from_is_err_and c.from_residual.result c.from_residual.ensures.1 in rw (p.1, p.2) (refused-first _ _ _ _ _ c.in_err-shape.ensures)

pub returns-in_default : goal.returns-in_default
unfolding Sizes size
returns-in_default c = refused_unknown _ _ _ _ _ c.in_ok-shape.ensures c.in_default.is

pub size-requires : goal.size-requires
size-requires c = index-low (known_of _ _ c.in_ok-shape.ensures c.in-Some.is)

pub returns : goal.returns
unfolding Sizes
returns c = size-done (known_of _ _ c.in_ok-shape.ensures c.in-Some.is) _ c.size.ensures
