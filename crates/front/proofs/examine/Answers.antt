-- `front::examine` keeps its promise.
use Rattle.std.proofs.lemmas.Result.{err_from_is_err_and}
use mathlib.Core.Path.{◌∙◌}
use Rattle.front.proofs.Passing.{shift_fits, shape_fits}
use Rattle.front.proofs.Fronted.{examined_damaged, examined_sound}
use Rattle.front.proofs.examine.Goals as goal

pub returns-in_err-free : goal.returns-in_err-free
returns-in_err-free c = let p = err_from_is_err_and c.from_residual.result c.from_residual.ensures.1 in rw (p.1, p.2) (examined_damaged _ _ c.in_err-free.ensures.0)

pub shape-requires : goal.shape-requires
shape-requires c = shift_fits _ c.in_ok-free.ensures.0

pub of-requires : goal.of-requires
of-requires c = shape_fits _ _ c.in_ok-free.ensures.0 c.shape.ensures

pub returns : goal.returns
returns c = examined_sound _ c.in_ok-free.ensures.0 _ (c.of.ensures ∙ c.shape.ensures) _ c.in_ok-free.ensures.1
