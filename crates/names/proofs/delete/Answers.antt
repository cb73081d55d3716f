-- `names::delete` keeps its promise.
use borrow.Author.Rules.{rules}
use Rattle.std.proofs.lemmas.Result.{err_from_is_err_and}
use Rattle.layout.specs.Promises.{Deletes}
use Rattle.layout.specs.Calls.{delete}
use Rattle.front.proofs.Passing.{index-low, entry_fits, pull_fits}
use Rattle.front.proofs.Fronted.{refused-first, refused_unknown, known_of}
use Rattle.names.proofs.Deleting.{delete-done}
use Rattle.names.proofs.delete.Goals as goal

pub returns-in_err-shape : goal.returns-in_err-shape
unfolding Deletes delete
returns-in_err-shape c = let p = err_from_is_err_and c.from_residual.result c.from_residual.ensures.1 in rw (p.1, p.2) (refused-first _ _ _ _ _ c.in_err-shape.ensures)

pub returns-in_default : goal.returns-in_default
unfolding Deletes delete
returns-in_default c = refused_unknown _ _ _ _ _ c.in_ok-shape.ensures c.in_default.is

pub delete-requires : goal.delete-requires
delete-requires c = let n = known_of _ _ c.in_ok-shape.ensures c.in-Some.is in
    (search rules, index-low n, entry_fits n, pull_fits n)

pub returns : goal.returns
unfolding Deletes
returns c = delete-done (known_of _ _ c.in_ok-shape.ensures c.in-Some.is) _ c.delete.ensures
