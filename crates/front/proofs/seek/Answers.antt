-- `front::seek` keeps its promise.
use Rattle.std.proofs.lemmas.Result.{err_from_is_err_and}
use Rattle.front.proofs.Passing.{root-low, name_fits}
use Rattle.front.proofs.Fronted.{sound_of, sought_damaged, sought_bad, sought-done}
use borrow.Author.Rules.{rules}
use Rattle.front.proofs.seek.Goals as goal

pub returns-in_err-shape : goal.returns-in_err-shape
returns-in_err-shape c = let p = err_from_is_err_and c.from_residual.result c.from_residual.ensures.1 in rw (p.1, p.2) (sought_damaged _ _ c.in_err-shape.ensures)

pub returns-then-not-good_name : goal.returns-then-not-good_name
returns-then-not-good_name c = sought_bad _ _ _ (sound_of _ c.in_ok-shape.ensures) _ c.good_name.ensures c.if-not-good_name.true

pub look_up-requires : goal.look_up-requires
look_up-requires c = let p = sound_of _ c.in_ok-shape.ensures in
    (search rules, name_fits _ _ c.good_name.ensures c.if-not-good_name.false, root-low p)

pub returns : goal.returns
returns c = sought-done _ _ _ (sound_of _ c.in_ok-shape.ensures) _ c.good_name.ensures c.if-not-good_name.false _ _ c.look_up.ensures c.ok-found.ensures.value
