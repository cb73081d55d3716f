-- `names::create` keeps its promise.
use mathlib.Core.Path.{refl, sym, ◌∙◌}
use borrow.Author.Rules.{rules}
use Rattle.std.proofs.lemmas.Result.{err_from_is_err_and}
use Rattle.layout.specs.Promises.{Creates}
use Rattle.layout.specs.Calls.{create}
use Rattle.front.proofs.Passing.{root_lower, fits_of, name_fits}
use Rattle.front.proofs.Fronted.{refused-first, refused-known, fresh_of}
use Rattle.names.proofs.Creating.{create-full, create_cramped, create-done}
use Rattle.names.proofs.create.Goals as goal

pub returns-in_err-shape : goal.returns-in_err-shape
unfolding Creates create
returns-in_err-shape c = let p = err_from_is_err_and c.from_residual.result c.from_residual.ensures.1 in rw (p.1, p.2) (refused-first _ _ _ _ _ c.in_err-shape.ensures)

pub returns-then-is_some : goal.returns-then-is_some
unfolding Creates create
returns-then-is_some c = refused-known _ _ _ _ _ c.in_ok-shape.ensures (sym c.is_some.ensures ∙ c.if-is_some.true)

pub returns-then-full : goal.returns-then-full
unfolding Creates
returns-then-full c = create-full (fresh_of _ _ c.in_ok-shape.ensures (sym c.is_some.ensures ∙ c.if-is_some.false)) _ c.full.ensures c.if-full.true

pub create_wants-requires : goal.create_wants-requires
create_wants-requires c = let n = fresh_of _ _ c.in_ok-shape.ensures (sym c.is_some.ensures ∙ c.if-is_some.false) in
    (search rules, name_fits _ _ refl n.good, (fits_of n.passed).size_of_table, root_lower n.passed)

pub returns-then-not-enough : goal.returns-then-not-enough
unfolding Creates
returns-then-not-enough c = create_cramped (fresh_of _ _ c.in_ok-shape.ensures (sym c.is_some.ensures ∙ c.if-is_some.false)) _ c.full.ensures c.if-full.false _ c.create_wants.ensures _ c.enough.ensures c.if-not-enough.true

pub create-requires : goal.create-requires
create-requires c = let n = fresh_of _ _ c.in_ok-shape.ensures (sym c.is_some.ensures ∙ c.if-is_some.false) in
    (fits_of n.passed, search rules, name_fits _ _ refl n.good, root_lower n.passed)

pub returns : goal.returns
unfolding Creates
returns c = create-done (fresh_of _ _ c.in_ok-shape.ensures (sym c.is_some.ensures ∙ c.if-is_some.false)) _ c.full.ensures c.if-full.false _ c.create_wants.ensures _ c.enough.ensures _ c.if-not-enough.false c.create.ensures
