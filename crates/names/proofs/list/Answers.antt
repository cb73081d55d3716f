-- `names::list` keeps its promise.
use mathlib.Core.Path.{sym, ◌∙◌}
use native.Mathlib.Omega.{arith}
use borrow.Author.Rules.{rules}
use Rattle.std.proofs.lemmas.Result.{err_from_is_err_and}
use Rattle.layout.specs.Promises.{Lists}
use Rattle.layout.specs.Calls.{list}
use Rattle.acts.proofs.Naming.{row_is}
use Rattle.front.proofs.Passing.{root-low, root-size}
use Rattle.front.proofs.Fronted.{refused-damaged, sound_of, lost}
use Rattle.names.proofs.Listing.{list-missing, list_none, list-short, row_low, list_done}
use Rattle.names.proofs.list.Goals as goal

pub returns-in_err-shape : goal.returns-in_err-shape
unfolding Lists list
returns-in_err-shape c = let p = err_from_is_err_and c.from_residual.result c.from_residual.ensures.1 in rw (p.1, p.2) (refused-damaged _ c.in_err-shape.ensures _ _ _)

pub nth_entry-requires : goal.nth_entry-requires
nth_entry-requires c = let p = sound_of _ c.in_ok-shape.ensures in root-size p _ c.stream-root.ensures

pub returns-in_err-ok_or : goal.returns-in_err-ok_or
unfolding Lists
returns-in_err-ok_or c =
    let z = lost _ _ _ c.in_err-ok_or.ensures.value in
    let p = err_from_is_err_and c.from_residual-in_err-ok_or.result c.from_residual-in_err-ok_or.ensures.1 in
    rw (p.1, p.2, z.1) (list-missing (sound_of _ c.in_ok-shape.ensures) _ _ _ c.stream-root.ensures (sym z.0 ∙ c.nth_entry.ensures.numbered))

pub returns-then-tray-longest_name : goal.returns-then-tray-longest_name
unfolding Lists
returns-then-tray-longest_name c =
    let w = row_is _ _ _ _ _ _ c.stream-root.ensures (sym c.in_ok-ok_or.ensures.ok_part ∙ c.nth_entry.ensures.numbered) in
    list-short (sound_of _ c.in_ok-shape.ensures) _ _ _ w (omega (arith, c.if-tray-longest_name.true, c.longest_name.ensures))

pub list-requires : goal.list-requires
list-requires c = let p = sound_of _ c.in_ok-shape.ensures in (search rules, root-low p)

pub returns-in_err-row : goal.returns-in_err-row
unfolding Lists
returns-in_err-row c =
    let z = lost _ _ _ c.in_err-row.ensures.value in
    let p = err_from_is_err_and c.from_residual-in_err-row.result c.from_residual-in_err-row.ensures.1 in
    rw (p.1, p.2, z.1) (list_none (sound_of _ c.in_ok-shape.ensures) _ _ _ (sym z.0 ∙ c.list.ensures.0) c.list.ensures.1)

pub size-requires : goal.size-requires
size-requires c = let p = sound_of _ c.in_ok-shape.ensures in row_low p _ c.args.tray.now _ (sym c.in_ok-row.ensures.ok_part ∙ c.list.ensures.0)

pub returns : goal.returns
unfolding Lists
returns c = list_done (sound_of _ c.in_ok-shape.ensures) _ _ _ (sym c.in_ok-row.ensures.ok_part ∙ c.list.ensures.0) (omega (arith, c.if-tray-longest_name.false, c.longest_name.ensures)) _ _ c.list.ensures.1 c.size.ensures
